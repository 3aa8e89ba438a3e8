use Rattle.std.proofs.Common.{ℕ, ◌+◌, ◌≤◌}
use Rattle.qc_model.specs.Numbers.{most_distance, most_ready}
use Rattle.qc_odds.specs.Course.{end_in}
use Rattle.qc_odds.specs.Lengths.{most_length}
use Rattle.qc_odds.specs.Moments.{AreEarly}
use Rattle.qc_odds.proofs.DueLemmas.{IsDue}
use Rattle.qc_odds.proofs.pass.due.Given as goal

abbrev pub invariant-loop-i : goal.invariant-loop-i
invariant-loop-i l = record {
  is : IsDue l.inst l.slots (end_in l.lengths l.starts) l.j l.i l.due;
  soon : (moment : ℕ) → most_ready + most_distance ≤ moment → AreEarly l.starts moment → l.due ≤ moment + (most_length + most_distance);
}
