use Rattle.std.proofs.Common.{ℕ, ◌+◌, ◌≤◌}
use Rattle.qc_model.specs.Numbers.{most_distance}
use Rattle.qc_rest.specs.Passing.{EndBy}
use Rattle.qc_rest.proofs.PassLemmas.{IsDue}
use Rattle.qc_rest.proofs.pass.due.Given as goal

abbrev pub invariant-loop-i : goal.invariant-loop-i
invariant-loop-i l = record {
  is : IsDue l.inst l.slots l.ends l.first l.j l.i l.due;
  soon : (base : ℕ) → l.first ≤ base → EndBy l.ends base → l.due ≤ base + most_distance;
}
