use Rattle.std.proofs.Common.{ℕ, ◌+◌, ◌<◌, get_or}
use Rattle.qc_odds.specs.Added.{crane_added}
use Rattle.qc_odds.specs.Small.{AreSmallCranes, IsSmallCrane}
use Rattle.qc_odds.specs.Sums.{no_crane_sum}
use Rattle.qc_odds.proofs.AddLemmas.{IsChanged}
use Rattle.qc_odds.proofs.sums.add_cranes.Given as goal

abbrev pub invariant-loop-crane : goal.invariant-loop-crane
invariant-loop-crane l = record {
  changed : IsChanged (crane_added l.course.inst l.course.plan l.lengths l.course.starts l.last) no_crane_sum l.initial.sums l.crane l.sums;
  small : (runs : ℕ) → AreSmallCranes runs l.initial.sums → (k : ℕ) → k < l.crane → IsSmallCrane (runs + 1) (get_or l.sums k no_crane_sum);
}
