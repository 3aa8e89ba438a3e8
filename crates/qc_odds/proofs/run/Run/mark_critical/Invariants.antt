use Rattle.std.proofs.Common.{◌≤◌, length}
use Rattle.qc_odds.proofs.MarkLemmas.{IsMarkedFrom}
use Rattle.qc_odds.proofs.run.Run.mark_critical.Given as goal

abbrev pub invariant-loop-left : goal.invariant-loop-left
invariant-loop-left l = record {
  marked : IsMarkedFrom l.self.inst l.self.plan l.self.lengths l.self.starts l.last l.turns l.left l.marked;
  within : l.left ≤ length l.turns;
}

abbrev pub decreases-loop-left : goal.decreases-loop-left
decreases-loop-left l = l.left
