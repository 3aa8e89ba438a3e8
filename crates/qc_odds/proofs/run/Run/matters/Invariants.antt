use Rattle.std.proofs.Common.{◌<◌, ℕ}
use Rattle.qc_odds.specs.Critical.{HoldsUp}
use Rattle.qc_odds.proofs.run.Run.matters.Given as goal

abbrev pub invariant-loop-next : goal.invariant-loop-next
invariant-loop-next l = (k : ℕ) → k < l.next → HoldsUp l.self.inst l.self.plan l.self.lengths l.self.starts l.marked l.j k → ⊥
