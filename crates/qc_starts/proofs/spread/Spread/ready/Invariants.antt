use Rattle.std.proofs.Common.{None}
use Rattle.qc_starts.specs.Place.{IsReadyPick}
use Rattle.qc_starts.proofs.spread.Spread.ready.Given as goal

abbrev pub invariant-loop-task : goal.invariant-loop-task
invariant-loop-task l = IsReadyPick l.network l.self.pending.items l.task None
