use Rattle.std.proofs.Common.{◌≡◌, [], length}
use Rattle.qc_starts.specs.Noting.{Wrote}
use Rattle.qc_starts.specs.Queue.{IsQueued}
use Rattle.qc_starts.specs.Spread.{IsSpreading, left}
use Rattle.qc_starts.proofs.spread.Spread.settle.Given as goal

abbrev pub invariant-loop-task : goal.invariant-loop-task
invariant-loop-task l = record {
  spreading : IsSpreading l.network l.root l.fn.self.olds.items l.self.values.cells l.self.pending.items [];
  size : length l.self.pending.items ≡ length l.fn.self.pending.items;
  olds : l.self.olds.items ≡ l.fn.self.olds.items;
  queued : IsQueued l.self;
  wrote : Wrote l.fn.self.values l.self.values;
}

abbrev pub decreases-loop-task : goal.decreases-loop-task
decreases-loop-task l =
    left (length l.network.inst.tasks) l.root l.fn.self.olds.items l.self.values.cells l.self.pending.items
