use Rattle.std.proofs.Common.{◌≡◌, length}
use Rattle.qc_starts.specs.Noting.{Wrote}
use Rattle.qc_starts.specs.Queue.{IsQueued}
use Rattle.qc_starts.specs.Spread.{left}
use Rattle.qc_starts.proofs.SpreadLemmas.{IsLooking}
use Rattle.qc_starts.proofs.spread.Spread.raise_from.Given as goal

abbrev pub invariant-loop-arc : goal.invariant-loop-arc
invariant-loop-arc l = record {
  can : goal.iterator-loop-arc.can_next l.arc-iterator;
  finite : goal.iterator-loop-arc.is_finite l.arc-iterator;
  looking : IsLooking l.network l.root l.task l.fn.self.olds.items l.self.values.cells l.self.pending.items l.arc-iterator
      (left (length l.network.inst.tasks) l.root l.fn.self.olds.items l.fn.self.values.cells l.fn.self.pending.items);
  size : length l.self.pending.items ≡ length l.fn.self.pending.items;
  olds : l.self.olds.items ≡ l.fn.self.olds.items;
  queued : IsQueued l.self;
  wrote : Wrote l.fn.self.values l.self.values;
}
