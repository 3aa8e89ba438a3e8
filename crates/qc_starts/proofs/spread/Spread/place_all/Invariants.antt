use Rattle.std.proofs.Common.{◌≡◌}
use Rattle.qc_starts.specs.Noting.{marks}
use Rattle.qc_starts.specs.Place.{ArePlaced}
use Rattle.qc_starts.proofs.spread.Spread.place_all.Given as goal

abbrev pub invariant-loop-task : goal.invariant-loop-task
invariant-loop-task l = record {
  placed : ArePlaced l.network l.self.values.cells l.self.pending.items;
  trail : l.self.values.trail ≡ l.fn.self.values.trail;
  noted : l.self.values.noted.items ≡ l.fn.self.values.noted.items;
  olds : l.self.olds.items ≡ l.fn.self.olds.items;
  queue : l.self.queue ≡ l.fn.self.queue;
}

abbrev pub decreases-loop-task : goal.decreases-loop-task
decreases-loop-task l = marks l.self.pending.items
