use Rattle.qc_starts.specs.Place.{IsSoonest}
use Rattle.qc_starts.proofs.spread.Spread.soonest.Given as goal

abbrev pub invariant-loop-arc : goal.invariant-loop-arc
invariant-loop-arc l = record {
  can : goal.iterator-loop-arc.can_next l.arc-iterator;
  finite : goal.iterator-loop-arc.is_finite l.arc-iterator;
  soonest : IsSoonest l.network l.self.values.cells l.task l.start l.raiser l.arc-iterator;
}
