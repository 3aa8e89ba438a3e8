use Rattle.qc_close.specs.Bands.{AreStacked, IsFloorOf}
use Rattle.qc_close.proofs.crew.Crew.are_stacked.Given as goal

abbrev pub invariant-loop-crane : goal.invariant-loop-crane
invariant-loop-crane l = record {
  floor : IsFloorOf l.self.inst l.self.cranes l.tasks l.crane l.floor;
  stacked : AreStacked l.self.inst l.self.cranes l.tasks l.crane;
}
