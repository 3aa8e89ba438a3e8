-- inner: what a crew keeps beside its instance, before any task has a crane.
use Rattle.std.specs.Prelude.{◌≡◌, ℕ, List, length}
use Rattle.qc_close.specs.Model.{no_cranes, InstanceView}
use Rattle.qc_close.specs.declared.crew.Lists.{Lists}
use Rattle.qc_close.specs.Bars.{IsTable}
use Rattle.qc_close.specs.Lefts.{IsLeft}
use Rattle.qc_close.specs.Spots.{AreSpots}
use Rattle.qc_close.specs.Trips.{AreTrips}

-- they are those of an instance of which no task has a crane
pub record AreLists (inst : InstanceView) (l : Lists) : Type 0 where
  pub cranes : l.cranes.items ≡ no_cranes inst
  pub spots : AreSpots inst l.spots
  pub soonest : length l.soonest.items ≡ length inst.tasks
  pub table : IsTable inst (no_cranes inst) l.spots l.table
  pub trips : (spots : List ℕ) → AreTrips inst (no_cranes inst) spots l.trips
  pub left : IsLeft inst (no_cranes inst) l.left.items
