-- inner: what is known of cranes whose trips are kept.
use Rattle.std.specs.Prelude.{ℕ, List, Option}
use Rattle.qc_close.specs.Model.{AreInRange, InstanceView, Valid}
use Rattle.qc_close.specs.Bars.{IsTable}
use Rattle.qc_close.specs.Spots.{AreSpots}
use Rattle.qc_close.specs.Trips.{AreTrips}
use Rattle.qc_close.specs.declared.bars.Table.{Table}
use Rattle.qc_close.specs.declared.spots.Spots.{Spots}
use Rattle.qc_close.specs.declared.trip.Trips.{Trips}

pub record IsMoving (inst : InstanceView) (cranes : List (Option ℕ)) (s : Spots) (t : Table) (trips : Trips) : Type 0
  where
    pub valid : Valid inst
    pub range : AreInRange inst cranes
    pub spots : AreSpots inst s
    pub sums : IsTable inst cranes s t
    pub kept : AreTrips inst cranes s.of_task.items trips
