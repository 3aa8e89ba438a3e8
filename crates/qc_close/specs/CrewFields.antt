-- inner: the fields of a crew, as clauses see them and as they are kept.
use Rattle.std.specs.Prelude.{◌≡◌, length}
use Rattle.qc_close.specs.Model.{Valid, AreInRange, no_cranes, grain, is_short_before}
use Rattle.qc_close.specs.declared.closed.TheConstants.{LAST_CLOSED}
use Rattle.qc_close.specs.declared.crew.Crew.TheInside.{Inside}
use Rattle.qc_close.specs.Bars.{IsTable}
use Rattle.qc_close.specs.Crews.{CrewView}
use Rattle.qc_close.specs.Lasts.{IsLast}
use Rattle.qc_close.specs.Lefts.{IsLeft}
use Rattle.qc_close.specs.Spots.{AreSoonest, AreSpots}
use Rattle.qc_close.specs.Trips.{AreTrips}

abbrev pub view_of : Inside → CrewView
view_of f = record { inst = f.inst; turn = f.turn; cranes = f.cranes.items }

pub record IsKept (f : Inside) : Type 0 where
  pub valid : Valid f.inst
  pub count : length f.cranes.items ≡ length f.inst.tasks
  pub range : AreInRange f.inst f.cranes.items
  pub spots : AreSpots f.inst f.spots
  pub soonest : AreSoonest f.inst f.cranes.items f.soonest.items
  pub table : IsTable f.inst f.cranes.items f.spots f.table
  pub trips : AreTrips f.inst f.cranes.items f.spots.of_task.items f.trips
  pub left : IsLeft f.inst f.cranes.items f.left.items
  pub step : f.step ≡ grain f.inst
  pub bare : IsLast (is_short_before f.inst f.turn (no_cranes f.inst)) LAST_CLOSED f.bare
