use Rattle.std.proofs.Common.{◌≡◌, ◌-◌, ◌≤◌, length, slice_index}
use Rattle.qc_close.specs.Trips.{IsWideTrip, at_spot, trip_of}
use Rattle.qc_close.proofs.TripLemmas.{from_task}
use Rattle.qc_close.proofs.trip.trip_at.Given as goal

abbrev pub invariant-going : goal.invariant-going
invariant-going l = record {
  behind : l.fn.first ≤ l.task;
  within : l.task ≤ length l.inst.tasks;
  wide : IsWideTrip l.task l.trip;
  spot : l.spot ≡ slice_index l.spots l.fn.first;
  goes : from_task l.inst l.cranes l.crane (at_spot l.spots l.spot) l.trip l.task ≡ trip_of l.inst l.cranes l.spots l.crane l.spot;
}

abbrev pub decreases-going : goal.decreases-going
decreases-going l = length l.inst.tasks - l.task
