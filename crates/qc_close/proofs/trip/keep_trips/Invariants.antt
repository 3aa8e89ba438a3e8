use Rattle.std.proofs.Common.{slice_index}
use Rattle.qc_close.specs.Trips.{trip_of}
use Rattle.qc_close.proofs.TripLemmas.{AreKept}
use Rattle.qc_close.proofs.trip.keep_trips.Given as goal

abbrev pub invariant-loop-crane : goal.invariant-loop-crane
invariant-loop-crane l =
    AreKept (λ w. trip_of l.inst l.cranes l.of_task w (slice_index l.of_task l.fn.task)) l.initial.trips.cells.items
    l.trips.cells.items (slice_index l.of_task l.fn.task) l.crane
