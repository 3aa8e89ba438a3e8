use Rattle.qc_close.proofs.TripLemmas.{AreFilled}
use Rattle.qc_close.proofs.trip.fill_trips.Given as goal

abbrev pub invariant-loop-cell : goal.invariant-loop-cell
invariant-loop-cell l = AreFilled l.inst l.trips.cells.items l.cell
