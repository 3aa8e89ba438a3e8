use Rattle.std.proofs.Common.{arith}
use Rattle.qc_close.proofs.TripLemmas.{all_filled}
use Rattle.qc_close.proofs.trip.fill_trips.Goals as goal

pub returns : goal.returns
returns c =
    all_filled c.args.inst.now c.loop-cell.trips c.loop-cell.cell c.loop-cell.invariant
    (omega (arith, c.loop-cell-test.false, c.crane_count.ensures.count))
