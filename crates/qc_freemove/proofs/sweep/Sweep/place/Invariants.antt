use Rattle.std.proofs.Common.{◌≡◌}
use Rattle.qc_freemove.specs.FreeSweep.{IsHalfPlace, floor_place, highest, hold_of}
use Rattle.qc_freemove.proofs.sweep.Sweep.place.Given as goal

abbrev pub invariant-loop-number : goal.invariant-loop-number
invariant-loop-number l =
    (l.place ≡ highest (hold_of l.self) (floor_place l.self) l.at l.number) × IsHalfPlace l.place
