use Rattle.qc_motion.specs.Sweep.{IsBelow, IsFirst, descent, floor_place, stopping}
use Rattle.qc_motion.proofs.sweep.Sweep.fall_end.Given as goal

abbrev pub invariant-loop-number : goal.invariant-loop-number
invariant-loop-number l =
    IsFirst (IsBelow l.self l.at l.place) (stopping l.self l.at l.place) l.number
    (descent l.at l.place (floor_place l.self)) l.end
