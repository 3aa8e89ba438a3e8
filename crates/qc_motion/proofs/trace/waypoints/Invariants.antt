use Rattle.std.proofs.Common.{◌≡◌, ◌-◌}
use Rattle.qc_model.specs.Limits.{IsPlaceNear}
use Rattle.qc_motion.proofs.Traced.{IsTraced}
use Rattle.qc_motion.proofs.trace.waypoints.Given as goal

abbrev pub invariant-loop-at : goal.invariant-loop-at
invariant-loop-at l = IsTraced l.inst l.sched l.way l.crane l.end l.sweep l.track.points l.at l.place
    × IsPlaceNear l.place
    × (l.track.tasks ≡ l.fn.track.tasks)

abbrev pub decreases-loop-at : goal.decreases-loop-at
decreases-loop-at l = l.end - l.at
