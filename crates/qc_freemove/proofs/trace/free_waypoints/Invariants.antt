use Rattle.std.proofs.Common.{◌≡◌, ◌-◌, ◌≤◌, length}
use Rattle.qc_freemove.proofs.Traced.{AreSoFar, HasSpent}
use Rattle.qc_freemove.proofs.trace.free_waypoints.Given as goal

abbrev pub invariant-loop-at : goal.invariant-loop-at
invariant-loop-at l = record {
  points : AreSoFar l.sweep l.track.points l.at;
  spent : HasSpent l.sweep (length l.track.points) l.at;
  low : l.at ≤ l.end;
  room : l.track.tasks ≡ l.fn.track.tasks;
}

abbrev pub decreases-loop-at : goal.decreases-loop-at
decreases-loop-at l = l.end - l.at
