use Rattle.std.proofs.Common.{◌≡◌, ◌+◌, ◌-◌, ◌≤◌, length, sum_by}
use Rattle.std.specs.List.{range_with_len}
use Rattle.qc_motion.specs.Waypoints.{waypoint}
use Rattle.qc_figures.specs.Figures.{clipped, leg}
use Rattle.qc_figures.proofs.figured.moving.Given as goal

-- the legs so far, which take no more than the time so far
abbrev pub invariant-loop-number : goal.invariant-loop-number
invariant-loop-number l = record {
  legs : l.time
      ≡ sum_by (λ i. leg l.from l.till (waypoint l.points i) (waypoint l.points (i + 1))) (range_with_len 0 (l.number - 1));
  within : l.time ≤ clipped l.from l.till (waypoint l.points (l.number - 1)).at;
  passed : l.number - 1 ≤ length l.points - 1;
}
