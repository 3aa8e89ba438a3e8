use Rattle.std.proofs.Common.{◌≡◌, length, None}
use Rattle.qc_figures.specs.Motions.{ArePaths}
use Rattle.qc_figures.proofs.tracks.free_tracks.Given as goal

-- the waypoints of the cranes so far
abbrev pub invariant-loop-crane : goal.invariant-loop-crane
invariant-loop-crane l = record {
  are : ArePaths l.inst l.sched None l.paths.items;
  count : length l.paths.items ≡ l.crane;
  room : l.track.tasks ≡ length l.inst.tasks;
}
