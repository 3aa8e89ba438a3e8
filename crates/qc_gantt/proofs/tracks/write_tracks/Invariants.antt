use Rattle.std.proofs.Common.{◌≡◌, Ok}
use Rattle.qc_motion.proofs.LineLemmas.{WritesFirst}
use Rattle.qc_gantt.specs.TracksText.{IsTrack}
use Rattle.qc_motion.specs.CraneLines.{waypoint_text}
use Rattle.qc_gantt.proofs.tracks.write_tracks.Given as goal

abbrev pub invariant-loop-number : goal.invariant-loop-number
invariant-loop-number g l = record {
  lines : WritesFirst waypoint_text (IsTrack l.inst l.sched l.way) l.inst.cranes (g.K.Sink.view l.initial.sink)
      (g.K.Sink.view l.sink) l.number (Ok tt);
  room : l.track.tasks ≡ l.initial.track.tasks;
}
