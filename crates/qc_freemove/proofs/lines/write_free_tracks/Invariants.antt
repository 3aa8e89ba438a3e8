use Rattle.std.proofs.Common.{◌≡◌, Ok}
use Rattle.qc_motion.proofs.LineLemmas.{WritesFirst}
use Rattle.qc_freemove.specs.FreeTracksText.{point_text}
use Rattle.qc_freemove.specs.HalfPoints.{AreHalfPoints}
use Rattle.qc_freemove.proofs.lines.write_free_tracks.Given as goal

abbrev pub invariant-loop-number : goal.invariant-loop-number
invariant-loop-number g l = record {
  lines : WritesFirst point_text (AreHalfPoints l.inst l.sched) l.inst.cranes (g.K.Sink.view l.initial.sink)
      (g.K.Sink.view l.sink) l.number (Ok tt);
  room : l.track.tasks ≡ l.initial.track.tasks;
}
