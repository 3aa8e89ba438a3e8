use Rattle.std.proofs.Common.{take, Ok}
use Rattle.std.specs.List.{flat_map}
use Rattle.qc_io.specs.Writes.{Writes}
use Rattle.qc_motion.proofs.lines.put_points.Given as goal

abbrev pub invariant-loop-point : goal.invariant-loop-point
invariant-loop-point g l =
    Writes (g.K.Sink.view l.initial.sink) (g.K.Sink.view l.sink)
    (flat_map g.P.Point.text_of (take l.point-index l.points)) (Ok tt)
