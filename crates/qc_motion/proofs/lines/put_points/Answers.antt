use Rattle.std.proofs.Common.{ap, ◌∙◌}
use Rattle.qc_io.proofs.WritesLemmas.{items_cut}
use Rattle.qc_motion.proofs.lines.put_points.Goals as goal

pub returns-in_err-put_all : goal.returns-in_err-put_all
returns-in_err-put_all g c =
    items_cut g.P.Point.text_of c.args.points.now c.loop-point.point-index c.point-item.result
    (g.K.Sink.view c.args.sink.now) (g.K.Sink.view c.loop-point.sink) (g.K.Sink.view c.put_all.new.sink)
    c.as_bytes.result.now _ c.from_residual.result c.from_residual.ensures.0 c.loop-point-test.true
    (c.as_bytes.ensures.bytes ∙ c.text.ensures ∙ ap g.P.Point.text_of c.point-item.is) c.loop-point.invariant
    c.in_err-put_all.ensures.writes
