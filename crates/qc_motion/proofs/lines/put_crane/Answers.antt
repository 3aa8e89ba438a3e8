use Rattle.std.proofs.Common.{◌++◌, codes}
use Rattle.std.specs.List.{flat_map}
use Rattle.qc_io.proofs.WritesLemmas.{writes_cut, writes_then}
use Rattle.qc_motion.proofs.lines.put_crane.Goals as goal

pub returns : goal.returns
returns g c =
    let points = flat_map g.P.Point.text_of c.args.points.now in
    writes_then (g.K.Sink.view c.args.sink.now) (g.K.Sink.view c.put_head.new.sink) (g.K.Sink.view c.put_all.new.sink)
    (codes "crane " ++ c.args.name.now) (points ++ codes "\n") c.put_all.result c.in_ok-put_head.ensures
    (writes_then (g.K.Sink.view c.put_head.new.sink) (g.K.Sink.view c.put_points.new.sink)
    (g.K.Sink.view c.put_all.new.sink) points (codes "\n") c.put_all.result c.in_ok-put_points.ensures
    c.put_all.ensures.writes)

pub returns-in_err-put_points : goal.returns-in_err-put_points
returns-in_err-put_points g c =
    let points = flat_map g.P.Point.text_of c.args.points.now in
    writes_then (g.K.Sink.view c.args.sink.now) (g.K.Sink.view c.put_head.new.sink)
    (g.K.Sink.view c.put_points.new.sink) (codes "crane " ++ c.args.name.now) (points ++ codes "\n") _
    c.in_ok-put_head.ensures
    (writes_cut (g.K.Sink.view c.put_head.new.sink) (g.K.Sink.view c.put_points.new.sink) points (codes "\n") _
    c.from_residual-in_err-put_points.result c.from_residual-in_err-put_points.ensures.0
    c.in_err-put_points.ensures)

pub returns-in_err-put_head : goal.returns-in_err-put_head
returns-in_err-put_head g c =
    writes_cut (g.K.Sink.view c.args.sink.now) (g.K.Sink.view c.put_head.new.sink) (codes "crane " ++ c.args.name.now)
    (flat_map g.P.Point.text_of c.args.points.now ++ codes "\n") _ c.from_residual.result c.from_residual.ensures.0
    c.in_err-put_head.ensures
