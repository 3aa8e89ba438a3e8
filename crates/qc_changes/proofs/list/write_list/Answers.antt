use Rattle.std.specs.List.{flat_map}
use Rattle.qc_io.proofs.WritesLemmas.{writes_cut, writes_then}
use Rattle.qc_changes.specs.ListText.{header, row_line}
use Rattle.qc_changes.proofs.list.write_list.Goals as goal

pub returns-in_err-put_header : goal.returns-in_err-put_header
returns-in_err-put_header g c =
    writes_cut (g.K.Sink.view c.args.sink.now) (g.K.Sink.view c.put_header.new.sink) header (flat_map row_line c.args.rows.now)
    _ c.from_residual.result c.from_residual.ensures.0 c.in_err-put_header.ensures

pub returns : goal.returns
returns g c =
    writes_then (g.K.Sink.view c.args.sink.now) (g.K.Sink.view c.put_header.new.sink) (g.K.Sink.view c.put_rows.new.sink) header (flat_map row_line c.args.rows.now)
    c.put_rows.result c.in_ok-put_header.ensures c.put_rows.ensures
