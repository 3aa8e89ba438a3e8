use Rattle.std.proofs.Common.{◌∙◌, ap}
use Rattle.qc_io.proofs.WritesLemmas.{items_cut}
use Rattle.qc_changes.specs.ListText.{row_line}
use Rattle.qc_changes.proofs.list.put_rows.Goals as goal

pub returns-in_err-put_all : goal.returns-in_err-put_all
returns-in_err-put_all g c =
    items_cut row_line c.args.rows.now c.loop-row.row-index c.row-item.result (g.K.Sink.view c.args.sink.now) (g.K.Sink.view c.loop-row.sink) (g.K.Sink.view c.put_all.new.sink)
    c.as_bytes.result.now _ c.from_residual.result c.from_residual.ensures.0 c.loop-row-test.true
    (c.as_bytes.ensures.bytes ∙ c.row_line.ensures.line ∙ ap row_line c.row-item.is) c.loop-row.invariant c.in_err-put_all.ensures.writes
