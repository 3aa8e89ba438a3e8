use Rattle.std.proofs.Common.{◌∙◌, ap, arith, subst}
use Rattle.qc_io.proofs.WritesLemmas.{items_cut, items_more}
use Rattle.qc_rest_files.specs.LeftLines.{IsPlainIfLeft, left_line}
use Rattle.qc_rest_files.proofs.LeftLemmas.{all_more, all_of_whole}
use Rattle.qc_rest_files.proofs.list.put_left.Goals as goal

pub returns-in_err-put_all-clause-writes : goal.returns-in_err-put_all-clause-writes
returns-in_err-put_all-clause-writes g c =
    items_cut (left_line c.args.tasks.now) c.args.rows.now c.loop-row.row-index c.row-item.result (g.K.Sink.view c.args.sink.now) (g.K.Sink.view c.loop-row.sink) (g.K.Sink.view c.put_all.new.sink)
    c.as_bytes.result.now _ c.from_residual.result c.from_residual.ensures.0 c.loop-row-test.true
    (c.as_bytes.ensures.bytes ∙ c.left_line.ensures.line ∙ ap (left_line c.args.tasks.now) c.row-item.is) c.loop-row.invariant.0 c.in_err-put_all.ensures.writes

pub loop-row-preserved : goal.loop-row-preserved
loop-row-preserved g c = (
  items_more (left_line c.args.tasks.now) c.args.rows.now c.loop-row.row-index c.row-item.result (g.K.Sink.view c.args.sink.now) (g.K.Sink.view c.loop-row.sink) (g.K.Sink.view c.put_all.new.sink)
      c.as_bytes.result.now c.loop-row-test.true (c.as_bytes.ensures.bytes ∙ c.left_line.ensures.line ∙ ap (left_line c.args.tasks.now) c.row-item.is) c.loop-row.invariant.0 c.in_ok-put_all.ensures.writes,
  all_more (IsPlainIfLeft c.args.tasks.now) c.args.rows.now c.loop-row.row-index c.row-item.result c.loop-row-test.true c.loop-row.invariant.1 (subst (IsPlainIfLeft c.args.tasks.now) c.row-item.is c.left_line.ensures.plain),
)

pub returns-clause-plain : goal.returns-clause-plain
returns-clause-plain g c = all_of_whole (IsPlainIfLeft c.args.tasks.now) c.args.rows.now c.loop-row.row-index (omega arith) c.loop-row.invariant.1
