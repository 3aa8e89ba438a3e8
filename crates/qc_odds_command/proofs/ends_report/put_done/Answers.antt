use Rattle.std.proofs.Common.{◌∙◌, arith, rules}
use Rattle.qc_io.proofs.WritesLemmas.{items_cut, items_more}
use Rattle.qc_odds_command.specs.Texts.{done_line}
use Rattle.qc_odds_command.proofs.ends_report.put_done.Goals as goal

pub returns-in_err-put_all : goal.returns-in_err-put_all
returns-in_err-put_all g c =
    let line = done_line c.args.tally.now.ends in
    items_cut line c.args.percents.now c.loop-percent.percent-index 0 (g.K.Sink.view c.args.sink.now) (g.K.Sink.view c.loop-percent.sink)
    (g.K.Sink.view c.put_all.new.sink) _ _ c.from_residual.result (search rules) (omega arith) (c.as_bytes.ensures.bytes ∙ c.done_line.ensures)
    c.loop-percent.invariant c.in_err-put_all.ensures.writes

pub loop-percent-preserved : goal.loop-percent-preserved
loop-percent-preserved g c =
    let line = done_line c.args.tally.now.ends in
    items_more line c.args.percents.now c.loop-percent.percent-index 0 (g.K.Sink.view c.args.sink.now) (g.K.Sink.view c.loop-percent.sink)
    (g.K.Sink.view c.put_all.new.sink) _ (omega arith) (c.as_bytes.ensures.bytes ∙ c.done_line.ensures)
    c.loop-percent.invariant c.in_ok-put_all.ensures.writes
