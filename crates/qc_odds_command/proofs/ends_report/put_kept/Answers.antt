use Rattle.std.proofs.Common.{◌∙◌}
use Rattle.qc_io.proofs.WritesLemmas.{writes_cut, writes_then}
use Rattle.qc_odds_command.specs.Texts.{asked_text, kept_line}
use Rattle.qc_odds_command.proofs.ends_report.put_kept.Goals as goal

pub returns-in_err-put_all : goal.returns-in_err-put_all
returns-in_err-put_all g c =
    let ends = c.args.tally.now.ends in
    let text = c.as_bytes.ensures.bytes ∙ c.kept_line.ensures in
    writes_cut (g.K.Sink.view c.args.sink.now) (g.K.Sink.view c.put_all.new.sink) (kept_line ends c.args.planned) (asked_text ends c.args.by) _
    c.from_residual.result c.from_residual.ensures.0 (rw text at c.in_err-put_all.ensures.writes)

pub returns : goal.returns
returns g c =
    writes_then (g.K.Sink.view c.args.sink.now) (g.K.Sink.view c.put_all.new.sink) (g.K.Sink.view c.put_asked.new.sink) _ _ c.put_asked.result
    (rw (c.as_bytes.ensures.bytes, c.kept_line.ensures) at c.in_ok-put_all.ensures.writes) c.put_asked.ensures
