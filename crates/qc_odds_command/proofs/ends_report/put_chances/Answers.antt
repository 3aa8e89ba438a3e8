use Rattle.std.proofs.Common.{◌++◌}
use Rattle.std.specs.List.{flat_map}
use Rattle.qc_io.proofs.WritesLemmas.{writes_cut, writes_then}
use Rattle.qc_odds_command.specs.Texts.{asked_text, done_line, kept_line, percents_told}
use Rattle.qc_odds_command.proofs.ends_report.put_chances.Goals as goal

pub returns-in_err-put_done : goal.returns-in_err-put_done
returns-in_err-put_done g c =
    let ends = c.args.tally.now.ends in
    writes_cut (g.K.Sink.view c.args.sink.now) (g.K.Sink.view c.put_done.new.sink) (flat_map (done_line ends) percents_told)
    (kept_line ends c.args.planned ++ asked_text ends c.args.by) _ c.from_residual.result c.from_residual.ensures.0 c.in_err-put_done.ensures

pub returns : goal.returns
returns g c =
    writes_then (g.K.Sink.view c.args.sink.now) (g.K.Sink.view c.put_done.new.sink) (g.K.Sink.view c.put_kept.new.sink) _ _ c.put_kept.result
    c.in_ok-put_done.ensures c.put_kept.ensures
