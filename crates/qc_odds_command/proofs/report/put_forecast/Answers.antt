use Rattle.std.proofs.Common.{length}
use Rattle.qc_io.proofs.WritesLemmas.{writes_cut, writes_then}
use Rattle.qc_model.specs.Rules.{ends}
use Rattle.qc_odds_command.specs.Texts.{ends_text, sums_text}
use Rattle.qc_odds_command.proofs.report.put_forecast.Goals as goal

pub returns-in_err-put_ends : goal.returns-in_err-put_ends
returns-in_err-put_ends g c =
    let told = c.args.told.now in
    let runs = told.odds.tally.ends in
    writes_cut (g.K.Sink.view c.args.sink.now) (g.K.Sink.view c.put_ends.new.sink) (ends_text runs (ends told.job.inst told.job.sched) told.by_tick)
    (sums_text told.job.inst told.job.sched (length runs) told.odds) _ c.from_residual.result c.from_residual.ensures.0
    (rw c.ends.ensures.ends at c.in_err-put_ends.ensures)

pub returns : goal.returns
returns g c =
    writes_then (g.K.Sink.view c.args.sink.now) (g.K.Sink.view c.put_ends.new.sink) (g.K.Sink.view c.put_sums.new.sink) _ _ c.put_sums.result
    (rw c.ends.ensures.ends at c.in_ok-put_ends.ensures) c.put_sums.ensures
