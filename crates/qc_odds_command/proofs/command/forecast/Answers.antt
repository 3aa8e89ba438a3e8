use Rattle.qc_run.specs.Inputs.{simulating}
use Rattle.qc_odds_command.proofs.ForecastLemmas.{forecast_ready, forecast_told, forecast_unheld, past_unread, tells_forecast}
use Rattle.qc_odds_command.proofs.command.forecast.Goals as goal

pub returns-in-Err-read_past_file-clause-serves : goal.returns-in-Err-read_past_file-clause-serves
returns-in-Err-read_past_file-clause-serves g c =
    past_unread (simulating c.args.asked.now) c.in-Ok.ensures.step c.in_default.ensures.feasible c.in-Err-read_past_file.ensures

pub returns-in-Ok-simulate-clause-serves : goal.returns-in-Ok-simulate-clause-serves
returns-in-Ok-simulate-clause-serves g c =
    rw c.simulate.ensures.view_stays
    (forecast_told (simulating c.args.asked.now) c.in-Ok.ensures.step c.in_default.ensures.feasible c.in-Ok-read_past_file.ensures _
    (tells_forecast (simulating c.args.asked.now) c.in-Ok-simulate.odds c.in-Ok-simulate.ensures.odds c.requires.some c.in_default.ensures.feasible))

pub returns-in-Ok-simulate-clause-ready : goal.returns-in-Ok-simulate-clause-ready
returns-in-Ok-simulate-clause-ready g c =
    forecast_ready (simulating c.args.asked.now) c.in-Ok-simulate.odds c.in-Ok-simulate.ensures.odds c.requires.some
    c.in-Ok.ensures.judgeable c.in-Ok-simulate.ensures.small c.requires.few

pub returns-in-Err-simulate-clause-serves : goal.returns-in-Err-simulate-clause-serves
returns-in-Err-simulate-clause-serves g c =
    rw c.simulate.ensures.view_stays
    (forecast_unheld (simulating c.args.asked.now) c.in-Ok.ensures.step c.in_default.ensures.feasible c.in-Ok-read_past_file.ensures)
