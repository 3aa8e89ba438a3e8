-- public: what is told of a plan that is worked many times, and what is printed of it.
use Rattle.std.specs.Prelude.{◌≡◌, ℕ, ◌≤◌, List, map}
use Rattle.qc_model.specs.Rules.{Feasible}
use Rattle.qc_odds.specs.Odds.{AreOdds}
use Rattle.qc_odds.specs.Tally.{IsDoneBy, done_at, share}
use Rattle.qc_past.specs.declared.task.PastTask.{PastTask}
use Rattle.qc_run.specs.declared.reading.Job.{Job}
use Rattle.qc_run.specs.declared.status.Status.{Status}
use Rattle.qc_run.specs.declared.status.Status.TheVariants as status
use Rattle.qc_run.specs.Broken.{broken_text}
use Rattle.qc_run.specs.Inputs.{Simulating}
use Rattle.qc_odds_command.specs.declared.answer.Forecast.{Forecast}
use Rattle.qc_odds_command.specs.declared.answer.Forecasting.{Forecasting}
use Rattle.qc_odds_command.specs.declared.answer.Forecasting.TheVariants as forecasting
use Rattle.qc_odds_command.specs.Texts.{odds_text}

-- the plan is feasible, and it was worked as often as is asked for, each time with lengths drawn from these past tasks;
-- what is told are the figures of these runs
pub record TellsForecast (asked : Simulating) (past : List PastTask) (job : Job) (told : Forecast) : Type 0 where
  pub job_told : told.job ≡ job
  pub by_told : told.by_tick ≡ asked.by_tick
  pub feasible : Feasible job.inst job.sched
  pub odds : AreOdds past job.inst job.sched asked.seed asked.runs told.odds
  -- of the ends of the runs a tick that is told is the first by which so many hundredths have come
  pub first : (percent : ℕ) → 1 ≤ percent → percent ≤ 100
      → IsDoneBy (map (λ run. run.last) odds.runs) (share percent asked.runs) (done_at told.odds.tally.ends percent)

-- what is printed, and the status
abbrev pub forecast_text : Forecast → List ℕ
forecast_text told = odds_text told.job.inst told.job.sched told.by_tick told.odds

abbrev pub forecasting_text : Forecasting → List ℕ
forecasting_text (forecasting.Broken told) = broken_text told
forecasting_text (forecasting.Forecast told) = forecast_text told

abbrev pub forecasting_status : Forecasting → Status
forecasting_status (forecasting.Broken told) = status.Broken
forecasting_status (forecasting.Forecast told) = status.Done
