-- What the command comes to at the file of past tasks, behind the steps that read the plan.
use Rattle.std.proofs.Common.{◌≡◌, ◌∙◌, ◌≤◌, List, Option, Ok, Err, refl, subst, inl, inr, arith}
use Rattle.qc_io.specs.Outside.{Files, View}
use Rattle.qc_model.specs.Judge.{IsJudgeable}
use Rattle.qc_model.specs.Rules.{Feasible}
use Rattle.qc_odds.specs.Odds.{AreOdds, AreSmall}
use Rattle.qc_odds.specs.declared.odds.Odds.{Odds}
use Rattle.qc_past.specs.declared.task.PastTask.{PastTask}
use Rattle.qc_run.specs.declared.reading.Job.{Job}
use Rattle.qc_run.specs.declared.refusal.Stop.{Stop}
use Rattle.qc_run.specs.declared.refusal.Stop.TheVariants as stop
use Rattle.qc_run.specs.Due.{job_due, past_due}
use Rattle.qc_run.specs.Inputs.{Simulating}
use Rattle.qc_run.specs.Steps.{ComesTo, IsStep}
use Rattle.qc_run.proofs.DueLemmas.{stops_from}
use Rattle.qc_odds_command.specs.declared.answer.Forecast.{Forecast}
use Rattle.qc_odds_command.specs.declared.answer.Forecasting.TheVariants as forecasting
use Rattle.qc_odds_command.specs.Account.{IsOddsAccount}
use Rattle.qc_odds_command.specs.Forecasts.{TellsForecast}
use Rattle.qc_odds_command.specs.Ready.{IsReady}
use Rattle.qc_odds_command.proofs.OddsLemmas.{can_be_counted, can_be_summed, first_by}

module _ (asked : Simulating) {before mid after : View} {job : Job} (first : IsStep job_due asked.inputs before mid (Ok job))
    (feasible : Feasible job.inst job.sched) where
  -- past tasks couldn't be read
  pub past_unread : {why : Stop} → IsStep {A = List PastTask} past_due asked.inputs mid after (Err why) → IsOddsAccount asked before after (Err why)
  past_unread {why = why} second = record {
    ok = tt;
    err = inr (record {
      job = job;
      due = first.ok.1;
      feasible = feasible;
      past = stops_from past_due asked.inputs before mid after first.files first.ok.0 why second.err;
    });
    may = second.may;
    files = second.files ∙ first.files;
    made = second.made ∙ first.made;
    faults = second.faults ∙ first.faults;
    read_faults = omega (arith, first.read_faults, second.read_faults);
  }

  module _ {past : List PastTask} (second : IsStep past_due asked.inputs mid after (Ok past)) where
    read : ComesTo past_due asked.inputs before.files (Ok past)
    read = subst (λ (f : Option Files). ComesTo past_due asked.inputs f (Ok past)) first.files second.ok.1

    reads : after.read_faults ≡ before.read_faults
    reads = second.ok.0 ∙ first.ok.0

    pub forecast_told : (told : Forecast) → TellsForecast asked past job told → IsOddsAccount asked before after (Ok (forecasting.Forecast told))
    forecast_told told tells = record {
      ok = (reads, record { read = job; due = first.ok.1; tells = record { past = past; due = read; tells = tells } });
      err = tt;
      may = tt;
      files = second.files ∙ first.files;
      made = second.made ∙ first.made;
      faults = second.faults ∙ first.faults;
      read_faults = omega (arith, first.read_faults, second.read_faults);
    }

    -- memory was wanting for the runs
    pub forecast_unheld : IsOddsAccount asked before after (Err stop.OutOfMemory)
    forecast_unheld = record {
      ok = tt;
      err = inl reads;
      may = tt;
      files = second.files ∙ first.files;
      made = second.made ∙ first.made;
      faults = second.faults ∙ first.faults;
      read_faults = omega (arith, first.read_faults, second.read_faults);
    }

-- what is told of runs that were worked
module _ (asked : Simulating) {past : List PastTask} {job : Job} (odds : Odds)
    (is : AreOdds past job.inst job.sched asked.seed asked.runs odds) (some : 1 ≤ asked.runs) where
  pub tells_forecast : Feasible job.inst job.sched
      → TellsForecast asked past job (record { job = job; odds = odds; by_tick = asked.by_tick })
  tells_forecast feasible = record {
    job_told = refl;
    by_told = refl;
    feasible = feasible;
    odds = is;
    first = first_by past job.inst job.sched asked.seed asked.runs odds is some;
  }

  pub forecast_ready : IsJudgeable job.inst job.sched → AreSmall asked.runs odds → asked.runs ≤ 10000
      → IsReady (record { job = job; odds = odds; by_tick = asked.by_tick })
  forecast_ready judgeable small few = record {
    judgeable = judgeable;
    counted = can_be_counted past job.inst job.sched asked.seed asked.runs odds is small some few;
    summed = can_be_summed past job.inst job.sched asked.seed asked.runs odds is small;
  }
