-- What follows from the account of a plan that is worked many times.
use Rattle.std.proofs.Common.{◌≡◌, ◌⊎◌, List, Option, None, Some, Result, Ok, Err, refl, subst, inl, inr, IfErr, IfSome}
use Rattle.qc_io.specs.Outside.{Files, View}
use Rattle.qc_model.specs.Rules.{Feasible}
use Rattle.qc_past.specs.declared.fault.PastFault.{PastFault}
use Rattle.qc_past.specs.declared.task.PastTask.{PastTask}
use Rattle.qc_run.specs.declared.reading.Job.{Job}
use Rattle.qc_run.specs.declared.refusal.Refusal.{Refusal}
use Rattle.qc_run.specs.declared.refusal.Refusal.TheVariants as refusal
use Rattle.qc_run.specs.declared.refusal.Stop.{Stop}
use Rattle.qc_run.specs.declared.refusal.Stop.TheVariants as stop
use Rattle.qc_run.specs.declared.status.Status.{Status}
use Rattle.qc_run.specs.declared.status.Status.TheVariants as status
use Rattle.qc_run.specs.Broken.{TellsRule, broken_text}
use Rattle.qc_run.specs.Due.{Contents, contents_in, job_due, past_due}
use Rattle.qc_run.specs.Inputs.{Names, Simulating}
use Rattle.qc_run.specs.Reports.{Prints}
use Rattle.qc_run.specs.Steps.{ComesTo}
use Rattle.qc_run.specs.Texts.{refusal_status, refusal_text, stop_status}
use Rattle.qc_run.specs.Told.{EndsBy, NoneFailed}
use Rattle.qc_run.proofs.AccountLemmas.{answer_found, ends_as, reading_promises, refusal_found, told_of}
use Rattle.qc_run.proofs.DueLemmas.{comes_due, stop_is}
use Rattle.qc_run.proofs.StatusLemmas.{IsAnswer}
use Rattle.qc_run.proofs.StepLemmas.{IsEarly, job_early}
use Rattle.qc_run.proofs.ToldLemmas.{stop_due}
use Rattle.qc_odds_command.specs.declared.answer.Forecasting.{Forecasting}
use Rattle.qc_odds_command.specs.declared.answer.Forecasting.TheVariants as forecasting
use Rattle.qc_odds_command.specs.Account.{IsForecasting, IsOddsRun, IsStoppedAtPast, StopsForecast, forecast_report}
use Rattle.qc_odds_command.specs.Forecasts.{forecasting_status, forecasting_text}
use Rattle.qc_odds_command.specs.Promises.{EndsForecast, IsForecastTold, IsPastFaultTold, IsRuleTold, OddsPromises}

forecast_answers : (a : Forecasting) → IsAnswer (forecasting_status a)
forecast_answers (forecasting.Broken told) = tt
forecast_answers (forecasting.Forecast told) = tt

-- no fault of past tasks comes before the plan is judged
none_early : (names : Names) (fault : PastFault) (files : Option Files) → ComesTo job_due names files (Err (refusal.BadPast fault))
    → (P : Files → Type 0) → IfSome files P
none_early names fault None due P = tt
none_early names fault (Some held) due P =
    absurd (subst (λ (r : Result Job Refusal). IfErr r IsEarly) due (job_early (contents_in held names)))

module _ (asked : Simulating) (before after pb pa : View) (ended : Status) (run : IsOddsRun asked before after pb pa ended) where
  abbrev found : Forecasting → Type 0
  found = IsForecasting asked before.files

  abbrev stops : Stop → Type 0
  stops = StopsForecast asked.inputs before after

  forecast_told : (a : Forecasting) → found a → forecasting_status a ≡ status.Done → Prints (forecasting_text a) pb.written pa.written
      → IfSome before.files (λ held. IsForecastTold asked held pb pa)
  forecast_told (forecasting.Broken told) is e report = absurd (cc e)
  forecast_told (forecasting.Forecast told) is e report = by before.files is
    where
      by : (files : Option Files) → IsForecasting asked files (forecasting.Forecast told) → IfSome files (λ held. IsForecastTold asked held pb pa)
      by None is = tt
      by (Some held) is = record {
        job = is.read;
        due = is.due;
        past = is.tells.past;
        past_is = is.tells.due;
        told = told;
        tells = is.tells.tells;
        report = report;
      }

  rule_told : (a : Forecasting) → found a → forecasting_status a ≡ status.Broken → Prints (forecasting_text a) pb.written pa.written
      → IfSome before.files (λ held. IsRuleTold asked.inputs held pb pa)
  rule_told (forecasting.Broken told) is e report =
      told_of job_due (λ job. TellsRule job.inst job.sched) (λ told. Prints (broken_text told)) asked.inputs pb pa before.files is.read told is.due is.tells report
  rule_told (forecasting.Forecast told) is e report = absurd (cc e)

  late_fault : (job : Job) (fault : PastFault) (files : Option Files) → Feasible job.inst job.sched → ComesTo job_due asked.inputs files (Ok job)
      → ComesTo past_due asked.inputs files (Err (refusal.BadPast fault)) → Prints (refusal_text (refusal.BadPast fault)) pb.written pa.written
      → IfSome files (λ held. IsPastFaultTold asked.inputs held pb pa)
  late_fault job fault None feasible due past report = tt
  late_fault job fault (Some held) feasible due past report =
      record { job = job; due = due; feasible = feasible; fault = fault; past_is = past; report = report }

  past_fault_told : (why : Refusal) → stops (stop.Refused why) → refusal_status why ≡ status.BadPast → Prints (refusal_text why) pb.written pa.written
      → IfSome before.files (λ held. IsPastFaultTold asked.inputs held pb pa)
  past_fault_told (refusal.BadPast fault) is e report = elim is [
    | inl early ↦ none_early asked.inputs fault before.files early.1 (λ held. IsPastFaultTold asked.inputs held pb pa)
    | inr late ↦ late_fault late.job fault before.files late.feasible late.due late.past.1 report
  ]
  past_fault_told why is e report = absurd (cc e)

  -- ---- where no call failed

  abbrev Ends : Contents → Status → Type 0
  Ends contents s = EndsBy (λ job. EndsForecast job (past_due contents)) (job_due contents) s

  module _ (none : NoneFailed before after pb pa) (held : Files) (told : before.files ≡ Some held) where
    job_is : (job : Job) → ComesTo job_due asked.inputs before.files (Ok job) → job_due (contents_in held asked.inputs) ≡ Ok job
    job_is job due = comes_due job_due asked.inputs held before.files told (Ok job) due

    past_is : (past : List PastTask) → ComesTo past_due asked.inputs before.files (Ok past) → past_due (contents_in held asked.inputs) ≡ Ok past
    past_is past due = comes_due past_due asked.inputs held before.files told (Ok past) due

    late_ends : (why : Stop) → IsStoppedAtPast asked.inputs before after why
        → Ends (contents_in held asked.inputs) (stop_status why) ⊎ (stop_status why ≡ status.OutOfMemory)
    late_ends stop.OutOfMemory late = inr refl
    late_ends (stop.Refused why) late =
        let refused : past_due (contents_in held asked.inputs) ≡ Err why =
        stop_is past_due asked.inputs before after held told none.reading why late.past in
        inl (rw (job_is late.job late.due) (record {
          not_feasible = λ not. absurd (not late.feasible);
          feasible = λ _. rw refused refl;
        }))

    stops_end : (why : Stop) → stops why → Ends (contents_in held asked.inputs) (stop_status why) ⊎ (stop_status why ≡ status.OutOfMemory)
    stops_end why is = elim is [
      | inl early ↦ stop_due job_due (λ job. EndsForecast job (past_due (contents_in held asked.inputs))) asked.inputs before after held told none.reading why early
      | inr late ↦ late_ends why late
    ]

    answer_ends : (a : Forecasting) → found a → Ends (contents_in held asked.inputs) (forecasting_status a)
    answer_ends (forecasting.Broken broken) is =
        rw (job_is is.read is.due) (record { not_feasible = λ _. refl; feasible = λ goes. absurd (is.tells.is.not_allowed goes) })
    answer_ends (forecasting.Forecast forecast) is =
        rw (job_is is.read is.due) (record {
          not_feasible = λ not. absurd (not is.tells.tells.feasible);
          feasible = λ _. rw (past_is is.tells.past is.tells.due) refl;
        })

  pub odds_promises : OddsPromises asked before after pb pa ended
  odds_promises = record {
    reads = reading_promises found stops asked.inputs forecast_report forecast_answers before after pb pa ended run;
    done = λ e. answer_found found stops asked.inputs forecast_report forecast_answers before after pb pa ended run status.Done tt e forecast_told;
    broken = λ e. answer_found found stops asked.inputs forecast_report forecast_answers before after pb pa ended run status.Broken tt e rule_told;
    bad_past = λ e. refusal_found found stops asked.inputs forecast_report forecast_answers before after pb pa ended run status.BadPast tt e past_fault_told;
    complete = ends_as found stops asked.inputs forecast_report forecast_answers before after pb pa ended run Ends answer_ends stops_end;
  }
