-- public: what follows from the account of a plan that is worked many times, said by itself for whoever reads one status.
use Rattle.std.specs.Prelude.{◌≡◌, List, Result, Ok, Err, IfSome}
use Rattle.qc_io.specs.Outside.{Files, View}
use Rattle.qc_model.specs.Rules.{Feasible}
use Rattle.qc_past.specs.declared.fault.PastFault.{PastFault}
use Rattle.qc_past.specs.declared.task.PastTask.{PastTask}
use Rattle.qc_run.specs.declared.reading.Job.{Job}
use Rattle.qc_run.specs.declared.refusal.Refusal.{Refusal}
use Rattle.qc_run.specs.declared.refusal.Refusal.TheVariants as refusal
use Rattle.qc_run.specs.declared.status.Status.{Status}
use Rattle.qc_run.specs.declared.status.Status.TheVariants as status
use Rattle.qc_run.specs.Broken.{TellsRule, broken_text}
use Rattle.qc_run.specs.Due.{contents_in, job_due, past_due}
use Rattle.qc_run.specs.Inputs.{Names, Simulating}
use Rattle.qc_run.specs.Reports.{Prints}
use Rattle.qc_run.specs.Texts.{refusal_text}
use Rattle.qc_run.specs.Told.{EndsAsDue, EndsBy, IsTold, ReadPromises}
use Rattle.qc_odds_command.specs.declared.answer.Forecast.{Forecast}
use Rattle.qc_odds_command.specs.Account.{IsOddsAccount, forecast_report}
use Rattle.qc_odds_command.specs.Forecasts.{TellsForecast, forecast_text}

-- the plan is feasible, and what was printed are the figures of as many runs as are asked for, which draw from past tasks
pub record IsForecastTold (asked : Simulating) (held : Files) (before after : View) : Type 0 where
  pub job : Job
  pub due : job_due (contents_in held asked.inputs) ≡ Ok job
  pub past : List PastTask
  pub past_is : past_due (contents_in held asked.inputs) ≡ Ok past
  pub told : Forecast
  pub tells : TellsForecast asked past job told
  pub report : Prints (forecast_text told) before.written after.written

-- the plan isn't feasible, and the first rule that it breaks was printed
abbrev pub IsRuleTold : Names → (held : Files) → (before after : View) → Type 0
IsRuleTold = IsTold job_due (λ job. TellsRule job.inst job.sched) (λ told. Prints (broken_text told))

-- the plan is feasible, and the file of past tasks has a fault, which was printed
pub record IsPastFaultTold (names : Names) (held : Files) (before after : View) : Type 0 where
  pub job : Job
  pub due : job_due (contents_in held names) ≡ Ok job
  pub feasible : Feasible job.inst job.sched
  pub fault : PastFault
  pub past_is : past_due (contents_in held names) ≡ Err (refusal.BadPast fault)
  pub report : Prints (refusal_text (refusal.BadPast fault)) before.written after.written

-- a plan that is judged ends so where nothing fails
pub record EndsForecast (job : Job) (past : Result (List PastTask) Refusal) (ended : Status) : Type 0 where
  pub not_feasible : ¬ Feasible job.inst job.sched → ended ≡ status.Broken
  pub feasible : Feasible job.inst job.sched → EndsBy (λ _ end. end ≡ status.Done) past ended

pub record OddsPromises (asked : Simulating) (before after out_before out_after : View) (ended : Status) : Type 0 where
  pub reads : ReadPromises (IsOddsAccount asked before after) forecast_report.part
      before after out_before out_after ended
  -- Done, Broken and BadPast
  pub done : ended ≡ status.Done → IfSome before.files (λ held. IsForecastTold asked held out_before out_after)
  pub broken : ended ≡ status.Broken → IfSome before.files (λ held. IsRuleTold asked.inputs held out_before out_after)
  pub bad_past :
      ended ≡ status.BadPast → IfSome before.files (λ held. IsPastFaultTold asked.inputs held out_before out_after)
  -- where no call failed: Broken exactly where the plan isn't feasible, and else what the file of past tasks comes to
  pub complete :
      EndsAsDue (λ contents. EndsBy (λ job. EndsForecast job (past_due contents)) (job_due contents))
      asked.inputs before after out_before out_after ended
