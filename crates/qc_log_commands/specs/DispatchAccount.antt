-- public: the account of the command that follows a plan by a log: what its answer tells of the files.
use Rattle.std.specs.Prelude.{◌≡◌, ◌⊎◌, ℕ, List, Option, Result, Ok}
use Rattle.qc_dispatch.specs.declared.fault.DispatchFault.{DispatchFault}
use Rattle.qc_dispatch.specs.Journal.{IsFaulty}
use Rattle.qc_io.specs.Outside.{Files, View}
use Rattle.qc_model.specs.Rules.{Feasible}
use Rattle.qc_run.specs.declared.inputs.Input.TheVariants as input
use Rattle.qc_run.specs.declared.reading.Job.{Job}
use Rattle.qc_run.specs.declared.refusal.LogFault.TheVariants as log
use Rattle.qc_run.specs.declared.refusal.Refusal.TheVariants as refusal
use Rattle.qc_run.specs.declared.refusal.Stop.{Stop}
use Rattle.qc_run.specs.declared.refusal.Stop.TheVariants as stop
use Rattle.qc_run.specs.declared.status.Status.{Status}
use Rattle.qc_run.specs.Account.{IsFound, IsReading, IsRunWith, Reporting, texts}
use Rattle.qc_run.specs.Broken.{TellsRule}
use Rattle.qc_run.specs.Due.{input_due, job_due}
use Rattle.qc_run.specs.Inputs.{Names}
use Rattle.qc_run.specs.Steps.{ComesTo, Stops}
use Rattle.qc_log_commands.specs.declared.dispatching.Dispatched.{Dispatched}
use Rattle.qc_log_commands.specs.declared.dispatching.Dispatching.{Dispatching}
use Rattle.qc_log_commands.specs.declared.dispatching.Dispatching.TheVariants as dispatching
use Rattle.qc_log_commands.specs.DispatchTold.{TellsCourse, dispatching_status, dispatching_text}

-- the plan is feasible, and its order was followed by the log, which was read whole
pub record IsDispatched (names : Names) (files : Option Files) (job : Job) (told : Dispatched) : Type 0 where
  pub job_told : told.job ≡ job
  pub text : List ℕ
  pub log : ComesTo (input_due input.Log) names files (Ok text)
  pub tells : TellsCourse text told

abbrev pub TellsDispatching : Names → Option Files → Job → Dispatching → Type 0
TellsDispatching names files job (dispatching.Broken told) = TellsRule job.inst job.sched told
TellsDispatching names files job (dispatching.Dispatched told) = IsDispatched names files job told

abbrev pub IsDispatching : Names → Option Files → Dispatching → Type 0
IsDispatching names files = IsFound job_due (TellsDispatching names files) names files

-- some line of the log is faulty, and the first fault was refused
pub record IsLogRefused (job : Job) (names : Names) (before after : View) (why : Stop) : Type 0 where
  pub text : List ℕ
  pub due : ComesTo (input_due input.Log) names before.files (Ok text)
  pub fault : DispatchFault
  pub faulty : IsFaulty job.inst job.sched text fault
  pub refused : why ≡ stop.Refused (refusal.BadLog (log.Dispatch fault))
  pub reads : after.read_faults ≡ before.read_faults

-- the plan is feasible, and the log couldn't be read, or a line of it is faulty
pub record IsStoppedAtLog (names : Names) (before after : View) (why : Stop) : Type 0 where
  pub job : Job
  pub due : ComesTo job_due names before.files (Ok job)
  pub feasible : Feasible job.inst job.sched
  pub log : Stops (input_due input.Log) names before after why ⊎ IsLogRefused job names before after why

-- a refusal comes before the plan is judged, or of the log where the plan is feasible
abbrev pub StopsDispatch : Names → View → View → Stop → Type 0
StopsDispatch names before after why = Stops job_due names before after why ⊎ IsStoppedAtLog names before after why

abbrev pub IsDispatchAccount : Names → View → View → Result Dispatching Stop → Type 0
IsDispatchAccount names before after =
    IsReading (IsDispatching names before.files) (StopsDispatch names before after) names before after

abbrev pub dispatch_report : Reporting Dispatching
dispatch_report = texts dispatching_text dispatching_status

abbrev pub IsDispatchRun : Names → (before after out_before out_after : View) → Status → Type 0
IsDispatchRun names before after = IsRunWith (IsDispatchAccount names before after) dispatch_report
