-- public: what the files come to that are read: a plan, and what happened by the log of its work.
use Rattle.std.specs.Prelude.{◌≡◌, ◌⊎◌, ℕ, List, Option, Ok}
use Rattle.qc_dispatch.specs.declared.fault.DispatchFault.{DispatchFault}
use Rattle.qc_dispatch.specs.Following.{journal_of}
use Rattle.qc_dispatch.specs.Journal.{IsFaulty, IsFollowed}
use Rattle.qc_io.specs.Outside.{Files, View}
use Rattle.qc_dispatch.specs.Promises.{Keeps}
use Rattle.qc_model.specs.Instance.{Valid}
use Rattle.qc_model.specs.Rules.{Feasible}
use Rattle.qc_run.specs.declared.broken.Broken.{Broken}
use Rattle.qc_run.specs.declared.inputs.Input.TheVariants as input
use Rattle.qc_run.specs.declared.refusal.LogFault.TheVariants as log
use Rattle.qc_run.specs.declared.refusal.Refusal.TheVariants as refusal
use Rattle.qc_run.specs.declared.refusal.Stop.{Stop}
use Rattle.qc_run.specs.declared.refusal.Stop.TheVariants as stop
use Rattle.qc_run.specs.Broken.{TellsRule}
use Rattle.qc_run.specs.Due.{input_due}
use Rattle.qc_run.specs.Inputs.{Names}
use Rattle.qc_run.specs.Steps.{ComesTo, Stops}
use Rattle.qc_sheet_command.specs.declared.load.Load.{Load}
use Rattle.qc_sheet_command.specs.Due.{load_due}
use Rattle.qc_sheet_command.specs.Listed.{IsLoad}
use Rattle.qc_rest_command.specs.declared.answer.Worked.{Worked}

-- the plan is feasible, and its order was followed by the log, which was read whole
pub record IsWorked (names : Names) (files : Option Files) (worked : Worked) : Type 0 where
  pub due : ComesTo load_due names files (Ok worked.load)
  pub feasible : Feasible worked.load.cargo.inst worked.load.sched
  pub text : List ℕ
  pub log : ComesTo (input_due input.Log) names files (Ok text)
  pub followed : IsFollowed worked.load.cargo.inst worked.load.sched text (journal_of worked.followed)
  pub known : IsLoad worked.load
  pub valid : Valid worked.followed.dispatch.inst
  pub keeps : Keeps worked.followed.dispatch

-- the plan isn't feasible, and the first rule that it breaks is told
pub record IsBroken (names : Names) (files : Option Files) (told : Broken) : Type 0 where
  pub load : Load
  pub due : ComesTo load_due names files (Ok load)
  pub tells : TellsRule load.cargo.inst load.sched told

-- some line of the log is faulty, and the first fault was refused
pub record IsLogRefused (load : Load) (names : Names) (before after : View) (why : Stop) : Type 0 where
  pub text : List ℕ
  pub due : ComesTo (input_due input.Log) names before.files (Ok text)
  pub fault : DispatchFault
  pub faulty : IsFaulty load.cargo.inst load.sched text fault
  pub refused : why ≡ stop.Refused (refusal.BadLog (log.Dispatch fault))
  pub reads : after.read_faults ≡ before.read_faults

-- the plan is feasible, and the log couldn't be read, or a line of it is faulty
pub record IsStoppedAtLog (names : Names) (before after : View) (why : Stop) : Type 0 where
  pub load : Load
  pub due : ComesTo load_due names before.files (Ok load)
  pub feasible : Feasible load.cargo.inst load.sched
  pub log : Stops (input_due input.Log) names before after why ⊎ IsLogRefused load names before after why

-- a refusal comes before the plan is judged, or of the log where the plan is feasible
abbrev pub StopsRest : Names → View → View → Stop → Type 0
StopsRest names before after why = Stops load_due names before after why ⊎ IsStoppedAtLog names before after why
