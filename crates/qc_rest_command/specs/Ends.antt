-- public: how the command ends where no call fails, by what the files come to.
use Rattle.std.specs.Prelude.{◌≡◌, ◌≢◌, ◌⊎◌, ℕ, List}
use Rattle.qc_dispatch.specs.declared.fault.DispatchFault.{DispatchFault}
use Rattle.qc_dispatch.specs.Journal.{IsFaulty, IsFollowed, Journal}
use Rattle.qc_model.specs.Rules.{Feasible}
use Rattle.qc_rest.specs.declared.rest.Rest.{Rest}
use Rattle.qc_rest.specs.declared.rest.RestError.{RestError}
use Rattle.qc_rest.specs.declared.rest.RestError.TheVariants as refused
use Rattle.qc_rest.specs.Whole.{IsNoRest, IsRestBy}
use Rattle.qc_run.specs.declared.inputs.Input.TheVariants as input
use Rattle.qc_run.specs.declared.status.Status.{Status}
use Rattle.qc_run.specs.declared.status.Status.TheVariants as status
use Rattle.qc_run.specs.Due.{Contents, input_due}
use Rattle.qc_run.specs.Told.{EndsBy}
use Rattle.qc_sheet_command.specs.declared.load.Load.{Load}
use Rattle.qc_sheet_command.specs.Due.{load_due}

-- by the log there is a rest
abbrev pub HasRest : Journal → Type 0
HasRest j = (rest : Rest) × IsRestBy j rest

-- there is none, since a task is due or a crane isn't fit
pub record HasNoRest (j : Journal) : Type 0 where
  pub error : RestError
  pub why : IsNoRest j error
  pub no_memory : error ≢ refused.OutOfMemory
  pub no_rest : ¬ HasRest j

-- the log was followed: it ends with 0 exactly where there is a rest, else with NoRest
pub record EndsFollowed (load : Load) (text : List ℕ) (ended : Status) : Type 0 where
  pub journal : Journal
  pub followed : IsFollowed load.cargo.inst load.sched text journal
  pub by : ((ended ≡ status.Done) × HasRest journal) ⊎ ((ended ≡ status.NoRest) × HasNoRest journal)

-- a line of it is faulty
pub record EndsFaulty (load : Load) (text : List ℕ) (ended : Status) : Type 0 where
  pub fault : DispatchFault
  pub faulty : IsFaulty load.cargo.inst load.sched text fault
  pub refused : ended ≡ status.BadLog

abbrev pub EndsLogged : Load → List ℕ → Status → Type 0
EndsLogged load text ended = EndsFollowed load text ended ⊎ EndsFaulty load text ended

-- the plan was read: where it isn't feasible that is told, else the log is read and followed
pub record EndsJudged (contents : Contents) (load : Load) (ended : Status) : Type 0 where
  pub broken : ¬ Feasible load.cargo.inst load.sched → ended ≡ status.Broken
  pub feasible : Feasible load.cargo.inst load.sched → EndsBy (EndsLogged load) (input_due input.Log contents) ended

abbrev pub EndsRest : Contents → Status → Type 0
EndsRest contents ended = EndsBy (EndsJudged contents) (load_due contents) ended
