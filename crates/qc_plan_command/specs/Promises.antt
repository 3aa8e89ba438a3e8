-- public: what follows from a plan's account, said by itself for whoever reads one status.
use Rattle.std.specs.Prelude.{◌≡◌, ◌≢◌, ℕ, ◌<◌, ◌≤◌, ◌⊎◌, false, List, length, Option, None, Some, Ok, codes, IfSome}
use Rattle.qc_io.specs.Outside.{Files, Rose, View}
use Rattle.qc_model.specs.declared.schedule.Slot.{Slot}
use Rattle.qc_model.specs.declared.turn.Turn.TheVariants.{Free}
use Rattle.qc_model.specs.Instance.{InstanceView}
use Rattle.qc_model.specs.Nodes.{reaches}
use Rattle.qc_model.specs.OneWay.{IsAllowed}
use Rattle.qc_search.specs.declared.done.Kind.{Kind}
use Rattle.qc_search.specs.declared.done.Kind.TheVariants as kind
use Rattle.qc_search.specs.Run.{branching_limit}
use Rattle.qc_run.specs.declared.status.Status.{Status}
use Rattle.qc_run.specs.declared.status.Status.TheVariants as status
use Rattle.qc_run.specs.declared.broken.Broken.{Broken}
use Rattle.qc_run.specs.declared.reading.OwnJob.{OwnJob}
use Rattle.qc_run.specs.Broken.{TellsBreakBy, broken_text}
use Rattle.qc_run.specs.Due.{contents_in, own_job_due}
use Rattle.qc_run.specs.Reports.{Prints}
use Rattle.qc_run.specs.Told.{EndsBy, IsBest, IsCutTold, IsRefusal, IsRefusalTold, NoneFailed}
use Rattle.qc_plan_command.specs.declared.answer.Planned.{Planned}
use Rattle.qc_plan_command.specs.declared.answer.PlanAnswer.TheVariants as answer
use Rattle.qc_plan_command.specs.Account.{IsLeft, IsPlanning, IsWritten}
use Rattle.qc_run.specs.Inputs.{Planning}
use Rattle.qc_plan_command.specs.Found.{IsByTightEnd, IsSoundPlan}
use Rattle.qc_plan_command.specs.Reports.{IsPlanPrinted, infeasible_text, plan_prints_part, unplanned_text}

-- the search that is due knows a schedule: its tree and the plan of that schedule are written, all other files
-- are as they were, and both are told, with the motion of every crane, which is safe
pub record IsPlanTold (asked : Planning) (held : Files) (now : Option Files) (before after : View)
    (wanted : Kind) : Type 0 where
  pub told : Planned
  pub written : IsWritten asked held now (answer.Planned told)
  pub kind : written.search.done.kind ≡ wanted
  pub word : told.kind ≡ wanted
  pub report : IsPlanPrinted told before.written after.written
  -- it ends no later than the tight form of the planner's own, which ends no later than that
  pub no_later : IfSome written.search.own (IsByTightEnd written.search.inst told.end)

-- the same, and all branchings that were asked for are spent
pub record IsBudgetTold (asked : Planning) (held : Files) (now : Option Files)
    (before after : View) : Type 0 where
  pub plan : IsPlanTold asked held now before after kind.Budget
  pub spent : plan.told.branched ≡ asked.nodes

-- and this schedule is a best one
pub record IsOptimalTold (asked : Planning) (held : Files) (now : Option Files)
    (before after : View) : Type 0 where
  pub plan : IsPlanTold asked held now before after kind.Optimal
  pub enough : plan.told.end ≤ plan.told.bound
  pub best : IsBest plan.written.search.inst plan.written.told.sched

-- the search that is due knows no schedule, so it was given none, and spent all branchings that were asked for:
-- its tree is written, all other files are as they were, and its bound is told
pub record IsUnplannedTold (asked : Planning) (held : Files) (now : Option Files)
    (before after : View) : Type 0 where
  pub bound : ℕ
  pub branched : ℕ
  pub written : IsWritten asked held now (answer.Unplanned bound branched)
  pub kind : written.search.done.kind ≡ kind.Budget
  pub no_own : written.search.own ≡ None
  pub report : Prints (unplanned_text bound branched) before.written after.written
  pub spent : branched ≡ asked.nodes

-- a plan was told that holds by itself
pub record IsSoundTold (asked : Planning) (before after : View) : Type 0 where
  pub told : Planned
  pub sound : IsSoundPlan asked.inputs.turn told
  pub report : IsPlanPrinted told before.written after.written

-- no crane reaches the task
abbrev pub IsOutOfReach : InstanceView → ℕ → Type 0
IsOutOfReach inst j = (k : ℕ) → k < length inst.cranes → reaches inst j k ≡ false

-- there is no schedule that cranes may follow, as the tree shows that is written; all other files are as they were. Where
-- cranes go as they like that is so only where some task lies in no crane's reach
pub record IsInfeasibleTold (asked : Planning) (held : Files) (now : Option Files)
    (before after : View) : Type 0 where
  pub branched : ℕ
  pub written : IsWritten asked held now (answer.Infeasible branched)
  pub kind : written.search.done.kind ≡ kind.Infeasible
  pub none : (sched : List Slot) → ¬ IsAllowed written.search.inst sched
  pub out_of_reach : asked.inputs.turn ≡ Free
      → (j : ℕ) × (j < length written.search.inst.tasks) × IsOutOfReach written.search.inst j
  pub report : Prints (infeasible_text branched) before.written after.written

-- the planner's own plan breaks a rule, which is told
pub record IsOwnBrokenTold (asked : Planning) (held : Files) (before after : View) : Type 0 where
  pub job : OwnJob
  pub due : own_job_due asked.inputs.own (contents_in held asked.inputs) ≡ Ok job
  pub sched : List Slot
  pub own : job.own ≡ Some sched
  pub told : Broken
  pub tells : TellsBreakBy asked.inputs.turn job.inst sched told
  pub report : Prints (broken_text told) before.written after.written

-- a search ends with this status
abbrev pub IsSearchEnd : Status → Type 0
IsSearchEnd status.Optimal = Unit {0}
IsSearchEnd status.Infeasible = Unit {0}
IsSearchEnd status.BudgetPlan = Unit {0}
IsSearchEnd status.BudgetNone = Unit {0}
IsSearchEnd _ = ⊥

-- how a plan ends where no call failed: Broken exactly where cranes may not follow the planner's own plan
pub record EndsPlanned (job : OwnJob) (ended : Status) : Type 0 where
  pub not_allowed : IfSome job.own (λ sched. ¬ IsAllowed job.inst sched → ended ≡ status.Broken)
  pub allowed : IfSome job.own (IsAllowed job.inst) → IsSearchEnd ended

-- the shelf failed while the plan was written, and the sink got the line of that
pub record IsStopTold (asked : Planning) (before after out_before out_after : View) : Type 0 where
  pub rose : Rose before.faults after.faults
  pub serves : IsPlanning asked before after (Ok answer.WriteFault)
  pub faults : out_after.faults ≡ out_before.faults
  pub report : Prints (codes "WriteFault\n") out_before.written out_after.written

pub record PlanPromises (asked : Planning) (before after out_before out_after : View)
    (ended : Status) : Type 0 where
  -- Optimal, Infeasible, BudgetPlan and BudgetNone
  pub plan_optimal : ended ≡ status.Optimal
      → IfSome before.files (λ held. IsOptimalTold asked held after.files out_before out_after)
  pub plan_infeasible : ended ≡ status.Infeasible
      → IfSome before.files (λ held. IsInfeasibleTold asked held after.files out_before out_after)
  pub plan_budget : ended ≡ status.BudgetPlan
      → IfSome before.files (λ held. IsBudgetTold asked held after.files out_before out_after)
  pub plan_none : ended ≡ status.BudgetNone
      → IfSome before.files (λ held. IsUnplannedTold asked held after.files out_before out_after)
  -- a plan that is told holds by itself, whether the shelf tells its files or not
  pub plan_sound : (ended ≡ status.Optimal) ⊎ (ended ≡ status.BudgetPlan) → IsSoundTold asked out_before out_after
  -- no file that was begun is left behind the end of a search
  pub none_left : IsSearchEnd ended → after.made ≡ None
  -- Broken
  pub plan_broken : ended ≡ status.Broken
      → IfSome before.files (λ held. IsOwnBrokenTold asked held out_before out_after)
  -- with enough branchings a plan isn't given up
  pub plan_decides : IfSome before.files (λ held. (job : OwnJob)
      → own_job_due asked.inputs.own (contents_in held asked.inputs) ≡ Ok job
      → branching_limit job.inst ≤ asked.nodes
      → (ended ≢ status.BudgetPlan) × (ended ≢ status.BudgetNone))
  -- the files stay where a plan was neither written nor stopped
  pub plan_leaves : ¬ IsSearchEnd ended → ended ≢ status.WriteFault → after.files ≡ before.files
  -- what the files hold where it ends with WriteFault, or in any other way: each is whole or as it was
  pub plan_stopped : IfSome before.files (λ held. IsLeft asked held after.files)
  -- what the sink gets where it ends with WriteFault
  pub write_fault : ended ≡ status.WriteFault
      → IsCutTold (IsPlanning asked before after) plan_prints_part out_before out_after
      ⊎ IsStopTold asked before after out_before out_after
  -- each refusal, and want of memory
  pub refused : IsRefusal ended → IsRefusalTold (IsPlanning asked before after) out_before out_after ended
  pub no_usage : ended ≢ status.Usage
  pub out_of_memory : ended ≡ status.OutOfMemory
      → Prints (codes "OutOfMemory\n") out_before.written out_after.written
  -- what is due of the files comes where no call failed, or want of memory does
  pub complete : NoneFailed before after out_before out_after → IfSome before.files (λ held.
      EndsBy EndsPlanned (own_job_due asked.inputs.own (contents_in held asked.inputs)) ended
      ⊎ (ended ≡ status.OutOfMemory))
