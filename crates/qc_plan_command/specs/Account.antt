-- public: the account of a plan: what its answer says of the files.
use Rattle.std.specs.Prelude.{◌≡◌, ◌⊎◌, List, Option, None, Some, Result, Ok, Err, IfSome}
use Rattle.qc_io.specs.Outside.{Files, Rose, View}
use Rattle.qc_model.specs.declared.schedule.Slot.{Slot}
use Rattle.qc_model.specs.Instance.{InstanceView, Valid}
use Rattle.qc_model.specs.OneWay.{IsAllowed}
use Rattle.qc_search.specs.Run.{DoneView}
use Rattle.qc_search.specs.Outcome.{IsFound, IsFoundSoFar}
use Rattle.qc_search.specs.Stored.{with_plan, with_tree}
use Rattle.qc_tree.specs.Trees.{Tree}
use Rattle.qc_run.specs.declared.refusal.Stop.{Stop}
use Rattle.qc_run.specs.declared.status.Status.{Status}
use Rattle.qc_run.specs.declared.broken.Broken.{Broken}
use Rattle.qc_run.specs.declared.reading.OwnJob.{OwnJob}
use Rattle.qc_run.specs.Broken.{TellsBreakBy}
use Rattle.qc_run.specs.Due.{contents_in, own_job_due}
use Rattle.qc_run.specs.Reports.{IsRun}
use Rattle.qc_run.specs.Steps.{ComesTo, MayStop, Stops}
use Rattle.qc_plan_command.specs.declared.answer.PlanAnswer.{PlanAnswer}
use Rattle.qc_plan_command.specs.declared.answer.PlanAnswer.TheVariants as answer
use Rattle.qc_run.specs.Inputs.{Planning}
use Rattle.qc_plan_command.specs.Found.{IsSoundAnswer, Tells}
use Rattle.qc_plan_command.specs.Reports.{plan_prints, plan_prints_part, plan_status}

-- the search of the instance of the two files, which is valid, with the turn that is asked about, came to this; cranes may
-- follow a plan of the planner's own, where one is named
pub record IsSearched (asked : Planning) (held : Files) : Type 0 where
  pub inst : InstanceView
  pub own : Option (List Slot)
  pub due : own_job_due asked.inputs.own (contents_in held asked.inputs) ≡ Ok (record { inst = inst; own = own })
  pub turn : inst.turn ≡ asked.inputs.turn
  pub valid : Valid inst
  pub allowed : IfSome own (IsAllowed inst)
  pub tree : Tree
  pub done : DoneView
  pub found : IsFound inst asked.nodes own tree done

-- the files with its tree alone, and with the plan of its best schedule too
abbrev pub tree_files : (asked : Planning) (held : Files) → IsSearched asked held → Files
tree_files asked held s = with_tree held asked.tree s.inst s.tree

abbrev pub both_files : (asked : Planning) (held : Files) → IsSearched asked held → Files
both_files asked held s = with_plan (tree_files asked held s) asked.plan s.inst s.done.best

-- it is what the answer tells, and both files are whole; all others are as they were
pub record IsWritten (asked : Planning) (held : Files) (now : Option Files) (a : PlanAnswer) : Type 0 where
  pub search : IsSearched asked held
  pub told : Tells search.inst search.done a
  pub files : now ≡ Some (both_files asked held search)

-- the search of the instance of the two files has run in rounds so far; cranes may follow a plan of the planner's own, where
-- one is named
pub record IsSearching (asked : Planning) (held : Files) : Type 0 where
  pub inst : InstanceView
  pub own : Option (List Slot)
  pub due : own_job_due asked.inputs.own (contents_in held asked.inputs) ≡ Ok (record { inst = inst; own = own })
  pub allowed : IfSome own (IsAllowed inst)
  pub tree : Tree
  pub found : IsFoundSoFar inst asked.nodes own tree

-- all files are as they were, or the tree's file is whole and holds that of the rounds so far, or that of all of them, which
-- the plan's file may follow
abbrev pub IsLeft : Planning → Files → Option Files → Type 0
IsLeft asked held now =
    (now ≡ Some held)
    ⊎ ((s : IsSearching asked held) × (now ≡ Some (with_tree held asked.tree s.inst s.tree)))
    ⊎ ((s : IsSearched asked held) × ((now ≡ Some (tree_files asked held s)) ⊎ (now ≡ Some (both_files asked held s))))

-- the instance of the two files was there to be searched, and cranes may follow a plan of the planner's own, where one is
-- named; the writing of that search was stopped
pub record IsStopped (asked : Planning) (held : Files) (now : Option Files) : Type 0 where
  pub job : OwnJob
  pub due : own_job_due asked.inputs.own (contents_in held asked.inputs) ≡ Ok job
  pub allowed : IfSome job.own (IsAllowed job.inst)
  pub left : IsLeft asked held now

-- the planner's own plan breaks a rule, and no file was begun
pub record IsOwnBroken (asked : Planning) (before after : View) (told : Broken) : Type 0 where
  pub job : OwnJob
  pub due : ComesTo (own_job_due asked.inputs.own) asked.inputs before.files (Ok job)
  pub sched : List Slot
  pub own : job.own ≡ Some sched
  pub tells : TellsBreakBy asked.inputs.turn job.inst sched told
  pub files : after.files ≡ before.files
  pub made : after.made ≡ before.made

-- what an answer says of the files; where it tells of a search, no file is being made any more
abbrev pub Writes : Planning → View → View → PlanAnswer → Type 0
Writes asked before after answer.WriteFault =
    Rose before.faults after.faults × IfSome before.files (λ held. IsStopped asked held after.files)
Writes asked before after (answer.Broken told) =
    (after.faults ≡ before.faults) × IsOwnBroken asked before after told
Writes asked before after a =
    (after.faults ≡ before.faults) × IfSome before.files (λ held. IsWritten asked held after.files a)
    × (after.made ≡ None) × IsSoundAnswer asked.inputs.turn a

-- what a plan says of its answer and of the shelf; where it stopped, no file was begun
abbrev pub IsPlanning : Planning → View → View → Result PlanAnswer Stop → Type 0
IsPlanning asked before after (Ok a) =
    Writes asked before after a × (after.read_faults ≡ before.read_faults)
IsPlanning asked before after (Err why) =
    Stops (own_job_due asked.inputs.own) asked.inputs before after why × MayStop asked.inputs why
    × (after.files ≡ before.files) × (after.faults ≡ before.faults) × (after.made ≡ before.made)

-- a run of the command: it plans, and reports
abbrev pub IsPlanRun : Planning → (before after out_before out_after : View) → Status → Type 0
IsPlanRun asked before after out_before out_after ended =
    IsRun (IsPlanning asked before after) plan_prints plan_prints_part plan_status out_before out_after ended
