-- public: the accounts of the commands that judge and print: what their answers say of the files.
use Rattle.std.specs.Prelude.{◌≡◌, ◌⊎◌, Option, Result, Ok, IfSome}
use Rattle.qc_io.specs.Outside.{Files, View}
use Rattle.qc_num.specs.declared.bound.Bound.TheVariants.{Least}
use Rattle.qc_model.specs.Instance.{InstanceView}
use Rattle.qc_model.specs.OneWay.{IsAllowed}
use Rattle.qc_replay.specs.declared.fault.Replayed.{Replayed}
use Rattle.qc_tree.specs.declared.fault.TreeFault.{TreeFault}
use Rattle.qc_tasks.specs.TasksText.{tasks_text}
use Rattle.qc_tree.specs.Trees.{NoneEarlier}
use Rattle.qc_run.specs.declared.reading.Job.{Job}
use Rattle.qc_run.specs.declared.refusal.Refusal.TheVariants as refusal
use Rattle.qc_run.specs.declared.refusal.Stop.{Stop}
use Rattle.qc_run.specs.declared.refusal.Stop.TheVariants as stop
use Rattle.qc_run.specs.declared.status.Status.{Status}
use Rattle.qc_run.specs.declared.status.Status.TheVariants as status
use Rattle.qc_run.specs.Account.{IsFound, IsReading, IsRunWith, Reader, Reporting, texts}
use Rattle.qc_run.specs.Broken.{TellsBreak, TellsBreakBy}
use Rattle.qc_run.specs.Due.{instance_due, job_due}
use Rattle.qc_run.specs.Inputs.{Names}
use Rattle.qc_run.specs.Steps.{ComesTo, Stops}
use Rattle.qc_judge_commands.specs.TreeFile.{shown_due, tree_due}
use Rattle.qc_judge_commands.specs.declared.answer.Compared.{Compared}
use Rattle.qc_judge_commands.specs.declared.answer.Judged.{Judged}
use Rattle.qc_judge_commands.specs.declared.answer.Judged.TheVariants as judged
use Rattle.qc_judge_commands.specs.declared.answer.Showing.{Showing}
use Rattle.qc_judge_commands.specs.declared.answer.Showing.TheVariants as showing
use Rattle.qc_judge_commands.specs.Held.{TellsHeld, TellsShown}
use Rattle.qc_judge_commands.specs.Reports.{showing_report}
use Rattle.qc_judge_commands.specs.Shown.{IsBoundShown, IsNoneShown}
use Rattle.qc_judge_commands.specs.Texts.{bound_status, bound_text, judged_status, judged_text}

-- ---- the tasks of the instance

abbrev pub tasks_reader : Reader InstanceView InstanceView
tasks_reader = record {
  due = instance_due;
  tells = λ inst told. told ≡ inst;
  report = texts tasks_text (λ inst. status.Done);
}

-- ---- a tree alone

-- what the tree's file comes to; it is the text of a tree with this value, which no schedule of the instance beats
pub record IsTreeFound (names : Names) (files : Option Files) (told : Replayed) : Type 0 where
  pub due : ComesTo shown_due names files (Ok told)
  pub shown : IfSome files (λ held. IsBoundShown names held told.bound)

-- a tree's file with a fault is the text of no tree
abbrev pub ShowsNone : Names → Option Files → Stop → Type 0
ShowsNone names files why =
    (fault : TreeFault) → why ≡ stop.Refused (refusal.BadTree fault) → IfSome files (IsNoneShown names)

abbrev pub StopsTree : Names → View → View → Stop → Type 0
StopsTree names before after why = Stops shown_due names before after why × ShowsNone names before.files why

-- what a check of a tree says
abbrev pub IsTreeChecked : Names → View → View → Result Replayed Stop → Type 0
IsTreeChecked names before after =
    IsReading (IsTreeFound names before.files) (StopsTree names before after) names before after

abbrev pub tree_report : Reporting Replayed
tree_report = texts (λ (read : Replayed). bound_text read.bound) (λ (read : Replayed). bound_status read.bound)

abbrev pub IsTreeRun : Names → (before after out_before out_after : View) → Status → Type 0
IsTreeRun names before after = IsRunWith (IsTreeChecked names before after) tree_report

-- ---- a plan

-- cranes may follow the schedule of the plan, and the tree's file is one of a tree
pub record IsCompared (names : Names) (files : Option Files) (job : Job) (told : Compared) : Type 0 where
  pub read : Replayed
  pub tree : ComesTo (tree_due job.inst) names files (Ok read)
  pub tells : TellsHeld job.inst job.sched read.bound told
  pub none_earlier : NoneEarlier job.inst (Least told.bound)
  pub shown : IfSome files (λ held. IsBoundShown names held (Least told.bound))

-- cranes may not follow the schedule of the plan, or it is compared
abbrev pub TellsJudged : Names → Option Files → Job → Judged → Type 0
TellsJudged names files job (judged.Broken told) = TellsBreakBy job.inst.turn job.inst job.sched told
TellsJudged names files job (judged.Compared told) = IsCompared names files job told

abbrev pub IsJudged : Names → Option Files → Judged → Type 0
IsJudged names files = IsFound job_due (TellsJudged names files) names files

-- cranes may follow the schedule of the plan, and its tree's file was refused
pub record IsStoppedAtTree (names : Names) (before after : View) (why : Stop) : Type 0 where
  pub job : Job
  pub due : ComesTo job_due names before.files (Ok job)
  pub goes : IsAllowed job.inst job.sched
  pub tree : Stops (tree_due job.inst) names before after why

-- a refusal comes before the schedule is judged, or of the tree's file where cranes may follow it
abbrev pub StopsPlan : Names → View → View → Stop → Type 0
StopsPlan names before after why =
    (Stops job_due names before after why ⊎ IsStoppedAtTree names before after why) × ShowsNone names before.files why

-- what a check of a plan says
abbrev pub IsJudging : Names → View → View → Result Judged Stop → Type 0
IsJudging names before after =
    IsReading (IsJudged names before.files) (StopsPlan names before after) names before after

abbrev pub judged_report : Reporting Judged
judged_report = texts judged_text judged_status

abbrev pub IsPlanCheckRun : Names → (before after out_before out_after : View) → Status → Type 0
IsPlanCheckRun names before after = IsRunWith (IsJudging names before after) judged_report

-- ---- the motion of a plan

-- the schedule of the plan breaks a rule, or it goes one way, and its motion is told
abbrev pub TellsShowing : Job → Showing → Type 0
TellsShowing job (showing.Broken told) = TellsBreak job.inst job.sched told
TellsShowing job (showing.Shown told) = TellsShown job.inst job.sched told

abbrev pub show_reader : Reader Job Showing
show_reader = record { due = job_due; tells = TellsShowing; report = showing_report }
