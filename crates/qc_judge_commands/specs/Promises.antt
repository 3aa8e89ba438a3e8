-- public: what follows from the accounts of these commands, said by itself for whoever reads one status.
use Rattle.std.specs.Prelude.{◌≡◌, ℕ, ◌≤◌, ◌<◌, List, ◌++◌, codes, decimal, Result, Ok, IfSome}
use Rattle.qc_num.specs.declared.bound.Bound.{Bound}
use Rattle.qc_num.specs.declared.bound.Bound.TheVariants.{Least, Never}
use Rattle.qc_io.specs.Outside.{Files, View}
use Rattle.qc_model.specs.OneWay.{IsAllowed}
use Rattle.qc_model.specs.Rules.{ends}
use Rattle.qc_replay.specs.declared.fault.Replayed.{Replayed}
use Rattle.qc_run.specs.declared.reading.Job.{Job}
use Rattle.qc_run.specs.declared.refusal.Refusal.{Refusal}
use Rattle.qc_run.specs.declared.refusal.Refusal.TheVariants as refusal
use Rattle.qc_run.specs.declared.status.Status.{Status}
use Rattle.qc_run.specs.declared.status.Status.TheVariants as status
use Rattle.qc_run.specs.Broken.{TellsBreakBy, broken_text}
use Rattle.qc_run.specs.Due.{contents_in, job_due}
use Rattle.qc_run.specs.Inputs.{Names}
use Rattle.qc_run.specs.Reports.{Prints}
use Rattle.qc_run.specs.Told.{EndsAsDue, EndsBy, IsBest, IsFaultTold, IsTold, ReadPromises}
use Rattle.qc_judge_commands.specs.TreeFile.{IsTreeShown, shown_due, tree_due}
use Rattle.qc_judge_commands.specs.declared.answer.Compared.{Compared}
use Rattle.qc_judge_commands.specs.Account.{IsJudging, IsTreeChecked, judged_report, tree_report}
use Rattle.qc_judge_commands.specs.Shown.{IsBoundShown, IsNoneShown}
use Rattle.qc_judge_commands.specs.Texts.{bound_status, compared_status, compared_text, compared_word}

-- ---- a tree alone

-- the value of the tree was printed, an end that no schedule of the turn beats that was asked about
pub record IsEndTold (names : Names) (held : Files) (before after : View) : Type 0 where
  pub end : ℕ
  pub shown : IsBoundShown names held (Least end)
  pub report : Prints (codes "Bound " ++ decimal end ++ codes "\n") before.written after.written

-- it was printed that there is no such schedule, as the tree shows
pub record IsNoneTold (names : Names) (held : Files) (before after : View) : Type 0 where
  pub shown : IsBoundShown names held Never
  pub report : Prints (codes "Infeasible\n") before.written after.written

pub record TreePromises (names : Names) (before after out_before out_after : View) (ended : Status) : Type 0 where
  pub reads : ReadPromises (IsTreeChecked names before after) tree_report.part
      before after out_before out_after ended
  -- Done, Infeasible and BadTree
  pub check_done : ended ≡ status.Done → IfSome before.files (λ held. IsEndTold names held out_before out_after)
  pub check_infeasible :
      ended ≡ status.Infeasible → IfSome before.files (λ held. IsNoneTold names held out_before out_after)
  pub check_bad_tree : ended ≡ status.BadTree → IfSome before.files (λ held. IsNoneShown names held)
  pub complete : EndsAsDue (λ contents. EndsBy (λ read end. end ≡ bound_status read.bound) (shown_due contents))
      names before after out_before out_after ended

-- ---- a plan

-- cranes may follow the plan that was checked: it goes one way, or it is feasible where all such plans are asked about; the
-- tree's file is the text of a tree of the instance, and the plan's end and the tree's value were printed
pub record IsComparedTold (names : Names) (held : Files) (before after : View) (first : List ℕ) : Type 0 where
  pub job : Job
  pub due : job_due (contents_in held names) ≡ Ok job
  pub turn : job.inst.turn ≡ names.turn
  pub goes : IsAllowed job.inst job.sched
  pub told : Compared
  pub end : told.end ≡ ends job.inst job.sched
  pub shown : IsTreeShown job.inst (contents_in held names).tree (Least told.bound)
  pub report : Prints (compared_text told) before.written after.written
  pub word : compared_word told ≡ first

-- and the tree's value is at least the plan's end, so no schedule that cranes may follow ends earlier
pub record IsBestTold (names : Names) (held : Files) (before after : View) : Type 0 where
  pub plan : IsComparedTold names held before after (codes "Optimal")
  pub enough : plan.told.end ≤ plan.told.bound
  pub best : IsBest plan.job.inst plan.job.sched

-- and the tree's value is less than the plan's end
pub record IsWeakerTold (names : Names) (held : Files) (before after : View) : Type 0 where
  pub plan : IsComparedTold names held before after (codes "Weaker")
  pub weaker : plan.told.bound < plan.told.end

-- cranes may not follow the plan, and the first rule that it breaks was printed
abbrev pub IsBrokenTold : Names → (held : Files) → (before after : View) → Type 0
IsBrokenTold =
    IsTold job_due (λ job. TellsBreakBy job.inst.turn job.inst job.sched) (λ told. Prints (broken_text told))

-- the plan's file has a fault, which was printed
abbrev pub IsBadPlanTold : Names → (held : Files) → (before after : View) → Type 0
IsBadPlanTold = IsFaultTold job_due refusal.BadPlan

-- a plan that cranes may follow ends so, by what its tree's file comes to
abbrev pub held_status : ℕ → Bound → Status
held_status end (Least bound) = compared_status (record { end = end; bound = bound })
held_status end Never = status.Optimal

-- a plan that is judged ends so where nothing fails
pub record EndsJudged (job : Job) (tree : Result Replayed Refusal) (ended : Status) : Type 0 where
  pub not_allowed : ¬ IsAllowed job.inst job.sched → ended ≡ status.Broken
  pub allowed : IsAllowed job.inst job.sched
      → EndsBy (λ read end. end ≡ held_status (ends job.inst job.sched) read.bound) tree ended

pub record PlanCheckPromises (names : Names) (before after out_before out_after : View) (ended : Status)
    : Type 0 where
  pub reads : ReadPromises (IsJudging names before after) judged_report.part
      before after out_before out_after ended
  -- Optimal, Weaker, Broken, BadPlan and BadTree
  pub check_optimal : ended ≡ status.Optimal → IfSome before.files (λ held. IsBestTold names held out_before out_after)
  pub check_weaker : ended ≡ status.Weaker → IfSome before.files (λ held. IsWeakerTold names held out_before out_after)
  pub check_broken : ended ≡ status.Broken → IfSome before.files (λ held. IsBrokenTold names held out_before out_after)
  pub check_bad_plan :
      ended ≡ status.BadPlan → IfSome before.files (λ held. IsBadPlanTold names held out_before out_after)
  pub check_plan_bad_tree : ended ≡ status.BadTree → IfSome before.files (λ held. IsNoneShown names held)
  -- where no call failed: Broken exactly where cranes may not follow the plan, and else what its tree's file comes to
  pub check_complete :
      EndsAsDue (λ contents. EndsBy (λ job. EndsJudged job (tree_due job.inst contents)) (job_due contents))
      names before after out_before out_after ended
