-- What a tree's file shows for the instance that is due.
use Rattle.std.proofs.Common.{◌≡◌, ◌≤◌, ◌⊎◌, ℕ, Option, None, Some, Result, Ok, Err, ap, subst, inl, inr, ◌∙◌, IfErr, IfOk, IfSome}
use Rattle.qc_num.specs.declared.bound.Bound.{Bound}
use Rattle.qc_num.specs.Reading.{◌>>=◌}
use Rattle.qc_num.proofs.ReadingLemmas.{bind_ok, same_ok}
use Rattle.qc_io.specs.Outside.{Files, View}
use Rattle.qc_replay.specs.declared.fault.Replayed.{Replayed}
use Rattle.qc_tree.specs.declared.fault.TreeFault.{TreeFault}
use Rattle.qc_run.specs.declared.reading.Job.{Job}
use Rattle.qc_run.specs.declared.inputs.Input.TheVariants as input
use Rattle.qc_run.specs.declared.refusal.Refusal.TheVariants as refusal
use Rattle.qc_run.specs.declared.refusal.Stop.{Stop}
use Rattle.qc_run.specs.declared.refusal.Stop.TheVariants as stop
use Rattle.qc_run.specs.Due.{Contents, contents_in, instance_due, job_due, schedule_due}
use Rattle.qc_run.specs.Inputs.{Names}
use Rattle.qc_run.specs.Steps.{ComesTo, IsStep, Stops}
use Rattle.qc_run.proofs.AccountLemmas.{reads_found, reads_stopped}
use Rattle.qc_run.proofs.DueLemmas.{instance_turn, stops_from}
use Rattle.qc_judge_commands.specs.TreeFile.{IsNoTree, IsTreeShown, shown_due, tree_due}
use Rattle.qc_judge_commands.specs.declared.answer.Judged.{Judged}
use Rattle.qc_judge_commands.specs.Account.{IsJudged, IsJudging, IsStoppedAtTree, IsTreeChecked, ShowsNone, StopsPlan}
use Rattle.qc_judge_commands.specs.Shown.{IsBoundShown, IsNoneShown}

-- ---- the instance that is due

pub job_inst : (contents : Contents) (job : Job) → job_due contents ≡ Ok job → instance_due contents ≡ Ok job.inst
job_inst contents job e =
    let (inst, first, rest) = bind_ok (instance_due contents) (λ inst. schedule_due input.Plan inst contents >>= λ sched. Ok (record { inst = inst; sched = sched })) job e in
    let (sched, second, made) = bind_ok (schedule_due input.Plan inst contents) (λ sched. Ok (record { inst = inst; sched = sched })) job rest in
    first ∙ ap (λ (j : Job). Ok j.inst) (same_ok made)

-- what a tree's file shows is shown for that instance
pub shown_bound : (names : Names) (files : Option Files) (job : Job) (bound : Bound) → ComesTo job_due names files (Ok job)
    → IfSome files (λ held. IsTreeShown job.inst (contents_in held names).tree bound) → IfSome files (λ held. IsBoundShown names held bound)
shown_bound names None job bound h shown = tt
shown_bound names (Some held) job bound h shown =
    let due = job_inst (contents_in held names) job h in
    record { inst = job.inst; due = due; turn = instance_turn (contents_in held names) job.inst due; shown = shown }

pub shown_none : (names : Names) (files : Option Files) (job : Job) → ComesTo job_due names files (Ok job)
    → IfSome files (λ held. IsNoTree job.inst (contents_in held names).tree) → IfSome files (λ held. IsNoneShown names held)
shown_none names None job h none = tt
shown_none names (Some held) job h none = record { inst = job.inst; due = job_inst (contents_in held names) job h; none = none }

-- ---- a check of a tree

-- what the steps of the check say, as its account
pub tree_checked : (names : Names) (before after : View) (r : Result Replayed Stop) → IsStep shown_due names before after r
    → IfOk r (λ read. IfSome before.files (λ held. IsBoundShown names held read.bound))
    → ((fault : TreeFault) → r ≡ Err (stop.Refused (refusal.BadTree fault)) → IfSome before.files (λ held. IsNoneShown names held))
    → IsTreeChecked names before after r
tree_checked names before after (Ok read) step shown none = reads_found step (record { due = step.ok.1; shown = shown })
tree_checked names before after (Err why) step shown none = reads_stopped step (step.err, λ fault e. none fault (ap Err e))

-- ---- a check of a plan

-- what it says behind calls that only read and came through, it says from their beginning
pub judging_from : (names : Names) (before mid after : View) (r : Result Judged Stop) → mid.files ≡ before.files → mid.made ≡ before.made
    → mid.faults ≡ before.faults → mid.read_faults ≡ before.read_faults → IsJudging names mid after r → IsJudging names before after r
judging_from names before mid after r files made faults reads is = record {
  ok = found r is.ok;
  err = stopped r is.err;
  may = is.may;
  files = is.files ∙ files;
  made = is.made ∙ made;
  faults = is.faults ∙ faults;
  read_faults = subst (λ (n : ℕ). n ≤ after.read_faults) reads is.read_faults;
}
  where
    found : (r : Result Judged Stop) → IfOk r (λ told. (after.read_faults ≡ mid.read_faults) × IsJudged names mid.files told)
        → IfOk r (λ told. (after.read_faults ≡ before.read_faults) × IsJudged names before.files told)
    found (Ok told) h = (h.0 ∙ reads, subst (λ (f : Option Files). IsJudged names f told) files h.1)
    found (Err why) h = tt

    early_or_late : (why : Stop) → Stops job_due names mid after why ⊎ IsStoppedAtTree names mid after why
        → Stops job_due names before after why ⊎ IsStoppedAtTree names before after why
    early_or_late why h = elim h [
      | inl early ↦ inl (stops_from job_due names before mid after files reads why early)
      | inr late ↦ inr (record {
        job = late.job;
        due = subst (λ (f : Option Files). ComesTo job_due names f (Ok late.job)) files late.due;
        goes = late.goes;
        tree = stops_from (tree_due late.job.inst) names before mid after files reads why late.tree;
      })
    ]

    stopped : (r : Result Judged Stop) → IfErr r (StopsPlan names mid after) → IfErr r (StopsPlan names before after)
    stopped (Ok told) h = tt
    stopped (Err why) h = (early_or_late why h.0, subst (λ (f : Option Files). ShowsNone names f why) files h.1)
