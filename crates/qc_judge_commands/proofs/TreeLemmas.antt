-- What follows from the account of a tree's check.
use Rattle.std.proofs.Common.{◌≡◌, Option, None, Some, Ok, refl, IfSome}
use Rattle.qc_num.specs.declared.bound.Bound.{Bound}
use Rattle.qc_num.specs.declared.bound.Bound.TheVariants.{Least, Never}
use Rattle.qc_io.specs.Outside.{Files, View}
use Rattle.qc_replay.specs.declared.fault.Replayed.{Replayed}
use Rattle.qc_run.specs.declared.refusal.Refusal.{Refusal}
use Rattle.qc_run.specs.declared.refusal.Refusal.TheVariants as refusal
use Rattle.qc_run.specs.declared.refusal.Stop.TheVariants as stop
use Rattle.qc_run.specs.declared.status.Status.{Status}
use Rattle.qc_run.specs.declared.status.Status.TheVariants as status
use Rattle.qc_run.specs.Inputs.{Names}
use Rattle.qc_run.specs.Reports.{Prints}
use Rattle.qc_run.specs.Texts.{refusal_status}
use Rattle.qc_run.specs.Told.{EndsBy}
use Rattle.qc_run.proofs.AccountLemmas.{answer_found, ends_as, reading_promises, refusal_found}
use Rattle.qc_run.proofs.DueLemmas.{comes_due}
use Rattle.qc_run.proofs.StatusLemmas.{IsAnswer}
use Rattle.qc_run.proofs.ToldLemmas.{stop_due}
use Rattle.qc_judge_commands.specs.TreeFile.{shown_due}
use Rattle.qc_judge_commands.specs.Account.{IsTreeFound, IsTreeRun, ShowsNone, StopsTree, tree_report}
use Rattle.qc_judge_commands.specs.Promises.{IsEndTold, IsNoneTold, TreePromises}
use Rattle.qc_judge_commands.specs.Shown.{IsBoundShown, IsNoneShown}
use Rattle.qc_judge_commands.specs.Texts.{bound_status, bound_text}

answers : (read : Replayed) → IsAnswer (bound_status read.bound)
answers read = by read.bound
  where
    by : (bound : Bound) → IsAnswer (bound_status bound)
    by (Least end) = tt
    by Never = tt

-- a fault of the tree's file is told as one of no tree
pub none_told : (names : Names) (files : Option Files) (why : Refusal) → ShowsNone names files (stop.Refused why)
    → refusal_status why ≡ status.BadTree → IfSome files (λ held. IsNoneShown names held)
none_told names files (refusal.BadTree fault) shows e = shows fault refl
none_told names files why shows e = absurd (cc e)

module _ (names : Names) (before after pb pa : View) (ended : Status) (run : IsTreeRun names before after pb pa ended) where
  abbrev found : Replayed → Type 0
  found = IsTreeFound names before.files

  end_told : (read : Replayed) → found read → bound_status read.bound ≡ status.Done → Prints (bound_text read.bound) pb.written pa.written
      → IfSome before.files (λ held. IsEndTold names held pb pa)
  end_told read is e report = by read.bound before.files is.shown e report
    where
      by : (bound : Bound) (files : Option Files) → IfSome files (λ held. IsBoundShown names held bound) → bound_status bound ≡ status.Done
          → Prints (bound_text bound) pb.written pa.written → IfSome files (λ held. IsEndTold names held pb pa)
      by Never files shown e report = absurd (cc e)
      by (Least end) None shown e report = tt
      by (Least end) (Some held) shown e report = record { end = end; shown = shown; report = report }

  no_end_told : (read : Replayed) → found read → bound_status read.bound ≡ status.Infeasible → Prints (bound_text read.bound) pb.written pa.written
      → IfSome before.files (λ held. IsNoneTold names held pb pa)
  no_end_told read is e report = by read.bound before.files is.shown e report
    where
      by : (bound : Bound) (files : Option Files) → IfSome files (λ held. IsBoundShown names held bound) → bound_status bound ≡ status.Infeasible
          → Prints (bound_text bound) pb.written pa.written → IfSome files (λ held. IsNoneTold names held pb pa)
      by (Least end) files shown e report = absurd (cc e)
      by Never None shown e report = tt
      by Never (Some held) shown e report = record { shown = shown; report = report }

  pub tree_promises : TreePromises names before after pb pa ended
  tree_promises = record {
    reads = reading_promises found (StopsTree names before after) names tree_report answers before after pb pa ended run;
    check_done = λ e. answer_found found (StopsTree names before after) names tree_report answers before after pb pa ended run status.Done tt e end_told;
    check_infeasible = λ e. answer_found found (StopsTree names before after) names tree_report answers before after pb pa ended run status.Infeasible tt e no_end_told;
    check_bad_tree = λ e. refusal_found found (StopsTree names before after) names tree_report answers before after pb pa ended run status.BadTree tt e
        (λ why is same printed. none_told names before.files why is.1 same);
    complete = ends_as found (StopsTree names before after) names tree_report answers before after pb pa ended run
        (λ contents. EndsBy (λ (read : Replayed) end. end ≡ bound_status read.bound) (shown_due contents))
        (λ none held told read is. rw (comes_due shown_due names held before.files told (Ok read) is.due) refl)
        (λ none held told why is. stop_due shown_due (λ read end. end ≡ bound_status read.bound) names before after held told none.reading why is.0);
  }
