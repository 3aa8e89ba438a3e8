-- What follows from the account of a check of a plan.
use Rattle.std.proofs.Common.{◌≡◌, ◌≤◌, ◌⊎◌, ℕ, Bool, true, false, List, Option, None, Some, Result, Ok, Err, arith, refl, sym, ap, subst, inl, inr, ◌∙◌, IfErr, IfSome, codes, nat_le, ok_or, if◌then◌else◌}
use Rattle.std.proofs.lemmas.Bool.{cond_both, leb-false, leb-true}
use Rattle.qc_num.specs.declared.bound.Bound.TheVariants.{Least}
use Rattle.qc_num.specs.Reading.{◌>>=◌, with_fault}
use Rattle.qc_num.proofs.ReadingLemmas.{same_ok}
use Rattle.qc_io.specs.Outside.{Files, View}
use Rattle.qc_gantt.specs.declared.fault.PlanFault.{PlanFault}
use Rattle.qc_model.specs.Instance.{InstanceView}
use Rattle.qc_model.specs.Rules.{ends}
use Rattle.qc_replay.specs.declared.fault.Replayed.{Replayed}
use Rattle.qc_tree.specs.declared.fault.TreeFault.{TreeFault}
use Rattle.qc_replay.specs.Walk.{tree_in}
use Rattle.qc_run.specs.declared.inputs.Input.TheVariants as input
use Rattle.qc_run.specs.declared.reading.Job.{Job}
use Rattle.qc_run.specs.declared.refusal.Refusal.{Refusal}
use Rattle.qc_run.specs.declared.refusal.Refusal.TheVariants as refusal
use Rattle.qc_run.specs.declared.refusal.Stop.{Stop}
use Rattle.qc_run.specs.declared.refusal.Stop.TheVariants as stop
use Rattle.qc_run.specs.declared.status.Status.{Status}
use Rattle.qc_run.specs.declared.status.Status.TheVariants as status
use Rattle.qc_run.specs.Broken.{TellsBreakBy, broken_text}
use Rattle.qc_run.specs.Due.{Contents, contents_in, job_due}
use Rattle.qc_run.specs.Inputs.{Names}
use Rattle.qc_run.specs.Reports.{Prints}
use Rattle.qc_run.specs.Steps.{ComesTo}
use Rattle.qc_run.specs.Texts.{refusal_status, refusal_text, stop_status}
use Rattle.qc_run.specs.Told.{EndsBy, NoneFailed}
use Rattle.qc_run.proofs.AccountLemmas.{answer_found, ends_as, fault_of, reading_promises, refusal_found, told_of}
use Rattle.qc_run.proofs.DueLemmas.{comes_due, instance_turn, stop_is}
use Rattle.qc_run.proofs.StatusLemmas.{IsAnswer}
use Rattle.qc_run.proofs.ToldLemmas.{stop_due}
use Rattle.qc_judge_commands.specs.TreeFile.{IsTreeShown, tree_due}
use Rattle.qc_judge_commands.specs.declared.answer.Compared.{Compared}
use Rattle.qc_judge_commands.specs.declared.answer.Judged.{Judged}
use Rattle.qc_judge_commands.specs.declared.answer.Judged.TheVariants as judged
use Rattle.qc_judge_commands.specs.Account.{IsJudged, IsPlanCheckRun, IsStoppedAtTree, StopsPlan, judged_report}
use Rattle.qc_judge_commands.specs.Promises.{EndsJudged, IsBadPlanTold, IsBestTold, IsBrokenTold, IsComparedTold, IsWeakerTold, PlanCheckPromises}
use Rattle.qc_judge_commands.specs.Texts.{compared_status, compared_text, compared_word, judged_status, judged_text}
use Rattle.qc_judge_commands.proofs.ReadLemmas.{job_inst}
use Rattle.qc_judge_commands.proofs.TreeLemmas.{none_told}

-- ---- statuses

-- a plan that holds ends so
abbrev pub IsComparedEnd : Status → Type 0
IsComparedEnd status.Optimal = Unit {0}
IsComparedEnd status.Weaker = Unit {0}
IsComparedEnd _ = ⊥

compared_ends : (told : Compared) (s : Status) → compared_status told ≡ s → IsComparedEnd s
compared_ends told s e =
    subst IsComparedEnd e (cond_both (nat_le told.end told.bound) status.Optimal status.Weaker IsComparedEnd (λ _. tt) (λ _. tt))

judged_answers : (a : Judged) → IsAnswer (judged_status a)
judged_answers (judged.Broken told) = tt
judged_answers (judged.Compared told) = cond_both (nat_le told.end told.bound) status.Optimal status.Weaker IsAnswer (λ _. tt) (λ _. tt)

in_time : (b : Bool) → (if b then status.Optimal else status.Weaker) ≡ status.Optimal → b ≡ true
in_time true e = refl
in_time false e = absurd (cc e)

too_late : (b : Bool) → (if b then status.Optimal else status.Weaker) ≡ status.Weaker → b ≡ false
too_late false e = refl
too_late true e = absurd (cc e)

-- ---- a tree's file is refused for itself alone

abbrev IsOfTree : Refusal → Type 0
IsOfTree (refusal.BadTree fault) = Unit {0}
IsOfTree (refusal.ReadFault input.Tree) = Unit {0}
IsOfTree why = ⊥

tree_refusal : (inst : InstanceView) (file : Option (List ℕ)) → IfErr (ok_or file (refusal.ReadFault input.Tree) >>= λ bytes. with_fault refusal.BadTree (tree_in inst bytes)) IsOfTree
tree_refusal inst None = tt
tree_refusal inst (Some bytes) = by (tree_in inst bytes)
  where
    by : (r : Result Replayed TreeFault) → IfErr (with_fault refusal.BadTree r) IsOfTree
    by (Ok read) = tt
    by (Err fault) = tt

-- ---- a check of a plan

module _ (names : Names) (before after pb pa : View) (ended : Status) (run : IsPlanCheckRun names before after pb pa ended) where
  abbrev found : Judged → Type 0
  found = IsJudged names before.files

  abbrev stops : Stop → Type 0
  stops = StopsPlan names before after

  abbrev told_plan : (held : Files) (told : Compared) (first : List ℕ) → IsJudged names (Some held) (judged.Compared told)
      → Prints (compared_text told) pb.written pa.written → compared_word told ≡ first → IsComparedTold names held pb pa first
  told_plan held told first is report word =
      let same : is.tells.shown.inst ≡ is.read.inst = same_ok (sym is.tells.shown.due ∙ job_inst (contents_in held names) is.read is.due) in
      record {
        job = is.read;
        due = is.due;
        turn = instance_turn (contents_in held names) is.read.inst (job_inst (contents_in held names) is.read is.due);
        goes = is.tells.tells.goes;
        told = told;
        end = is.tells.tells.end;
        shown = subst (λ inst. IsTreeShown inst (contents_in held names).tree (Least told.bound)) same is.tells.shown.shown;
        report = report;
        word = word;
      }

  best_told : (a : Judged) → found a → judged_status a ≡ status.Optimal → Prints (judged_text a) pb.written pa.written
      → IfSome before.files (λ held. IsBestTold names held pb pa)
  best_told (judged.Compared told) is e report = by before.files is
    where
      by : (files : Option Files) → IsJudged names files (judged.Compared told) → IfSome files (λ held. IsBestTold names held pb pa)
      by None is = tt
      by (Some held) is =
          let le = in_time (nat_le told.end told.bound) e in
          let enough : told.end ≤ told.bound = leb-true told.end told.bound le in
          let plan = told_plan held told (codes "Optimal") is report (ap (λ (b : Bool). if b then codes "Optimal" else codes "Weaker") le) in
          record {
            plan = plan;
            enough = enough;
            best = record {
              goes = plan.goes;
              least = λ other goes. let late : told.bound ≤ ends plan.job.inst other = plan.shown.none_earlier other goes in let same = plan.end in omega (arith, late, enough, same);
            };
          }
  best_told (judged.Broken told) is e report = absurd (cc e)

  weaker_told : (a : Judged) → found a → judged_status a ≡ status.Weaker → Prints (judged_text a) pb.written pa.written
      → IfSome before.files (λ held. IsWeakerTold names held pb pa)
  weaker_told (judged.Compared told) is e report = by before.files is
    where
      by : (files : Option Files) → IsJudged names files (judged.Compared told) → IfSome files (λ held. IsWeakerTold names held pb pa)
      by None is = tt
      by (Some held) is =
          let less = too_late (nat_le told.end told.bound) e in
          record {
            plan = told_plan held told (codes "Weaker") is report (ap (λ (b : Bool). if b then codes "Optimal" else codes "Weaker") less);
            weaker = leb-false told.end told.bound less;
          }
  weaker_told (judged.Broken told) is e report = absurd (cc e)

  broken_told : (a : Judged) → found a → judged_status a ≡ status.Broken → Prints (judged_text a) pb.written pa.written
      → IfSome before.files (λ held. IsBrokenTold names held pb pa)
  broken_told (judged.Broken told) is e report =
      told_of job_due (λ job. TellsBreakBy job.inst.turn job.inst job.sched) (λ told. Prints (broken_text told)) names pb pa before.files is.read told is.due is.tells report
  broken_told (judged.Compared told) is e report = absurd (compared_ends told status.Broken e)

  late_bad_plan : (fault : PlanFault) (files : Option Files) → ((inst : InstanceView) × ComesTo (tree_due inst) names files (Err (refusal.BadPlan fault)))
      → IfSome files (λ held. IsBadPlanTold names held pb pa)
  late_bad_plan fault None late = tt
  late_bad_plan fault (Some held) late =
      absurd (subst (λ (r : Result Replayed Refusal). IfErr r IsOfTree) late.1 (tree_refusal late.0 (contents_in held names).tree))

  bad_plan_told : (why : Refusal) → stops (stop.Refused why) → refusal_status why ≡ status.BadPlan → Prints (refusal_text why) pb.written pa.written
      → IfSome before.files (λ held. IsBadPlanTold names held pb pa)
  bad_plan_told (refusal.BadPlan fault) is e report = elim is.0 [
    | inl early ↦ fault_of job_due refusal.BadPlan names pb pa before.files fault early.1 report
    | inr late ↦ late_bad_plan fault before.files (late.job.inst, late.tree.1)
  ]
  bad_plan_told why is e report = absurd (cc e)

  -- ---- where no call failed

  abbrev Ends : Contents → Status → Type 0
  Ends contents s = EndsBy (λ (job : Job) end. EndsJudged job (tree_due job.inst contents) end) (job_due contents) s

  module _ (none : NoneFailed before after pb pa) (held : Files) (told : before.files ≡ Some held) where
    job_is : (job : Job) → ComesTo job_due names before.files (Ok job) → job_due (contents_in held names) ≡ Ok job
    job_is job due = comes_due job_due names held before.files told (Ok job) due

    late_ends : (why : Stop) → IsStoppedAtTree names before after why → Ends (contents_in held names) (stop_status why) ⊎ (stop_status why ≡ status.OutOfMemory)
    late_ends stop.OutOfMemory late = inr refl
    late_ends (stop.Refused why) late =
        let refused : tree_due late.job.inst (contents_in held names) ≡ Err why =
        stop_is (tree_due late.job.inst) names before after held told none.reading why late.tree in
        inl (rw (job_is late.job late.due) (record {
          not_allowed = λ not. absurd (not late.goes);
          allowed = λ goes. rw refused refl;
        }))

    stops_end : (why : Stop) → stops why → Ends (contents_in held names) (stop_status why) ⊎ (stop_status why ≡ status.OutOfMemory)
    stops_end why is = elim is.0 [
      | inl early ↦ stop_due job_due (λ job end. EndsJudged job (tree_due job.inst (contents_in held names)) end) names before after held told none.reading why early
      | inr late ↦ late_ends why late
    ]

    judged_ends : (a : Judged) → found a → Ends (contents_in held names) (judged_status a)
    judged_ends (judged.Broken broken) is =
        rw (job_is is.read is.due) (record { not_allowed = λ _. refl; allowed = λ goes. absurd (is.tells.is.not_allowed goes) })
    judged_ends (judged.Compared compared) is =
        let c = is.tells in
        let read : tree_due is.read.inst (contents_in held names) ≡ Ok c.read =
        comes_due (tree_due is.read.inst) names held before.files told (Ok c.read) c.tree in
        rw (job_is is.read is.due) (record {
          not_allowed = λ not. absurd (not c.tells.goes);
          allowed = λ _. rw (read, c.tells.bound_told, ← c.tells.end) refl;
        })

  pub plan_check_promises : PlanCheckPromises names before after pb pa ended
  plan_check_promises = record {
    reads = reading_promises found stops names judged_report judged_answers before after pb pa ended run;
    check_optimal = λ e. answer_found found stops names judged_report judged_answers before after pb pa ended run status.Optimal tt e best_told;
    check_weaker = λ e. answer_found found stops names judged_report judged_answers before after pb pa ended run status.Weaker tt e weaker_told;
    check_broken = λ e. answer_found found stops names judged_report judged_answers before after pb pa ended run status.Broken tt e broken_told;
    check_bad_plan = λ e. refusal_found found stops names judged_report judged_answers before after pb pa ended run status.BadPlan tt e bad_plan_told;
    check_plan_bad_tree = λ e. refusal_found found stops names judged_report judged_answers before after pb pa ended run status.BadTree tt e
        (λ why is same printed. none_told names before.files why is.1 same);
    check_complete = ends_as found stops names judged_report judged_answers before after pb pa ended run Ends judged_ends stops_end;
  }
