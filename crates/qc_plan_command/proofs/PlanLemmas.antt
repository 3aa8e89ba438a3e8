-- What follows from a plan's account of itself.
use Rattle.std.proofs.Common.{◌≡◌, ◌≢◌, ◌≤◌, ◌⊎◌, Bool, List, Option, None, Some, Result, Ok, Err, refl, sym, ap, ◌∙◌, subst, inl, inr, IfSome, nat_le, if◌then◌else◌}
use Rattle.std.proofs.lemmas.Bool.{leb-true}
use Rattle.qc_num.specs.declared.bound.Bound.TheVariants.{Least, Never}
use Rattle.qc_num.proofs.ReadingLemmas.{same_ok}
use Rattle.qc_io.specs.Outside.{Files, View}
use Rattle.qc_model.specs.declared.schedule.Slot.{Slot}
use Rattle.qc_model.specs.declared.turn.Turn.{Turn}
use Rattle.qc_model.specs.OneWay.{IsAllowed, IsAllowedBy}
use Rattle.qc_search.specs.declared.done.Kind.{Kind}
use Rattle.qc_search.specs.declared.done.Kind.TheVariants as kind
use Rattle.qc_search.specs.Run.{branching_limit, search_from}
use Rattle.qc_run.specs.declared.refusal.Stop.{Stop}
use Rattle.qc_run.specs.declared.status.Status.{Status}
use Rattle.qc_run.specs.declared.status.Status.TheVariants as status
use Rattle.qc_run.specs.declared.broken.Broken.{Broken}
use Rattle.qc_run.specs.declared.reading.OwnJob.{OwnJob}
use Rattle.qc_run.specs.Broken.{broken_text}
use Rattle.qc_run.specs.Due.{contents_in, own_job_due}
use Rattle.qc_run.proofs.DueLemmas.{comes_due, own_job_turn}
use Rattle.qc_run.specs.Reports.{Prints, answer_prints, answer_status}
use Rattle.qc_run.specs.Told.{EndsBy, IsCutTold, NoneFailed}
use Rattle.qc_run.proofs.StatusLemmas.{IsOwn, stop_is_not}
use Rattle.qc_run.proofs.ToldLemmas.{memory_told, never_usage, of_status, refused_told, stop_due, unfailed, whole_of}
use Rattle.qc_search.proofs.OutcomeLemmas.{of_some}
use Rattle.qc_search.proofs.RunLemmas.{all_decided, all_spent}
use Rattle.qc_plan_command.specs.declared.answer.PlanAnswer.{PlanAnswer}
use Rattle.qc_plan_command.specs.declared.answer.PlanAnswer.TheVariants as answer
use Rattle.qc_plan_command.specs.Account.{IsLeft, IsOwnBroken, IsPlanRun, IsPlanning, IsStopped, IsWritten}
use Rattle.qc_run.specs.Inputs.{Planning}
use Rattle.qc_plan_command.specs.Promises.{EndsPlanned, IsBudgetTold, IsInfeasibleTold, IsOptimalTold, IsOwnBrokenTold, IsSearchEnd, IsSoundTold, IsStopTold, IsUnplannedTold, PlanPromises}
use Rattle.qc_plan_command.specs.Reports.{found_status, plan_prints, plan_prints_part, plan_status}
use Rattle.qc_plan_command.proofs.FoundLemmas.{found_is_not, in_time, is_best, kind_by, kind_none, none_goes, own_found, own_no_later, own_none, search_end, too_late}
use Rattle.qc_plan_command.proofs.Reach.{out_of_reach}
use Rattle.qc_plan_command.proofs.StoreLemmas.{as_it_was}

own : (a : PlanAnswer) → IsOwn (plan_status a)
own answer.WriteFault = tt
own (answer.Broken told) = tt
own (answer.Planned told) = own_found told.kind
own (answer.Unplanned bound branched) = tt
own (answer.Infeasible branched) = tt

module _ (asked : Planning) (before after pb pa : View) (ended : Status)
    (run : IsPlanRun asked before after pb pa ended) where
  abbrev Tells : (Status → Type 0) → (Files → Type 0) → Type 0
  Tells wanted P = (r : Result PlanAnswer Stop) → IsPlanning asked before after r
      → wanted (answer_status plan_status r)
      → answer_prints Prints plan_prints r pb.written pa.written → IfSome before.files P

  optimal_told : Tells (λ s. s ≡ status.Optimal) (λ held. IsOptimalTold asked held after.files pb pa)
  optimal_told (Ok (answer.Planned told)) serves e report = by before.files serves.0.1
    where
      by : (files : Option Files) → IfSome files
          (λ held. IsWritten asked held after.files (answer.Planned told))
          → IfSome files (λ held. IsOptimalTold asked held after.files pb pa)
      by None h = tt
      by (Some held) h =
          let k = kind_by h.search.inst h.search.done told h.search.found.came.sound.kind h.told in
          let le = in_time (nat_le told.end told.bound) (sym (ap found_status k) ∙ e) in
          let is : told.kind ≡ kind.Optimal =
          k ∙ ap (λ (b : Bool). if b then kind.Optimal else kind.Budget) le in
          record {
            plan = record {
              told = told;
              written = h;
              kind = sym h.told.kind_told ∙ is;
              word = is;
              report = report;
              no_later =
                  own_no_later h.search.inst asked.nodes h.search.own h.search.tree h.search.done told
                  h.search.found h.told;
            };
            enough = leb-true told.end told.bound le;
            best = is_best h.search.inst asked.nodes h.search.own h.search.tree h.search.done told
                h.search.found h.told le;
          }
  optimal_told (Ok answer.WriteFault) serves e report = absurd (cc e)
  optimal_told (Ok (answer.Broken broken)) serves e report = absurd (cc e)
  optimal_told (Ok (answer.Unplanned bound branched)) serves e report = absurd (cc e)
  optimal_told (Ok (answer.Infeasible branched)) serves e report = absurd (cc e)
  optimal_told (Err why) serves e report = absurd (stop_is_not why status.Optimal e tt)

  -- under Budget all branchings that were asked for are spent
  spent_all : (held : Files) (a : PlanAnswer) (w : IsWritten asked held after.files a) → w.search.done.kind ≡ kind.Budget
      → w.search.done.branched ≡ asked.nodes
  spent_all held a w =
      all_spent (search_from w.search.inst asked.nodes w.search.found.first) w.search.done w.search.found.came.sound refl

  budget_told : Tells (λ s. s ≡ status.BudgetPlan) (λ held. IsBudgetTold asked held after.files pb pa)
  budget_told (Ok (answer.Planned told)) serves e report = by before.files serves.0.1
    where
      by : (files : Option Files) → IfSome files
          (λ held. IsWritten asked held after.files (answer.Planned told))
          → IfSome files (λ held. IsBudgetTold asked held after.files pb pa)
      by None h = tt
      by (Some held) h =
          let k = kind_by h.search.inst h.search.done told h.search.found.came.sound.kind h.told in
          let less = too_late (nat_le told.end told.bound) (sym (ap found_status k) ∙ e) in
          let is : told.kind ≡ kind.Budget =
          k ∙ ap (λ (b : Bool). if b then kind.Optimal else kind.Budget) less in
          let budget : h.search.done.kind ≡ kind.Budget = sym h.told.kind_told ∙ is in
          record {
            plan = record {
              told = told;
              written = h;
              kind = budget;
              word = is;
              report = report;
              no_later =
                  own_no_later h.search.inst asked.nodes h.search.own h.search.tree h.search.done told
                  h.search.found h.told;
            };
            spent = h.told.branched ∙ spent_all held (answer.Planned told) h budget;
          }
  budget_told (Ok answer.WriteFault) serves e report = absurd (cc e)
  budget_told (Ok (answer.Broken broken)) serves e report = absurd (cc e)
  budget_told (Ok (answer.Unplanned bound branched)) serves e report = absurd (cc e)
  budget_told (Ok (answer.Infeasible branched)) serves e report = absurd (cc e)
  budget_told (Err why) serves e report = absurd (stop_is_not why status.BudgetPlan e tt)

  unplanned_told : Tells (λ s. s ≡ status.BudgetNone) (λ held. IsUnplannedTold asked held after.files pb pa)
  unplanned_told (Ok (answer.Unplanned bound branched)) serves e report = by before.files serves.0.1
    where
      by : (files : Option Files) → IfSome files
          (λ held. IsWritten asked held after.files (answer.Unplanned bound branched))
          → IfSome files (λ held. IsUnplannedTold asked held after.files pb pa)
      by None h = tt
      by (Some held) h =
          let budget = kind_none h.search.inst h.search.done
          (Least bound) h.search.found.came.sound.kind h.told.0 h.told.1 in
          record {
            bound = bound;
            branched = branched;
            written = h;
            kind = budget;
            no_own = own_none h.search.inst asked.nodes h.search.own h.search.tree h.search.done h.search.found
                h.told.0;
            report = report;
            spent = h.told.2 ∙ spent_all held (answer.Unplanned bound branched) h budget;
          }
  unplanned_told (Ok (answer.Planned told)) serves e report = absurd (not_found told.kind e)
    where
      not_found : (k : Kind) → found_status k ≡ status.BudgetNone → ⊥
      not_found kind.Optimal e = cc e
      not_found kind.Infeasible e = cc e
      not_found kind.Budget e = cc e
  unplanned_told (Ok answer.WriteFault) serves e report = absurd (cc e)
  unplanned_told (Ok (answer.Broken broken)) serves e report = absurd (cc e)
  unplanned_told (Ok (answer.Infeasible branched)) serves e report = absurd (cc e)
  unplanned_told (Err why) serves e report = absurd (stop_is_not why status.BudgetNone e tt)

  infeasible_told : Tells (λ s. s ≡ status.Infeasible) (λ held. IsInfeasibleTold asked held after.files pb pa)
  infeasible_told (Ok (answer.Infeasible branched)) serves e report = by before.files serves.0.1
    where
      by : (files : Option Files) → IfSome files
          (λ held. IsWritten asked held after.files (answer.Infeasible branched))
          → IfSome files (λ held. IsInfeasibleTold asked held after.files pb pa)
      by None h = tt
      by (Some held) h = record {
        branched = branched;
        written = h;
        kind = kind_none h.search.inst h.search.done Never h.search.found.came.sound.kind h.told.0 h.told.1;
        none = none_goes h.search.inst asked.nodes h.search.own h.search.tree h.search.done h.search.found
            h.told.1;
        out_of_reach = λ free. out_of_reach h.search.inst h.search.valid
            (λ sched feasible. none_goes h.search.inst asked.nodes h.search.own h.search.tree h.search.done
            h.search.found h.told.1 sched
            (subst (λ (t : Turn). IsAllowedBy t h.search.inst sched) (sym (h.search.turn ∙ free)) feasible));
        report = report;
      }
  infeasible_told (Ok (answer.Planned told)) serves e report = absurd (not_found told.kind e)
    where
      not_found : (k : Kind) → found_status k ≡ status.Infeasible → ⊥
      not_found kind.Optimal e = cc e
      not_found kind.Infeasible e = cc e
      not_found kind.Budget e = cc e
  infeasible_told (Ok answer.WriteFault) serves e report = absurd (cc e)
  infeasible_told (Ok (answer.Broken broken)) serves e report = absurd (cc e)
  infeasible_told (Ok (answer.Unplanned bound branched)) serves e report = absurd (cc e)
  infeasible_told (Err why) serves e report = absurd (stop_is_not why status.Infeasible e tt)

  own_broken : (told : Broken) (files : Option Files) → before.files ≡ files
      → IsOwnBroken asked before after told
      → Prints (broken_text told) pb.written pa.written
      → IfSome files (λ held. IsOwnBrokenTold asked held pb pa)
  own_broken told None is b report = tt
  own_broken told (Some held) is b report = record {
    job = b.job;
    due = comes_due (own_job_due asked.inputs.own) asked.inputs held before.files is (Ok b.job) b.due;
    sched = b.sched;
    own = b.own;
    told = told;
    tells = b.tells;
    report = report;
  }

  broken_told : Tells (λ s. s ≡ status.Broken) (λ held. IsOwnBrokenTold asked held pb pa)
  broken_told (Ok (answer.Broken told)) serves e report = own_broken told before.files refl serves.0.1 report
  broken_told (Ok answer.WriteFault) serves e report = absurd (cc e)
  broken_told (Ok (answer.Planned told)) serves e report = absurd (found_is_not told.kind status.Broken e)
  broken_told (Ok (answer.Unplanned bound branched)) serves e report = absurd (cc e)
  broken_told (Ok (answer.Infeasible branched)) serves e report = absurd (cc e)
  broken_told (Err why) serves e report = absurd (stop_is_not why status.Broken e tt)

  abbrev account : Result PlanAnswer Stop → Type 0
  account = IsPlanning asked before after

  plan_optimal : ended ≡ status.Optimal
      → IfSome before.files (λ held. IsOptimalTold asked held after.files pb pa)
  plan_optimal e = of_status account plan_prints plan_prints_part plan_status pb pa ended run status.Optimal e
      (λ f. cc f) optimal_told

  plan_budget : ended ≡ status.BudgetPlan
      → IfSome before.files (λ held. IsBudgetTold asked held after.files pb pa)
  plan_budget e = of_status account plan_prints plan_prints_part plan_status pb pa ended run status.BudgetPlan e
      (λ f. cc f) budget_told

  plan_none : ended ≡ status.BudgetNone
      → IfSome before.files (λ held. IsUnplannedTold asked held after.files pb pa)
  plan_none e = of_status account plan_prints plan_prints_part plan_status pb pa ended run status.BudgetNone e
      (λ f. cc f) unplanned_told

  plan_infeasible : ended ≡ status.Infeasible
      → IfSome before.files (λ held. IsInfeasibleTold asked held after.files pb pa)
  plan_infeasible e = of_status account plan_prints plan_prints_part plan_status pb pa ended run
      status.Infeasible e (λ f. cc f) infeasible_told

  plan_broken : ended ≡ status.Broken → IfSome before.files (λ held. IsOwnBrokenTold asked held pb pa)
  plan_broken e = of_status account plan_prints plan_prints_part plan_status pb pa ended run status.Broken e
      (λ f. cc f) broken_told

  sound_told : (r : Result PlanAnswer Stop) → account r
      → (answer_status plan_status r ≡ status.Optimal) ⊎ (answer_status plan_status r ≡ status.BudgetPlan)
      → answer_prints Prints plan_prints r pb.written pa.written → IsSoundTold asked pb pa
  sound_told (Ok (answer.Planned told)) serves e report = record { told = told; sound = serves.0.3; report = report }
  sound_told (Ok answer.WriteFault) serves e report = elim e [ inl e ↦ absurd (cc e) | inr e ↦ absurd (cc e) ]
  sound_told (Ok (answer.Broken broken)) serves e report = elim e [ inl e ↦ absurd (cc e) | inr e ↦ absurd (cc e) ]
  sound_told (Ok (answer.Unplanned bound branched)) serves e report =
      elim e [ inl e ↦ absurd (cc e) | inr e ↦ absurd (cc e) ]
  sound_told (Ok (answer.Infeasible branched)) serves e report =
      elim e [ inl e ↦ absurd (cc e) | inr e ↦ absurd (cc e) ]
  sound_told (Err why) serves e report = elim e [
    | inl e ↦ absurd (stop_is_not why status.Optimal e tt)
    | inr e ↦ absurd (stop_is_not why status.BudgetPlan e tt)
  ]

  plan_sound : (ended ≡ status.Optimal) ⊎ (ended ≡ status.BudgetPlan) → IsSoundTold asked pb pa
  plan_sound (inl e) = of_status account plan_prints plan_prints_part plan_status pb pa ended run status.Optimal e
      (λ f. cc f) (λ r serves is. sound_told r serves (inl is))
  plan_sound (inr e) = of_status account plan_prints plan_prints_part plan_status pb pa ended run status.BudgetPlan e
      (λ f. cc f) (λ r serves is. sound_told r serves (inr is))

  own_end : (s : Status) → IsSearchEnd s → IsOwn s
  own_end status.Optimal end = tt
  own_end status.Infeasible end = tt
  own_end status.BudgetPlan end = tt
  own_end status.BudgetNone end = tt
  own_end other end = absurd end

  unmade : (r : Result PlanAnswer Stop) → account r → IsSearchEnd (answer_status plan_status r) → after.made ≡ None
  unmade (Ok answer.WriteFault) serves end = absurd end
  unmade (Ok (answer.Broken told)) serves end = absurd end
  unmade (Ok (answer.Planned told)) serves end = serves.0.2
  unmade (Ok (answer.Unplanned bound branched)) serves end = serves.0.2
  unmade (Ok (answer.Infeasible branched)) serves end = serves.0.2
  unmade (Err why) serves end = absurd (stop_is_not why _ refl (own_end _ end))

  none_left : IsSearchEnd ended → after.made ≡ None
  none_left end =
      let told = whole_of account plan_prints plan_prints_part plan_status pb pa ended run
      (λ e. subst IsSearchEnd e end) in
      unmade run.answer run.serves (subst IsSearchEnd told.0 end)

  -- a search that ends with Budget had fewer branchings than the limit
  undecided : (held : Files) (a : PlanAnswer) → (w : IsWritten asked held after.files a)
      → w.search.done.kind ≡ kind.Budget
      → (job : OwnJob) → own_job_due asked.inputs.own (contents_in held asked.inputs) ≡ Ok job
      → branching_limit job.inst ≤ asked.nodes → ⊥
  undecided held a w budget job is enough =
      all_decided (search_from w.search.inst asked.nodes w.search.found.first) w.search.done w.search.found.came.sound refl
      (subst (λ (j : OwnJob). branching_limit j.inst ≤ asked.nodes) (same_ok (sym is ∙ w.search.due)) enough)
      budget

  plan_decides : IfSome before.files (λ held. (job : OwnJob)
      → own_job_due asked.inputs.own (contents_in held asked.inputs) ≡ Ok job
      → branching_limit job.inst ≤ asked.nodes → (ended ≢ status.BudgetPlan) × (ended ≢ status.BudgetNone))
  plan_decides = by before.files plan_budget plan_none
    where
      by : (files : Option Files) → (ended ≡ status.BudgetPlan
          → IfSome files (λ held. IsBudgetTold asked held after.files pb pa))
          → (ended ≡ status.BudgetNone → IfSome files (λ held. IsUnplannedTold asked held after.files pb pa))
          → IfSome files (λ held. (job : OwnJob)
          → own_job_due asked.inputs.own (contents_in held asked.inputs) ≡ Ok job
          → branching_limit job.inst ≤ asked.nodes → (ended ≢ status.BudgetPlan) × (ended ≢ status.BudgetNone))
      by None budget none = tt
      by (Some held) budget none = λ job is enough. (
        λ e. let b = (budget e).plan in undecided held (answer.Planned b.told) b.written b.kind job is enough,
        λ e. let b = none e in undecided held
            (answer.Unplanned b.bound b.branched) b.written b.kind job is enough,
      )

  -- ---- what is left in the files

  stays : (r : Result PlanAnswer Stop) → account r → ¬ IsSearchEnd (answer_status plan_status r)
      → answer_status plan_status r ≢ status.WriteFault → after.files ≡ before.files
  stays (Err why) serves one two = serves.2
  stays (Ok answer.WriteFault) serves one two = absurd (two refl)
  stays (Ok (answer.Broken told)) serves one two = serves.0.1.files
  stays (Ok (answer.Planned told)) serves one two = absurd (one (search_end told.kind))
  stays (Ok (answer.Unplanned bound branched)) serves one two = absurd (one tt)
  stays (Ok (answer.Infeasible branched)) serves one two = absurd (one tt)

  plan_leaves : ¬ IsSearchEnd ended → ended ≢ status.WriteFault → after.files ≡ before.files
  plan_leaves one two =
      let told = whole_of account plan_prints plan_prints_part plan_status pb pa ended run two in
      stays run.answer run.serves (λ end. one (subst IsSearchEnd (sym told.0) end)) (λ e. two (told.0 ∙ e))

  all_left : (a : PlanAnswer) (files : Option Files) → IfSome files (λ held. IsWritten asked held after.files a)
      → IfSome files (λ held. IsLeft asked held after.files)
  all_left a None h = tt
  all_left a (Some held) h = inr (inr (h.search, inr h.files))

  stopped_left : (files : Option Files) → IfSome files (λ held. IsStopped asked held after.files)
      → IfSome files (λ held. IsLeft asked held after.files)
  stopped_left None h = tt
  stopped_left (Some held) h = h.left

  left : (r : Result PlanAnswer Stop) → account r → IfSome before.files (λ held. IsLeft asked held after.files)
  left (Err why) serves = as_it_was (λ held. IsLeft asked held after.files) before.files after.files serves.2
      (λ held e. inl e)
  left (Ok answer.WriteFault) serves = stopped_left before.files serves.0.1
  left (Ok (answer.Broken told)) serves =
      as_it_was (λ held. IsLeft asked held after.files) before.files after.files serves.0.1.files
      (λ held e. inl e)
  left (Ok (answer.Planned told)) serves = all_left (answer.Planned told) before.files serves.0.1
  left (Ok (answer.Unplanned bound branched)) serves =
      all_left (answer.Unplanned bound branched) before.files serves.0.1
  left (Ok (answer.Infeasible branched)) serves = all_left (answer.Infeasible branched) before.files serves.0.1

  -- ---- what the sink got where the run ended with WriteFault

  stop_told : (r : Result PlanAnswer Stop) → account r → answer_status plan_status r ≡ status.WriteFault
      → pa.faults ≡ pb.faults
      → answer_prints Prints plan_prints r pb.written pa.written → IsStopTold asked before after pb pa
  stop_told (Ok answer.WriteFault) serves e faults report =
      record { rose = serves.0.0; serves = serves; faults = faults; report = report }
  stop_told (Ok (answer.Broken told)) serves e faults report = absurd (cc e)
  stop_told (Ok (answer.Planned told)) serves e faults report =
      absurd (found_is_not told.kind status.WriteFault e)
  stop_told (Ok (answer.Unplanned bound branched)) serves e faults report = absurd (cc e)
  stop_told (Ok (answer.Infeasible branched)) serves e faults report = absurd (cc e)
  stop_told (Err why) serves e faults report = absurd (stop_is_not why status.WriteFault e tt)

  write_fault : ended ≡ status.WriteFault
      → IsCutTold account plan_prints_part pb pa ⊎ IsStopTold asked before after pb pa
  write_fault e = elim run.reports.ending [
    | inl told ↦ inr (stop_told run.answer run.serves (sym told.status ∙ e) told.faults told.printed)
    | inr cut ↦ inl (record { rose = cut.rose; answer = run.answer; serves = run.serves; report = cut.printed })
  ]

  -- ---- what is due of the files comes where no call failed

  module _ (none : NoneFailed before after pb pa) where
    abbrev Ends : Files → Status → Type 0
    Ends held s = EndsBy EndsPlanned (own_job_due asked.inputs.own (contents_in held asked.inputs)) s
        ⊎ (s ≡ status.OutOfMemory)

    -- a schedule of the planner's own that cranes may follow leaves a search its end
    allowed_ends : (job : OwnJob) (s : Status) → IfSome job.own (IsAllowed job.inst) → IsSearchEnd s
        → EndsPlanned job s
    allowed_ends job s allowed end = record { not_allowed = never job.own allowed; allowed = λ _. end }
      where
        never : (own : Option (List Slot)) → IfSome own (IsAllowed job.inst)
            → IfSome own (λ sched. ¬ IsAllowed job.inst sched → s ≡ status.Broken)
        never None allowed = tt
        never (Some sched) allowed = λ none. absurd (none allowed)

    -- one that they may not follow ends it with Broken
    not_ends : (job : OwnJob) (sched : List Slot) → job.own ≡ Some sched → ¬ IsAllowed job.inst sched
        → EndsPlanned job status.Broken
    not_ends job sched is not =
        record {
          not_allowed = all job.own;
          allowed = λ allowed. absurd (not (of_some (IsAllowed job.inst) job.own sched is allowed));
        }
      where
        all : (own : Option (List Slot))
            → IfSome own (λ sched. ¬ IsAllowed job.inst sched → status.Broken ≡ status.Broken)
        all None = tt
        all (Some sched) = λ _. refl

    broken_ends : (held : Files) → before.files ≡ Some held → (told : Broken)
        → IsOwnBroken asked before after told
        → Ends held status.Broken
    broken_ends held is told b =
        let due = comes_due (own_job_due asked.inputs.own) asked.inputs held before.files is (Ok b.job) b.due in
        let turn = own_job_turn asked.inputs.own (contents_in held asked.inputs) b.job due in
        inl (rw due (not_ends b.job b.sched b.own
        (λ allowed. b.tells.is.not_allowed
        (subst (λ (t : Turn). IsAllowedBy t b.job.inst b.sched) turn allowed))))

    searched_ends : (held : Files) (a : PlanAnswer) (files : Option Files) → files ≡ Some held
        → IfSome files (λ held. IsWritten asked held after.files a)
        → (s : Status) → IsSearchEnd s → Ends held s
    searched_ends held a None told h s end = absurd (cc told)
    searched_ends held a (Some other) told h s end =
        let same : other ≡ held = cc in
        inl (subst (λ files. EndsBy EndsPlanned
        (own_job_due asked.inputs.own (contents_in files asked.inputs)) s) same
        (rw (h.search.due) (allowed_ends
        (record { inst = h.search.inst; own = h.search.own }) s h.search.allowed end)))

    answer_ends : (held : Files) → before.files ≡ Some held → (r : Result PlanAnswer Stop) → account r
        → Ends held (answer_status plan_status r)
    answer_ends held told (Err why) serves =
        stop_due (own_job_due asked.inputs.own) EndsPlanned asked.inputs before after held told none.reading why
        serves.0
    answer_ends held told (Ok answer.WriteFault) serves = absurd (none.writing serves.0.0)
    answer_ends held told (Ok (answer.Broken broken)) serves = broken_ends held told broken serves.0.1
    answer_ends held told (Ok (answer.Planned found)) serves =
        searched_ends held (answer.Planned found) before.files told serves.0.1 _ (search_end found.kind)
    answer_ends held told (Ok (answer.Unplanned bound branched)) serves =
        searched_ends held (answer.Unplanned bound branched) before.files told serves.0.1 _ tt
    answer_ends held told (Ok (answer.Infeasible branched)) serves =
        searched_ends held (answer.Infeasible branched) before.files told serves.0.1 _ tt

    complete : (files : Option Files) → before.files ≡ files → IfSome files (λ held. Ends held ended)
    complete None told = tt
    complete (Some held) told =
        unfailed account plan_prints plan_prints_part plan_status pb pa ended run none.printing (Ends held)
        (answer_ends held told run.answer run.serves)

  pub plan_promises : PlanPromises asked before after pb pa ended
  plan_promises = record {
    plan_optimal = plan_optimal;
    plan_infeasible = plan_infeasible;
    plan_budget = plan_budget;
    plan_none = plan_none;
    plan_sound = plan_sound;
    none_left = none_left;
    plan_broken = plan_broken;
    plan_decides = plan_decides;
    plan_leaves = plan_leaves;
    plan_stopped = left run.answer run.serves;
    write_fault = write_fault;
    refused = refused_told account plan_prints plan_prints_part plan_status pb pa ended run own;
    no_usage = never_usage account plan_prints plan_prints_part plan_status pb pa ended run own (λ h. h.0);
    out_of_memory = memory_told account plan_prints plan_prints_part plan_status pb pa ended run own;
    complete = λ none. complete none before.files refl;
  }
