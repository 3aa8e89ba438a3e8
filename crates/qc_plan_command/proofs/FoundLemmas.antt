-- What is told of a search follows from what it came to.
use Rattle.std.proofs.Common.{◌≡◌, ◌≤◌, ◌⊎◌, inl, inr, ℕ, Bool, true, false, arith, List, Option, None, Some, refl, sym, ap, ◌∙◌, subst, subst₂, IfSome, IsSomeAnd, nat_le, if◌then◌else◌}
use Rattle.std.proofs.lemmas.Bool.{leb-true}
use Rattle.std.proofs.lemmas.Bool.Decides.{leb_tells}
use Rattle.qc_num.specs.declared.bound.Bound.{Bound}
use Rattle.qc_num.specs.declared.bound.Bound.TheVariants.{Least, Never}
use Rattle.qc_model.specs.declared.schedule.Slot.{Slot}
use Rattle.qc_model.specs.declared.turn.Turn.{Turn}
use Rattle.qc_model.specs.Instance.{InstanceView, Valid}
use Rattle.qc_model.specs.Judge.{IsJudgeable}
use Rattle.qc_model.specs.OneWay.{IsAllowed}
use Rattle.qc_search.specs.declared.done.Kind.{Kind}
use Rattle.qc_search.specs.declared.done.Kind.TheVariants as kind
use Rattle.qc_search.specs.Run.{DoneView, IsTightEnd, best_end, outcome}
use Rattle.qc_starts.specs.Tight.{IsTight, IsTightForm}
use Rattle.qc_search.specs.Outcome.{IsFound, IsReread, WasOffered}
use Rattle.qc_search.proofs.OutcomeLemmas.{of_some, short_ends, tight_allowed}
use Rattle.qc_tree.specs.Trees.{NoneEarlier, Tree}
use Rattle.qc_num.specs.Bounds.{IsAtMost}
use Rattle.qc_num.proofs.BoundLemmas.{at_most_same, at_most_through}
use Rattle.qc_model.specs.Rules.{ends}
use Rattle.qc_model.specs.Numbers.{most_start}
use Rattle.qc_gantt.specs.Plan.{HasShortEnds}
use Rattle.qc_plan_command.specs.declared.answer.Planned.{Planned}
use Rattle.qc_run.specs.declared.status.Status.{Status}
use Rattle.qc_run.specs.declared.status.Status.TheVariants as status
use Rattle.qc_run.specs.Told.{IsBest}
use Rattle.qc_run.proofs.StatusLemmas.{IsOwn}
use Rattle.qc_plan_command.specs.declared.answer.PlanAnswer.{PlanAnswer}
use Rattle.qc_plan_command.specs.declared.answer.PlanAnswer.TheVariants as answer
use Rattle.qc_plan_command.specs.Found.{IsByTightEnd, IsSoundAnswer, IsSoundPlan, MovesSafely, Tells, TellsPlan}
use Rattle.qc_plan_command.specs.Promises.{IsSearchEnd}
use Rattle.qc_plan_command.specs.Reports.{found_status}

-- where no schedule ends before Never, none is known
pub none_best : (inst : InstanceView) (bound : Bound) (best : Option (List Slot)) → bound ≡ Never
    → NoneEarlier inst bound → IfSome best (IsTight inst) → best ≡ None
none_best inst bound None never none tight = refl
none_best inst bound (Some sched) never none tight =
    absurd (subst (λ (b : Bound). IsAtMost b (Least (ends inst sched))) never
    (none sched (tight_allowed inst sched tight)))

-- ---- the status of a plan that was found

pub own_found : (k : Kind) → IsOwn (found_status k)
own_found kind.Optimal = tt
own_found kind.Infeasible = tt
own_found kind.Budget = tt

pub search_end : (k : Kind) → IsSearchEnd (found_status k)
search_end kind.Optimal = tt
search_end kind.Infeasible = tt
search_end kind.Budget = tt

-- no plan that was found ends with a status that no search has
pub found_is_not : (k : Kind) (s : Status) → found_status k ≡ s → IsSearchEnd s
found_is_not k s e = subst IsSearchEnd e (search_end k)

pub in_time : (b : Bool) → found_status (if b then kind.Optimal else kind.Budget) ≡ status.Optimal → b ≡ true
in_time true e = refl
in_time false e = absurd (cc e)

pub too_late : (b : Bool) → found_status (if b then kind.Optimal else kind.Budget) ≡ status.BudgetPlan
    → b ≡ false
too_late false e = refl
too_late true e = absurd (cc e)

-- how a search came out that met a schedule, by its end and the bound
pub kind_by :
    (inst : InstanceView) (done : DoneView) (told : Planned)
    → done.kind ≡ outcome done.bound (best_end inst done.best) → TellsPlan inst done told
    → told.kind ≡ (if nat_le told.end told.bound then kind.Optimal else kind.Budget)
kind_by inst done told is tells =
    tells.kind_told ∙ is ∙ ap (λ (v : Bound). outcome v (best_end inst done.best)) tells.bound
    ∙ ap (λ (o : Option (List Slot)). outcome (Least told.bound) (best_end inst o)) tells.best
    ∙ ap (λ (e : ℕ). if nat_le e told.bound then kind.Optimal else kind.Budget) (sym tells.end)

-- the kind of a search that met none
pub kind_none :
    (inst : InstanceView) (done : DoneView) (bound : Bound)
    → done.kind ≡ outcome done.bound (best_end inst done.best) → done.best ≡ None → done.bound ≡ bound
    → done.kind ≡ outcome bound Never
kind_none inst done bound is best same =
    is ∙ ap (λ (v : Bound). outcome v (best_end inst done.best)) same
    ∙ ap (λ (o : Option (List Slot)). outcome bound (best_end inst o)) best

pub is_best :
    (inst : InstanceView) (nodes : ℕ) (own : Option (List Slot)) (tree : Tree) (done : DoneView)
    (told : Planned)
    → IsFound inst nodes own tree done → (tells : TellsPlan inst done told)
    → nat_le told.end told.bound ≡ true → IsBest inst tells.sched
is_best inst nodes own tree done told found tells le = record {
  goes = tight_allowed inst tells.sched
      (of_some (IsTight inst) done.best tells.sched tells.best found.came.sound.tight);
  least = λ other goes.
      let late : told.bound ≤ ends inst other =
      subst (λ b. IsAtMost b (Least (ends inst other))) tells.bound
      (found.came.sound.none_earlier other goes) in
      let soon : told.end ≤ told.bound = leb-true told.end told.bound le in
      let same = tells.end in
      omega (arith, late, soon, same);
}

-- where no schedule ends before Never there is none
pub none_goes : (inst : InstanceView) (nodes : ℕ) (own : Option (List Slot)) (tree : Tree) (done : DoneView)
    → IsFound inst nodes own tree done → done.bound ≡ Never → (sched : List Slot) → ¬ IsAllowed inst sched
none_goes inst nodes own tree done found never sched goes =
    subst (λ b. IsAtMost b (Least (ends inst sched))) never (found.came.sound.none_earlier sched goes)

-- ---- the planner's own schedule

-- a bound is at most an end that the tight form of the planner's own schedule reaches
pub record IsAtMostTight (inst : InstanceView) (bound : Bound) (sched : List Slot) : Type 0 where
  pub tight_end : ℕ
  pub tight : IsTightEnd inst sched tight_end
  pub by : IsAtMost bound (Least tight_end)

-- an end is as late as a bound, or it isn't
late_or_not : (b : Bound) (end : ℕ) → IsAtMost b (Least end) ⊎ (¬ IsAtMost b (Least end))
late_or_not Never end = inr (λ late. late)
late_or_not (Least n) end = elim (leb_tells n end) [
  | inl late ↦ inl late.1
  | inr sooner ↦ inr (λ late. omega (arith, late, sooner.1))
]

-- an earlier end takes the place of a later one
taken_sooner : (inst : InstanceView) (sched : List Slot) (before : Bound) (after : Option (List Slot))
    → ¬ IsAtMost before (Least (ends inst sched))
    → IsSomeAnd after (λ first. IsTightForm inst sched first × (ends inst first ≤ ends inst sched))
    → IsAtMost (best_end inst after) before
taken_sooner inst sched before None later taken = absurd taken
taken_sooner inst sched Never (Some first) later taken = tt
taken_sooner inst sched (Least n) (Some first) later taken = omega (arith, later, taken.1)

-- what a search begins with ends no later once it was offered something
offered_sooner : (inst : InstanceView) (found before after : Option (List Slot)) → WasOffered inst found before after
    → IsAtMost (best_end inst after) (best_end inst before)
offered_sooner inst None before after same =
    subst (λ (o : Option (List Slot)). IsAtMost (best_end inst o) (best_end inst before)) (sym same)
    (at_most_same (best_end inst before))
offered_sooner inst (Some sched) before after is = elim (late_or_not (best_end inst before) (ends inst sched)) [
  | inl late ↦
      subst (λ (o : Option (List Slot)). IsAtMost (best_end inst o) (best_end inst before)) (sym (is.kept late))
      (at_most_same (best_end inst before))
  | inr sooner ↦ taken_sooner inst sched (best_end inst before) after sooner (is.taken sooner)
]

-- a search that was offered it knows one that ends no later than its tight form
own_taken : (inst : InstanceView) (sched : List Slot) (best : Bound) (first : Option (List Slot))
    → IsSomeAnd first (λ form. IsTightForm inst sched form × (ends inst form ≤ ends inst sched))
    → IsAtMost best (best_end inst first) → IsAtMostTight inst best sched
own_taken inst sched best None form by = absurd form
own_taken inst sched best (Some first) form by = record {
  tight_end = ends inst first;
  tight = record { first = first; form = form.0; is = refl; no_later = form.1 };
  by = by;
}

-- where the planner has a schedule, the best one ends no later than its tight form
pub own_end : (inst : InstanceView) (nodes : ℕ) (own : Option (List Slot)) (tree : Tree) (done : DoneView)
    → IsFound inst nodes own tree done → IfSome own (IsAtMostTight inst (best_end inst done.best))
own_end inst nodes own tree done found = by own found.begins.own_offered
  where
    by : (own : Option (List Slot)) → WasOffered inst own None found.begins.own_first
        → IfSome own (IsAtMostTight inst (best_end inst done.best))
    by None offered = tt
    by (Some sched) offered =
        own_taken inst sched (best_end inst done.best) found.begins.own_first (offered.taken (λ late. late))
        (at_most_through (best_end inst done.best) (best_end inst found.first) (best_end inst found.begins.own_first)
        found.came.sound.no_later
        (offered_sooner inst found.begins.found found.begins.own_first found.first found.begins.offered))

-- so is the end that is told
pub own_no_later : (inst : InstanceView) (nodes : ℕ) (own : Option (List Slot)) (tree : Tree) (done : DoneView)
    (told : Planned)
    → IsFound inst nodes own tree done → TellsPlan inst done told → IfSome own (IsByTightEnd inst told.end)
own_no_later inst nodes own tree done told found tells = by own (own_end inst nodes own tree done found)
  where
    by : (own : Option (List Slot)) → IfSome own (IsAtMostTight inst (best_end inst done.best))
        → IfSome own (IsByTightEnd inst told.end)
    by None late = tt
    by (Some sched) late =
        let best = subst (λ (o : Option (List Slot)). IsAtMost (best_end inst o) (Least late.tight_end))
        tells.best late.by in
        record { tight_end = late.tight_end; tight = late.tight; by = omega (arith, best, tells.end) }

-- and where no schedule is known there was none
pub own_none : (inst : InstanceView) (nodes : ℕ) (own : Option (List Slot)) (tree : Tree) (done : DoneView)
    → IsFound inst nodes own tree done → done.best ≡ None → own ≡ None
own_none inst nodes own tree done found none = by own (own_end inst nodes own tree done found)
  where
    by : (own : Option (List Slot)) → IfSome own (IsAtMostTight inst (best_end inst done.best)) → own ≡ None
    by None late = refl
    by (Some sched) late =
        absurd (subst (λ (o : Option (List Slot)). IsAtMost (best_end inst o) (Least late.tight_end)) none
        late.by)

-- ---- what holds of an answer by itself

sound_plan : (inst : InstanceView) (done : DoneView) (told : Planned) (asked : Turn) → Valid inst → inst.turn ≡ asked
    → NoneEarlier inst done.bound → IfSome done.best (IsTight inst) → TellsPlan inst done told → IsSoundPlan asked told
sound_plan inst done told asked valid is none tight tells =
    let goes : IsAllowed inst tells.sched =
    tight_allowed inst tells.sched (of_some (IsTight inst) done.best tells.sched tells.best tight) in
    let late : NoneEarlier inst (Least told.bound) = subst (NoneEarlier inst) tells.bound none in
    let by : told.bound ≤ ends inst tells.sched = late tells.sched goes in
    let same_inst = sym tells.inst_told in
    let same_sched = sym tells.sched_told in
    let end : told.end ≡ ends told.inst told.sched =
    subst₂ (λ (i : InstanceView) (s : List Slot). told.end ≡ ends i s) same_inst same_sched tells.end in
    record {
      valid = subst Valid same_inst valid;
      turn_told = ap (λ (i : InstanceView). i.turn) tells.inst_told ∙ is;
      allowed = subst₂ (λ (i : InstanceView) (s : List Slot). IsAllowed i s) same_inst same_sched goes;
      end = end;
      safe = subst₂ (λ (i : InstanceView) (s : List Slot). MovesSafely asked i s told.motion) same_inst same_sched
          (subst (λ (t : Turn). MovesSafely t inst tells.sched told.motion) is tells.safe);
      none_earlier = subst (λ (i : InstanceView). NoneEarlier i (Least told.bound)) same_inst late;
      by = omega (arith, by, tells.end);
    }

pub sound_answer : (inst : InstanceView) (done : DoneView) (asked : Turn) → Valid inst → inst.turn ≡ asked
    → NoneEarlier inst done.bound → IfSome done.best (IsTight inst) → (a : PlanAnswer) → Tells inst done a
    → IsSoundAnswer asked a
sound_answer inst done asked valid is none tight answer.WriteFault tells = tt
sound_answer inst done asked valid is none tight (answer.Broken broken) tells = tt
sound_answer inst done asked valid is none tight (answer.Planned told) tells = sound_plan inst done told asked valid is none tight tells
sound_answer inst done asked valid is none tight (answer.Unplanned bound branched) tells = tt
sound_answer inst done asked valid is none tight (answer.Infeasible branched) tells = tt

-- ---- what is written is read again

-- a best schedule ends soon, so its plan is read again
pub rereads : (inst : InstanceView) (best : Option (List Slot)) → IfSome best (IsJudgeable inst)
    → IfSome best (λ sched. ends inst sched ≤ most_start)
    → IfSome best (λ sched. HasShortEnds inst sched → IsReread inst sched)
    → IfSome best (IsReread inst)
rereads inst None judged soon reread = tt
rereads inst (Some sched) judged soon reread = reread (short_ends inst sched judged soon)
