-- A plan that was worked with other lengths is feasible with them.
use Rattle.std.proofs.Common.{◌≡◌, ℕ, zero, suc, ◌+◌, ◌<◌, ◌≤◌, inl, inr, List, [], ◌∷◌, length, map, get_or, slice_index, Option, Some, IfSome, refl, sym, ap, subst, ◌∙◌, arith}
use Rattle.std.specs.Prelude.{IsSomeAnd}
use Rattle.std.specs.List.{range_with_len}
use Rattle.std.proofs.Math.ListN.{get_or-eq_default}
use Rattle.std.proofs.lemmas.Bool.{cases_lt}
use Rattle.std.proofs.lemmas.List.FromFn.{get_or-map-range_with_len, length-map-range_with_len}
use Rattle.qc_dispatch.specs.declared.stage.Stage.{Stage}
use Rattle.qc_dispatch.specs.declared.stage.Stage.TheVariants.{Waiting, Ended}
use Rattle.qc_dispatch.specs.Course.{Course, IsOver, end_at, end_in as stage_end, stage_of, start_at, start_in}
use Rattle.qc_dispatch.specs.Kept.{IsCourse}
use Rattle.qc_dispatch.specs.Order.{Leads, free_of, gap}
use Rattle.qc_dispatch.specs.Promises.{IsSpan}
use Rattle.qc_dispatch.specs.Worked.{IsWorked, with_tasks}
use Rattle.qc_dispatch.proofs.CourseLemmas.{keeps_of}
use Rattle.qc_dispatch.proofs.WorkedLemmas.{worked}
use Rattle.qc_model.specs.declared.schedule.Slot.{Slot}
use Rattle.qc_model.specs.declared.task.Task.{Task}
use Rattle.qc_model.specs.Instance.{InstanceView, Valid, no_task}
use Rattle.qc_model.specs.Nodes.{greatest}
use Rattle.qc_model.specs.Rules.{Feasible, end_of, no_slot, start_of}
use Rattle.qc_model.proofs.Extremes.{le_greatest}
use Rattle.qc_odds.specs.Course.{AreStarts, MayStartBy, end_in, with_lengths, with_starts, with_ticks}

-- ---- tasks and slots with other numbers

ticks_count : (tasks : List Task) (lengths : List ℕ) → length (with_ticks tasks lengths) ≡ length tasks
ticks_count [] lengths = refl
ticks_count (t ∷ tasks) [] = refl
ticks_count (t ∷ tasks) (l ∷ lengths) = ap suc (ticks_count tasks lengths)

ticks_at : (tasks : List Task) (lengths : List ℕ) (j : ℕ) → length lengths ≡ length tasks → j < length tasks
    → get_or (with_ticks tasks lengths) j no_task ≡ record (get_or tasks j no_task) { ticks = get_or lengths j 0 }
ticks_at [] lengths j same low = absurd (omega arith)
ticks_at (t ∷ tasks) [] j same low = absurd (omega (arith, same))
ticks_at (t ∷ tasks) (l ∷ lengths) zero same low = refl
ticks_at (t ∷ tasks) (l ∷ lengths) (suc j) same low = ticks_at tasks lengths j (omega (arith, same)) (omega (arith, low))

starts_count : (slots : List Slot) (starts : List ℕ) → length (with_starts slots starts) ≡ length slots
starts_count [] starts = refl
starts_count (s ∷ slots) [] = refl
starts_count (s ∷ slots) (x ∷ starts) = ap suc (starts_count slots starts)

starts_at : (slots : List Slot) (starts : List ℕ) (j : ℕ) → length starts ≡ length slots → j < length slots
    → get_or (with_starts slots starts) j no_slot ≡ record (get_or slots j no_slot) { start = get_or starts j 0 }
starts_at [] starts j same low = absurd (omega arith)
starts_at (s ∷ slots) [] j same low = absurd (omega (arith, same))
starts_at (s ∷ slots) (x ∷ starts) zero same low = refl
starts_at (s ∷ slots) (x ∷ starts) (suc j) same low = starts_at slots starts j (omega (arith, same)) (omega (arith, low))

-- ---- the course of the work

module _ (inst : InstanceView) (plan : List Slot) (lengths starts : List ℕ) (valid : Valid inst) (feasible : Feasible inst plan)
    (all : length lengths ≡ length inst.tasks) (are : AreStarts inst plan lengths starts) where
  abbrev n : ℕ
  n = length inst.tasks

  abbrev stage : ℕ → Stage
  stage j = Ended (slice_index starts j) (end_in lengths starts j)

  -- the moment by which all have ended
  abbrev all_over : ℕ
  all_over = greatest (map (end_in lengths starts) (range_with_len 0 n))

  abbrev course : Course
  course = record { inst = inst; plan = plan; clock = all_over; stages = map stage (range_with_len 0 n) }

  stage_is : (j : ℕ) → j < n → stage_of course j ≡ stage j
  stage_is j low = get_or-map-range_with_len stage 0 n j j Waiting low (omega arith)

  stage_past : (j : ℕ) → n ≤ j → stage_of course j ≡ Waiting
  stage_past j high = get_or-eq_default (map stage (range_with_len 0 n)) Waiting (let e = length-map-range_with_len stage 0 n in omega arith)

  start_is : (j : ℕ) → j < n → start_at course j ≡ Some (slice_index starts j)
  start_is j low = ap start_in (stage_is j low)

  end_is : (j : ℕ) → j < n → end_at course j ≡ Some (end_in lengths starts j)
  end_is j low = ap stage_end (stage_is j low)

  may_by : (j : ℕ) (low : j < n) → MayStartBy inst plan (end_in lengths starts) j (slice_index starts j)
  may_by j low = (are.each_one j low (slice_index starts j)).0 (omega arith)

  kept_span : (j : ℕ) → IsSpan all_over (stage_of course j)
  kept_span j = elim (cases_lt j n) [
    | inl low ↦ subst (IsSpan all_over) (sym (stage_is j low)) (omega arith, le_greatest (end_in lengths starts) j 0 n (omega arith) (omega (arith, low)))
    | inr high ↦ subst (IsSpan all_over) (sym (stage_past j high)) tt
  ]

  kept_free : (j : ℕ) → IfSome (start_at course j) (λ start. free_of inst plan j ≤ start)
  kept_free j = elim (cases_lt j n) [
    | inl low ↦ subst (λ (o : Option ℕ). IfSome o (λ start. free_of inst plan j ≤ start)) (sym (start_is j low)) (may_by j low).free
    | inr high ↦ subst (λ (s : Stage). IfSome (start_in s) (λ start. free_of inst plan j ≤ start)) (sym (stage_past j high)) tt
  ]

  kept_order : (i j : ℕ) → Leads inst plan i j → IfSome (start_at course j) (IsOver course i (gap inst plan i j))
  kept_order i j leads =
      subst (λ (o : Option ℕ). IfSome o (IsOver course i (gap inst plan i j))) (sym (start_is j leads.led))
      (subst (λ (o : Option ℕ). IsSomeAnd o (λ end. end + gap inst plan i j ≤ slice_index starts j)) (sym (end_is i leads.leader)) ((may_by j leads.led).clear i leads))

  kept : IsCourse course
  kept = keeps_of course valid feasible (length-map-range_with_len stage 0 n) kept_span kept_free kept_order

  abbrev tasks : List Task
  tasks = with_ticks inst.tasks lengths

  abbrev slots : List Slot
  slots = with_starts plan starts

  slot_is : (j : ℕ) → j < n → get_or slots j no_slot ≡ record (get_or plan j no_slot) { start = get_or starts j 0 }
  slot_is j low = starts_at plan starts j (are.count ∙ sym feasible.all_tasks) (omega (arith, low, feasible.all_tasks))

  is_worked : IsWorked course tasks slots
  is_worked = record {
    tasks_count = ticks_count inst.tasks lengths;
    slots_count = starts_count plan starts ∙ feasible.all_tasks;
    same = λ j low.
        let is = ticks_at inst.tasks lengths j all low in
        is ∙ ap (λ (t : Task). record (get_or inst.tasks j no_task) { ticks = t.ticks }) (sym is);
    cranes = λ j low. ap (λ (s : Slot). s.crane) (slot_is j low);
    starts = λ j low.
        let start : slice_index starts j ≡ start_of slots j = ap (λ (s : Slot). s.start) (sym (slot_is j low)) in
        subst (λ (o : Option ℕ). IsSomeAnd o (λ s. s ≤ start_of slots j)) (sym (start_is j low)) (omega (arith, start));
    ends = λ j low.
        let end : end_in lengths starts j ≡ end_of (with_tasks inst tasks) slots j =
        ap (λ (s : Slot). s.start + slice_index lengths j) (sym (slot_is j low))
        ∙ ap (λ (t : Task). start_of slots j + t.ticks) (sym (ticks_at inst.tasks lengths j all low)) in
        subst (λ (o : Option ℕ). IsSomeAnd o (λ e. end_of (with_tasks inst tasks) slots j ≤ e)) (sym (end_is j low)) (omega (arith, end));
  }

  pub work_feasible : Feasible (with_lengths inst lengths) slots
  work_feasible = worked course tasks slots valid feasible kept.keeps is_worked
