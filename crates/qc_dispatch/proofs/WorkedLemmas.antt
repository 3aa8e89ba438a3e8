-- Once all tasks have ended, the work was a feasible schedule.
use Rattle.std.proofs.Common.{◌≡◌, ◌≢◌, ℕ, ◌+◌, ◌-◌, ◌*◌, ◌<◌, ◌≤◌, ℤ, inl, inr, List, length, slice_index_or, Option, None, Some, IfSome, IsSome, true, false, refl, sym, ap, subst, ◌∙◌, arith}
use Rattle.std.specs.Prelude.{IsSomeAnd, ◌==◌}
use Rattle.std.proofs.lemmas.Bool.{cases_Bool, cond-false, false≢true}
use Rattle.std.proofs.lemmas.Bool.Decides.{nat_tests}
use Rattle.std.proofs.lemmas.List.FromFn.{get_or-map-range_with_len, length-map-range_with_len}
use Rattle.std.specs.Option.{unwrap_or}
use Rattle.qc_dispatch.specs.declared.stage.Stage.{Stage}
use Rattle.qc_dispatch.specs.declared.stage.Stage.TheVariants.{Waiting, Running, Ended}
use Rattle.qc_dispatch.specs.Course.{Course, IsOver, end_at, end_in, is_running, is_waiting, left, running, stage_of, start_at, start_in}
use Rattle.qc_dispatch.specs.Order.{AreTied, free_of, gap}
use Rattle.qc_dispatch.specs.Promises.{IsSpan, Keeps}
use Rattle.qc_dispatch.specs.Worked.{IsWorked, begun_at, slots_taken, tasks_taken, ticks_taken, with_tasks}
use Rattle.qc_dispatch.proofs.CourseLemmas.{and_of}
use Rattle.qc_dispatch.proofs.Counts.{none_in}
use Rattle.qc_model.specs.declared.schedule.Slot.{Slot}
use Rattle.qc_model.specs.declared.task.Task.{Task}
use Rattle.qc_model.specs.Bays.{bays_between}
use Rattle.qc_model.specs.Instance.{InstanceView, Valid, IsApart, IsBefore, bay_of, no_task, release_of, task, ticks_of}
use Rattle.qc_model.specs.Nodes.{berth_wait}
use Rattle.qc_model.specs.Rules.{Feasible, IsClear, KeepsBerth, crane_of, end_of, no_slot, slot_distance, start_of}
use Rattle.qc_model.specs.Ticks.{arrival, berth_clear, berth_distance, distance, travel_between}
use Rattle.qc_model.proofs.Bays.{bays}
use Rattle.qc_model.proofs.Extremes.{le_greatest}
use Rattle.qc_model.proofs.GoesLemmas.{distance_swapped}

is_some : (o : Option ℕ) (P : ℕ → Type 0) → IsSomeAnd o P → IsSome o
is_some None P h = absurd h
is_some (Some x) P h = refl

-- what a granted start keeps a later one keeps too
no_sooner : (granted : Option ℕ) (start low : ℕ) → IsSomeAnd granted (λ s. s ≤ start) → IfSome granted (λ s. low ≤ s) → low ≤ start
no_sooner None start low later free = absurd later
no_sooner (Some s) start low later free = omega (arith, later, free)

-- and so with a reported end and an earlier one
over_by : (granted reported : Option ℕ) (start end ticks : ℕ) → IsSomeAnd granted (λ s. s ≤ start) → IsSomeAnd reported (λ e. end ≤ e)
    → IsSomeAnd granted (λ s. IsSomeAnd reported (λ e. e + ticks ≤ s)) → end + ticks ≤ start
over_by None reported start end ticks later sooner over = absurd later
over_by (Some s) None start end ticks later sooner over = absurd sooner
over_by (Some s) (Some e) start end ticks later sooner over = omega (arith, later, sooner, over)

equal : (x y : ℕ) → x ≡ y → (x == y) ≡ true
equal x y e = grind (arith, nat_tests, e)

unequal : (x y : ℕ) → x ≢ y → (x == y) ≡ false
unequal x y differ = elim (cases_Bool (x == y)) [
  | inl e ↦ let same : x ≡ y = grind (arith, nat_tests, e) in absurd (differ same)
  | inr e ↦ e
]

either_way : (x y : ℤ) → bays_between x y ≡ bays_between y x
either_way x y = omega (arith, bays)

module _ (c : Course) (tasks : List Task) (sched : List Slot) (valid : Valid c.inst) (plan : Feasible c.inst c.plan)
    (keeps : Keeps c) (w : IsWorked c tasks sched) where
  abbrev real : InstanceView
  real = with_tasks c.inst tasks

  bay_same : (j : ℕ) → j < length c.inst.tasks → bay_of real j ≡ bay_of c.inst j
  bay_same j low = ap (λ (t : Task). t.bay) (w.same j low)

  -- one ended by the gap before the other started
  after : (i j : ℕ) → i < length c.inst.tasks → j < length c.inst.tasks → (ticks : ℕ) → IsSomeAnd (start_at c j) (IsOver c i ticks)
      → end_of real sched i + ticks ≤ start_of sched j
  after i j first second ticks ahead =
      over_by (start_at c j) (end_at c i) (start_of sched j) (end_of real sched i) ticks (w.starts j second) (w.ends i first) ahead

  started : (j : ℕ) → j < length c.inst.tasks → IsSome (start_at c j)
  started j low = is_some (start_at c j) (λ s. s ≤ start_of sched j) (w.starts j low)

  clear : (i j ticks : ℕ) → i < length c.inst.tasks → j < length c.inst.tasks → i ≢ j → AreTied c.inst c.plan i j
      → ticks ≤ gap c.inst c.plan i j → ticks ≤ gap c.inst c.plan j i → IsClear real sched ticks i j
  clear i j ticks first second differ tied there back =
      elim (keeps.clear i j first second differ tied (started i first) (started j second)) [
        | inl ahead ↦ inl (omega (arith, there, after i j first second (gap c.inst c.plan i j) ahead))
        | inr ahead ↦ inr (omega (arith, back, after j i second first (gap c.inst c.plan j i) ahead))
      ]

  free_by : (j : ℕ) → j < length c.inst.tasks → free_of c.inst c.plan j ≤ start_of sched j
  free_by j low = no_sooner (start_at c j) (start_of sched j) (free_of c.inst c.plan j) (w.starts j low) (keeps.starts j)

  release_same : (j : ℕ) → j < length c.inst.tasks → release_of real j ≡ release_of c.inst j
  release_same j low = ap (λ (t : Task). t.release) (w.same j low)

  release_kept : (j : ℕ) → j < length c.inst.tasks → release_of real j ≤ start_of sched j
  release_kept j low = omega (arith, release_same j low, free_by j low)

  free_kept : (j : ℕ) (low : j < length c.inst.tasks) → arrival c.inst (crane_of c.plan j) (bay_of c.inst j) ≤ start_of sched j
  free_kept j low = omega (arith, free_by j low)

  -- gaps
  crane_gap : (i j : ℕ) → crane_of c.plan i ≡ crane_of c.plan j → gap c.inst c.plan i j ≡ travel_between c.inst (bay_of c.inst i) (bay_of c.inst j)
  crane_gap i j same = rw (equal (crane_of c.plan i) (crane_of c.plan j) same) refl

  other_gap : (i j : ℕ) → crane_of c.plan i ≢ crane_of c.plan j → gap c.inst c.plan i j ≡ slot_distance c.inst c.plan i j
  other_gap i j differ = rw (unequal (crane_of c.plan i) (crane_of c.plan j) differ) refl

  travel_kept : (i j : ℕ) → i < length c.inst.tasks → j < length c.inst.tasks → i ≢ j → crane_of sched i ≡ crane_of sched j
      → IsClear real sched (travel_between real (bay_of real i) (bay_of real j)) i j
  travel_kept i j first second differ same =
      let cranes : crane_of c.plan i ≡ crane_of c.plan j = sym (w.cranes i first) ∙ same ∙ w.cranes j second in
      let way : travel_between real (bay_of real i) (bay_of real j) ≡ travel_between c.inst (bay_of c.inst i) (bay_of c.inst j) =
      ap (λ (x : ℤ). travel_between c.inst x (bay_of real j)) (bay_same i first) ∙ ap (travel_between c.inst (bay_of c.inst i)) (bay_same j second) in
      let swapped : travel_between c.inst (bay_of c.inst i) (bay_of c.inst j) ≡ travel_between c.inst (bay_of c.inst j) (bay_of c.inst i) =
      ap (λ (n : ℕ). c.inst.travel * n) (either_way (bay_of c.inst i) (bay_of c.inst j)) in
      let there = way ∙ sym (crane_gap i j cranes) in
      let back = way ∙ swapped ∙ sym (crane_gap j i (sym cranes)) in
      clear i j (travel_between real (bay_of real i) (bay_of real j)) first second differ (inr (inr (inl cranes)))
      (omega (arith, there)) (omega (arith, back))

  distance_same : (i j : ℕ) → i < length c.inst.tasks → j < length c.inst.tasks → slot_distance real sched i j ≡ slot_distance c.inst c.plan i j
  distance_same i j first second =
      ap (λ (x : ℤ). distance c.inst (crane_of sched i) x (crane_of sched j) (bay_of real j)) (bay_same i first)
      ∙ ap (distance c.inst (crane_of sched i) (bay_of c.inst i) (crane_of sched j)) (bay_same j second)
      ∙ ap (λ (k : ℕ). distance c.inst k (bay_of c.inst i) (crane_of sched j) (bay_of c.inst j)) (w.cranes i first)
      ∙ ap (λ (k : ℕ). distance c.inst (crane_of c.plan i) (bay_of c.inst i) k (bay_of c.inst j)) (w.cranes j second)

  margin_kept : (i j : ℕ) → i < length c.inst.tasks → j < length c.inst.tasks → crane_of sched i ≢ crane_of sched j
      → 0 < slot_distance real sched i j → IsClear real sched (slot_distance real sched i j) i j
  margin_kept i j first second differ near =
      let others : crane_of c.plan i ≢ crane_of c.plan j = λ same. differ (w.cranes i first ∙ same ∙ sym (w.cranes j second)) in
      let same = distance_same i j first second in
      let swapped : slot_distance c.inst c.plan i j ≡ slot_distance c.inst c.plan j i =
      distance_swapped c.inst (crane_of c.plan i) (bay_of c.inst i) (crane_of c.plan j) (bay_of c.inst j) in
      let far : 0 < slot_distance c.inst c.plan i j = subst (λ (d : ℕ). 0 < d) same near in
      let there = same ∙ sym (other_gap i j others) in
      let back = same ∙ swapped ∙ sym (other_gap j i (λ e. others (sym e))) in
      clear i j (slot_distance real sched i j) first second (λ e. others (ap (crane_of c.plan) e)) (inr (inr (inr far)))
      (omega (arith, there)) (omega (arith, back))

  apart_kept : (i j : ℕ) → i < length c.inst.tasks → j < length c.inst.tasks → IsApart c.inst i j → IsClear real sched 0 i j
  apart_kept i j first second apart =
      let order = (valid.apart.range i j apart).0 in
      clear i j 0 first second (λ e. absurd (omega (arith, order, e))) (inr (inl (inl apart))) (omega arith) (omega arith)

  before_kept : (i j : ℕ) → i < length c.inst.tasks → j < length c.inst.tasks → IsBefore c.inst i j → end_of real sched i ≤ start_of sched j
  before_kept i j first second before =
      let over = and_of (start_at c j) (IsOver c i 0) (started j second) (keeps.before i j before) in
      omega (arith, after i j first second 0 over)

  berth_kept : (j v : ℕ) → j < length c.inst.tasks → v < length c.inst.cranes → v ≢ crane_of c.plan j
      → 0 < berth_distance c.inst v (crane_of c.plan j) (bay_of c.inst j) → berth_clear c.inst v (crane_of c.plan j) (bay_of c.inst j) ≤ start_of sched j
  berth_kept j v low high differ away =
      let free = free_by j low in
      let waits = le_greatest (berth_wait c.inst j (crane_of c.plan j)) v 0 (length c.inst.cranes) (omega arith) (omega (arith, high)) in
      let far = unequal (berth_distance c.inst v (crane_of c.plan j) (bay_of c.inst j)) 0 (λ e. absurd (omega (arith, e, away))) in
      let is = cond-false _ 0 (berth_clear c.inst v (crane_of c.plan j) (bay_of c.inst j)) far in
      omega (arith, free, waits, is)

  pub worked : Feasible real sched
  worked = record {
    all_tasks = w.slots_count ∙ sym w.tasks_count;
    crane_range = λ j low. subst (λ (k : ℕ). k < length c.inst.cranes) (sym (w.cranes j (lower low))) (plan.crane_range j (lower low));
    reach = λ j low. rw (w.cranes j (lower low), bay_same j (lower low)) (plan.reach j (lower low));
    ready = λ j low. (release_kept j (lower low), rw (w.cranes j (lower low), bay_same j (lower low)) (free_kept j (lower low)));
    travel = λ i j first second differ same. travel_kept i j (lower first) (lower second) differ same;
    before = λ i j first second is. before_kept i j (lower first) (lower second) is;
    apart = λ i j first second is. apart_kept i j (lower first) (lower second) is;
    margin = λ i j first second differ near. margin_kept i j (lower first) (lower second) differ near;
    berth = λ j v low high. berth_now j v (lower low) high;
  }
    where
      lower : {j : ℕ} → j < length tasks → j < length c.inst.tasks
      lower {j = j} low = subst (λ (n : ℕ). j < n) w.tasks_count low

      berth_now : (j v : ℕ) → j < length c.inst.tasks → v < length c.inst.cranes → KeepsBerth real sched j v
      berth_now j v low high = rw (w.cranes j low, bay_same j low) (berth_kept j v low high)

-- ---- the work as it was granted and reported

begun_by : (s : Stage) → is_waiting s ≡ false → IsSomeAnd (start_in s) (λ start. start ≤ unwrap_or (start_in s) 0)
begun_by Waiting begun = absurd (false≢true (sym begun))
begun_by (Running start) begun = omega arith
begun_by (Ended start end) begun = omega arith

ended_by : (s : Stage) (now : ℕ) → is_waiting s ≡ false → is_running s ≡ false → IsSpan now s
    → IsSomeAnd (end_in s) (λ end. unwrap_or (start_in s) 0 + (unwrap_or (end_in s) 0 - unwrap_or (start_in s) 0) ≤ end)
ended_by Waiting now begun through span = absurd (false≢true (sym begun))
ended_by (Running start) now begun through span = absurd (false≢true (sym through))
ended_by (Ended start end) now begun through span = omega (arith, span.0)

module _ (c : Course) (keeps : Keeps c) (none_left : left c ≡ 0) (none_runs : running c ≡ 0) where
  slot_is : (j : ℕ) → j < length c.inst.tasks
      → slice_index_or (slots_taken c) j no_slot ≡ record { crane = crane_of c.plan j; start = begun_at c j }
  slot_is j low = get_or-map-range_with_len _ 0 (length c.inst.tasks) j j no_slot low (omega arith)

  task_is : (j : ℕ) → j < length c.inst.tasks
      → slice_index_or (tasks_taken c) j no_task ≡ record (task c.inst j) { ticks = ticks_taken c j }
  task_is j low = get_or-map-range_with_len _ 0 (length c.inst.tasks) j j no_task low (omega arith)

  waits_not : (j : ℕ) → j < length c.inst.tasks → is_waiting (stage_of c j) ≡ false
  waits_not j low = none_in is_waiting c.stages j Waiting (omega (arith, low, keeps.stages)) none_left

  runs_not : (j : ℕ) → j < length c.inst.tasks → is_running (stage_of c j) ≡ false
  runs_not j low = none_in is_running c.stages j Waiting (omega (arith, low, keeps.stages)) none_runs

  start_is : (j : ℕ) → j < length c.inst.tasks → start_of (slots_taken c) j ≡ begun_at c j
  start_is j low = ap (λ (s : Slot). s.start) (slot_is j low)

  end_is : (j : ℕ) → j < length c.inst.tasks
      → end_of (with_tasks c.inst (tasks_taken c)) (slots_taken c) j ≡ begun_at c j + ticks_taken c j
  end_is j low =
      ap (λ (n : ℕ). n + ticks_of (with_tasks c.inst (tasks_taken c)) j) (start_is j low)
      ∙ ap (λ (t : Task). begun_at c j + t.ticks) (task_is j low)

  pub worked_taken : IsWorked c (tasks_taken c) (slots_taken c)
  worked_taken = record {
    tasks_count = length-map-range_with_len _ 0 (length c.inst.tasks);
    slots_count = length-map-range_with_len _ 0 (length c.inst.tasks);
    same = λ j low. task_is j low ∙ ap (λ (n : ℕ). record (task c.inst j) { ticks = n }) (sym (ap (λ (t : Task). t.ticks) (task_is j low)));
    cranes = λ j low. ap (λ (s : Slot). s.crane) (slot_is j low);
    starts = λ j low. subst (λ (n : ℕ). IsSomeAnd (start_at c j) (λ start. start ≤ n)) (sym (start_is j low))
        (begun_by (stage_of c j) (waits_not j low));
    ends = λ j low. subst (λ (n : ℕ). IsSomeAnd (end_at c j) (λ end. n ≤ end)) (sym (end_is j low))
        (ended_by (stage_of c j) c.clock (waits_not j low) (runs_not j low) (keeps.spans j));
  }
