-- The rules of a feasible schedule on one scale. Levels of bays are those of upward schedules: cranes at their
-- least distance stand at one level. Each rule says that no task and no berth has a crane above where another
-- has it.
use Rattle.std.proofs.Common.{◌≡◌, ◌≢◌, ℕ, ◌-◌, ◌*◌, ◌<◌, ◌≤◌, ℤ, pos, ◌-ℤ◌, ◌≤ℤ◌, inl, inr, List, length, refl, ap, arith}
use Rattle.std.proofs.lemmas.Bool.{cases_lt, cases_order}
use Rattle.std.proofs.lemmas.Int.{ints}
use Rattle.qc_model.specs.declared.schedule.Slot.{Slot}
use Rattle.qc_model.specs.Bays.{bays_up}
use Rattle.qc_model.specs.Instance.{InstanceView, bay_of}
use Rattle.qc_model.specs.Rules.{Feasible, IsClear, crane_of, end_of, start_of}
use Rattle.qc_model.proofs.Bays.{bays}
use Rattle.qc_model.proofs.Levels.{HasVisits, bay_on, distance-lowered, one_way, same_way, task_level}
use Rattle.qc_model.proofs.Scaled.{scaled_late}
use Rattle.qc_freemove.specs.FreeMotion.{parts_off}

-- where task i has its crane at a moment
abbrev pub visit_at : InstanceView → List Slot → ℕ → ℕ → ℕ → ℤ
visit_at inst sched d i m = task_level inst sched d i -ℤ pos (parts_off inst sched i m d)

-- ---- on ticks

-- two tasks that are clear by some ticks are clear by fewer
clear_by : (inst : InstanceView) (sched : List Slot) (few ticks i j : ℕ) → few ≤ ticks
    → IsClear inst sched ticks i j → IsClear inst sched few i j
clear_by inst sched few ticks i j low (inl h) = inl (omega arith)
clear_by inst sched few ticks i j low (inr h) = inr (omega arith)

-- where something comes up to a, and is no higher than low at n, it is no higher at an earlier moment m
before_y : (a : ℤ) (s n m off : ℕ) (low : ℤ) → (a -ℤ pos (s - n)) ≤ℤ low → m ≤ n → s - m ≤ off
    → (a -ℤ pos off) ≤ℤ low
before_y a s n m off low h early far = omega (arith, ints)

-- where something goes down from a, and is no higher than low at n, it is no higher at a later moment m
behind_y : (a : ℤ) (s n m off : ℕ) (low : ℤ) → (a -ℤ pos (n - s)) ≤ℤ low → n ≤ m → m - s ≤ off
    → (a -ℤ pos off) ≤ℤ low
behind_y a s n m off low h late far = omega (arith, ints)

module _ (inst : InstanceView) (sched : List Slot) (g : Feasible inst sched) where
  -- the ticks from task j up to task i, where the cranes of both stand as near as they may
  abbrev way_up : ℕ → ℕ → ℕ
  way_up j i = inst.travel * bays_up (bay_on inst sched j) (bay_on inst sched i)

  differ : (i j : ℕ) → 0 < way_up j i → j ≢ i
  differ i j near e =
      let level : bays_up (bay_on inst sched j) (bay_on inst sched j) ≡ 0 = omega (arith, bays) in
      absurd (omega (arith, near, ap (way_up j) e, ap (λ n. inst.travel * n) level))

  clear : (i j : ℕ) → i < length inst.tasks → j < length inst.tasks → crane_of sched i ≤ crane_of sched j
      → 0 < way_up j i → IsClear inst sched (way_up j i) j i
  clear i j low high order near = elim (cases_order (crane_of sched j) (crane_of sched i)) [
    | inl same ↦
        let bays_same = same_way inst (crane_of sched j) (crane_of sched i) (bay_of inst j) (bay_of inst i) same in
        let part = one_way inst.travel (bay_of inst j) (bay_of inst i) in
        clear_by inst sched _ _ j i (omega (arith, bays_same, part))
        (g.travel j i high low (differ i j near) same)
    | inr u ↦ elim u [
      | inl up ↦ absurd (omega arith)
      | inr down ↦
          let far = distance-lowered inst _ (bay_of inst j) _ (bay_of inst i) down in
          clear_by inst sched _ _ j i (omega (arith, far))
          (g.margin j i high low (λ e. absurd (omega arith)) (omega (arith, far)))
    ]
  ]

  module _ (d : ℕ) where
    -- another task that is clear of task j has its crane no higher
    beside : (i j m : ℕ) → d * start_of sched j ≤ m → m ≤ d * end_of inst sched j
        → (way : ℕ) → way ≡ way_up j i → IsClear inst sched way j i
        → visit_at inst sched d i m ≤ℤ task_level inst sched d j
    unfolding task_level
    beside i j m begun going way is (inl behind) =
        let far = scaled_late d inst.travel (bay_on inst sched j) (bay_on inst sched i) (end_of inst sched j)
        (start_of sched i) (λ _. omega (arith, is, behind)) in
        before_y _ (d * start_of sched i) (d * end_of inst sched j) m _ _ far going (omega arith)
    beside i j m begun going way is (inr before) =
        let far = scaled_late d inst.travel (bay_on inst sched j) (bay_on inst sched i) (end_of inst sched i)
        (start_of sched j) (λ _. omega (arith, is, before)) in
        behind_y _ (d * end_of inst sched i) (d * start_of sched j) m _ _ far begun (omega arith)

    -- one that lies no higher does so at every moment
    level : (i j m : ℕ) → ¬ (0 < way_up j i) → visit_at inst sched d i m ≤ℤ task_level inst sched d j
    unfolding task_level
    level i j m none =
        let low = scaled_late d inst.travel (bay_on inst sched j) (bay_on inst sched i) 0 0
        (λ l. absurd (none l)) in
        before_y _ (d * 0) (d * 0) 0 _ _ low (omega arith) (omega arith)

    visits : (i j m : ℕ) → i < length inst.tasks → j < length inst.tasks → crane_of sched i ≤ crane_of sched j
        → d * start_of sched j ≤ m → m ≤ d * end_of inst sched j
        → visit_at inst sched d i m ≤ℤ task_level inst sched d j
    visits i j m low high order begun going = elim (cases_lt 0 (way_up j i)) [
      | inl near ↦ beside i j m begun going (way_up j i) refl (clear i j low high order near)
      | inr none ↦ level i j m (λ l. absurd (omega arith))
    ]

    pub free_visits : HasVisits inst sched d (λ i m. parts_off inst sched i m d)
    free_visits = record {
      visits = visits;
      coming = λ i m. omega arith;
      done = λ i m begun going. omega arith;
      near = λ i m. (omega arith, omega arith);
    }
