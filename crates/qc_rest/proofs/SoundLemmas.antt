-- What was done, and behind it a feasible schedule of what is left, is a feasible schedule of the whole.
use Rattle.std.proofs.Common.{◌≡◌, ◌≢◌, ℕ, ◌+◌, ◌*◌, ◌<◌, ◌≤◌, ◌⊎◌, ℤ, ◌≤ℤ◌, inl, inr, List, length, sym, ap, subst, ◌∙◌, arith}
use Rattle.std.proofs.lemmas.Bool.{ne_eqb, cond-false}
use Rattle.qc_dispatch.specs.Course.{Course, stage_of}
use Rattle.qc_dispatch.specs.Promises.{Keeps}
use Rattle.qc_dispatch.specs.Worked.{begun_at, with_tasks}
use Rattle.qc_model.specs.declared.schedule.Slot.{Slot}
use Rattle.qc_model.specs.declared.task.Task.{Task}
use Rattle.qc_model.specs.Bays.{bays_between}
use Rattle.qc_model.specs.Instance.{InstanceView, Valid, IsApart, IsBefore, bay_of, crane, release_of}
use Rattle.qc_model.specs.Nodes.{berth_wait}
use Rattle.qc_model.specs.Rules.{Feasible, IsClear, KeepsBerth, KeepsReach, KeepsReady, crane_of, end_of, slot_distance, start_of}
use Rattle.qc_model.specs.Ticks.{arrival, berth_clear, berth_distance, distance, travel_between}
use Rattle.qc_model.proofs.Extremes.{le_greatest}
use Rattle.qc_model.proofs.GoesLemmas.{distance_swapped}
use Rattle.qc_rest.specs.declared.stand.Stand.{Stand}
use Rattle.qc_rest.specs.Joined.{IsJoined}
use Rattle.qc_rest.specs.Progress.{AreOver, HasBegun, IsLeft, number_of}
use Rattle.qc_rest.specs.Rest.{IsRest}
use Rattle.qc_rest.proofs.BayLemmas.{distance_same, travel_swapped}
use Rattle.qc_rest.proofs.BegunLemmas.{begun_before, begun_or_waits, clear, freed, over_before}
use Rattle.qc_rest.proofs.PairLemmas.{berth_kept, from_berth, held_back, numbers_differ, one_crane, two_cranes}
use Rattle.qc_rest.proofs.StandLemmas.{bay_left, crane_low, distance_at, gap_of_one, gap_of_two, number_low, ticks_left}

module _ (c : Course) (over : ℕ → ℕ) (stands : List Stand) (rest : InstanceView) (new : List Slot) (tasks : List Task)
    (sched : List Slot) (valid : Valid c.inst) (plan : Feasible c.inst c.plan) (keeps : Keeps c) (known : AreOver c over)
    (is : IsRest c over stands rest) (feasible : Feasible rest new) (w : IsJoined c over new tasks sched) where
  abbrev real : InstanceView
  real = with_tasks c.inst tasks

  bay_same : (j : ℕ) → j < length c.inst.tasks → bay_of real j ≡ bay_of c.inst j
  bay_same j low = ap (λ (t : Task). t.bay) (w.same j low)

  release_same : (j : ℕ) → j < length c.inst.tasks → release_of real j ≡ release_of c.inst j
  release_same j low = ap (λ (t : Task). t.release) (w.same j low)

  -- for a task that has begun, or is left
  by_task : {P : Type 0} (j : ℕ) → j < length c.inst.tasks → (HasBegun c j → P) → (IsLeft c j → P) → P
  by_task j low begun left = elim (begun_or_waits (stage_of c j)) [
    | inl some ↦ begun some
    | inr waits ↦ left (record { task = low; waits = waits })
  ]

  low_at : (j : ℕ) → IsLeft c j → number_of c j < length rest.tasks
  low_at j waits = number_low c over stands rest new keeps is feasible j waits

  bay_at : (j : ℕ) → IsLeft c j → bay_of rest (number_of c j) ≡ bay_of c.inst j
  bay_at j waits = bay_left c over stands rest new keeps is feasible j waits

  end_left : (j : ℕ) → IsLeft c j → end_of real sched j ≡ c.clock + end_of rest new (number_of c j)
  end_left j waits =
      let own = w.planned j waits in
      omega (arith, own.start, own.ticks, ticks_left c over stands rest new keeps is feasible j waits)

  released : (j : ℕ) → IsLeft c j → release_of rest (number_of c j) ≤ start_of new (number_of c j)
  released j waits = (feasible.ready (number_of c j) (low_at j waits)).0

  -- two tasks are clear of each other, whichever of them have begun
  module _ (i j ticks : ℕ) (first : i < length c.inst.tasks) (second : j < length c.inst.tasks)
      (both : HasBegun c i → HasBegun c j → (over i + ticks ≤ begun_at c j) ⊎ (over j + ticks ≤ begun_at c i))
      (there : HasBegun c i → IsLeft c j → over i + ticks ≤ c.clock + start_of new (number_of c j))
      (back : HasBegun c j → IsLeft c i → over j + ticks ≤ c.clock + start_of new (number_of c i))
      (none : IsLeft c i → IsLeft c j → IsClear rest new ticks (number_of c i) (number_of c j)) where
    both_begun : HasBegun c i → HasBegun c j → IsClear real sched ticks i j
    both_begun p q =
        let one = w.begun i first p in
        let other = w.begun j second q in
        elim (both p q) [
          | inl ahead ↦ inl (omega (arith, one.end, other.start, ahead))
          | inr ahead ↦ inr (omega (arith, other.end, one.start, ahead))
        ]

    both_left : IsLeft c i → IsLeft c j → IsClear real sched ticks i j
    both_left p q = elim (none p q) [
      | inl ahead ↦ inl (omega (arith, end_left i p, (w.planned j q).start, ahead))
      | inr ahead ↦ inr (omega (arith, end_left j q, (w.planned i p).start, ahead))
    ]

    pair_clear : IsClear real sched ticks i j
    pair_clear = by_task i first
        (λ p. by_task j second (both_begun p) (λ q. inl (omega (arith, (w.begun i first p).end, (w.planned j q).start, there p q))))
        (λ p. by_task j second (λ q. inr (omega (arith, (w.begun j second q).end, (w.planned i p).start, back q p))) (both_left p))

  -- ---- one task

  module _ (j : ℕ) (low : j < length c.inst.tasks) where
    abbrev ReachIsKept : Type 0
    ReachIsKept =
        ((crane c.inst (crane_of sched j)).from ≤ℤ bay_of c.inst j) × (bay_of c.inst j ≤ℤ (crane c.inst (crane_of sched j)).to)

    reach_begun : HasBegun c j → ReachIsKept
    reach_begun some = rw (w.begun j low some).crane (plan.reach j low)

    reach_left : IsLeft c j → ReachIsKept
    reach_left waits =
        let kept = feasible.reach (number_of c j) (low_at j waits) in
        let now = is.cranes (crane_of new (number_of c j)) (crane_low c over stands rest new keeps is feasible j waits) in
        let from = subst (λ (x : ℤ). (crane rest (crane_of new (number_of c j))).from ≤ℤ x) (bay_at j waits) kept.0 in
        let to = subst (λ (x : ℤ). x ≤ℤ (crane rest (crane_of new (number_of c j))).to) (bay_at j waits) kept.1 in
        rw (w.planned j waits).crane (
          subst (λ (x : ℤ). x ≤ℤ bay_of c.inst j) now.from from,
          subst (λ (x : ℤ). bay_of c.inst j ≤ℤ x) now.to to,
        )

    reach_kept : KeepsReach real sched j
    reach_kept = rw (bay_same j low) (by_task j low reach_begun reach_left)

    abbrev ReadyIsKept : Type 0
    ReadyIsKept = (release_of c.inst j ≤ start_of sched j) × (arrival c.inst (crane_of sched j) (bay_of c.inst j) ≤ start_of sched j)

    ready_begun : HasBegun c j → ReadyIsKept
    ready_begun some =
        let own = w.begun j low some in
        let free = freed c over keeps known j some in
        rw own.crane (omega (arith, own.start, free), omega (arith, own.start, free))

    ready_left : IsLeft c j → ReadyIsKept
    ready_left waits =
        let own = w.planned j waits in
        rw own.crane (
          omega (arith, own.start, (is.tasks j waits).released, released j waits),
          omega (arith, own.start, from_berth c over stands rest new valid plan keeps known is feasible j waits),
        )

    ready_kept : KeepsReady real sched j
    ready_kept = rw (bay_same j low, release_same j low) (by_task j low ready_begun ready_left)

    module _ (v : ℕ) (high : v < length c.inst.cranes) where
      abbrev BerthIsKept : Type 0
      BerthIsKept = v ≢ crane_of sched j → 0 < berth_distance c.inst v (crane_of sched j) (bay_of c.inst j)
          → berth_clear c.inst v (crane_of sched j) (bay_of c.inst j) ≤ start_of sched j

      berth_planned : (s : ℕ) → HasBegun c j → begun_at c j ≤ s → v ≢ crane_of c.plan j
          → 0 < berth_distance c.inst v (crane_of c.plan j) (bay_of c.inst j)
          → berth_clear c.inst v (crane_of c.plan j) (bay_of c.inst j) ≤ s
      berth_planned s some later differ away =
          let free = freed c over keeps known j some in
          let waits = le_greatest (berth_wait c.inst j (crane_of c.plan j)) v 0 (length c.inst.cranes) (omega arith) (omega (arith, high)) in
          let far = ne_eqb (berth_distance c.inst v (crane_of c.plan j) (bay_of c.inst j)) 0 (λ e. absurd (omega (arith, e, away))) in
          let is = cond-false _ 0 (berth_clear c.inst v (crane_of c.plan j) (bay_of c.inst j)) far in
          omega (arith, free, waits, is, later)

      berth_begun : HasBegun c j → BerthIsKept
      berth_begun some = rw (w.begun j low some).crane (berth_planned (start_of sched j) some (w.begun j low some).start)

      berth_left : IsLeft c j → BerthIsKept
      berth_left waits = rw ((w.planned j waits).crane, (w.planned j waits).start)
          (berth_kept c over stands rest new valid plan keeps known is feasible j waits v high)

      berth_now : KeepsBerth real sched j v
      berth_now = rw (bay_same j low) (by_task j low berth_begun berth_left)

  -- ---- two tasks

  module _ (i j : ℕ) (first : i < length c.inst.tasks) (second : j < length c.inst.tasks) where
    abbrev way : ℕ
    way = travel_between c.inst (bay_of c.inst i) (bay_of c.inst j)

    way_back : travel_between c.inst (bay_of c.inst j) (bay_of c.inst i) ≡ way
    way_back = travel_swapped c.inst (bay_of c.inst j) (bay_of c.inst i)

    module _ (differ : i ≢ j) (same : crane_of sched i ≡ crane_of sched j) where
      travel_begun : HasBegun c i → HasBegun c j → (over i + way ≤ begun_at c j) ⊎ (over j + way ≤ begun_at c i)
      travel_begun p q =
          let one : crane_of c.plan i ≡ crane_of c.plan j = sym (w.begun i first p).crane ∙ same ∙ (w.begun j second q).crane in
          elim (clear c over keeps known i j first second differ (inr (inr (inl one))) p q) [
            | inl ahead ↦ inl (omega (arith, ahead, gap_of_one c.inst c.plan i j one))
            | inr ahead ↦ inr (omega (arith, ahead, gap_of_one c.inst c.plan j i (sym one), way_back))
          ]

      travel_there : HasBegun c i → IsLeft c j → over i + way ≤ c.clock + start_of new (number_of c j)
      travel_there p q = one_crane c over stands rest new valid plan keeps known is feasible i j first p q
          (sym (w.begun i first p).crane ∙ same ∙ (w.planned j q).crane)

      travel_back : HasBegun c j → IsLeft c i → over j + way ≤ c.clock + start_of new (number_of c i)
      travel_back q p = omega (
        arith,
        way_back,
        one_crane c over stands rest new valid plan keeps known is feasible j i second q p
            (sym (w.begun j second q).crane ∙ sym same ∙ (w.planned i p).crane),
      )

      travel_left : IsLeft c i → IsLeft c j → IsClear rest new way (number_of c i) (number_of c j)
      travel_left p q =
          let kept = feasible.travel (number_of c i) (number_of c j) (low_at i p) (low_at j q)
          (numbers_differ c over stands rest new valid plan keeps known is feasible i j p q differ)
          (sym (w.planned i p).crane ∙ same ∙ (w.planned j q).crane) in
          let e : travel_between rest (bay_of rest (number_of c i)) (bay_of rest (number_of c j)) ≡ way =
          ap (λ (x : ℤ). travel_between rest x (bay_of rest (number_of c j))) (bay_at i p)
          ∙ ap (travel_between rest (bay_of c.inst i)) (bay_at j q)
          ∙ ap (λ (t : ℕ). t * bays_between (bay_of c.inst i) (bay_of c.inst j)) is.travel in
          subst (λ (t : ℕ). IsClear rest new t (number_of c i) (number_of c j)) e kept

      travel_kept : IsClear real sched (travel_between real (bay_of real i) (bay_of real j)) i j
      travel_kept = rw (bay_same i first, bay_same j second)
          (pair_clear i j way first second travel_begun travel_there travel_back travel_left)

    module _ (before : IsBefore c.inst i j) where
      before_begun : HasBegun c j → end_of real sched i ≤ start_of sched j
      before_begun q =
          let p = begun_before c over keeps known i j before q in
          omega (arith, (w.begun i first p).end, (w.begun j second q).start, over_before c over keeps known i j before q)

      before_left : IsLeft c j → end_of real sched i ≤ start_of sched j
      before_left q = by_task i first
          (λ p. omega (
            arith,
            (w.begun i first p).end,
            (w.planned j q).start,
            held_back c over stands rest new valid plan keeps known is feasible i j first p q (inl before) (released j q),
          ))
          (λ p. omega (
            arith,
            end_left i p,
            (w.planned j q).start,
            feasible.before (number_of c i) (number_of c j) (low_at i p) (low_at j q) (is.before i j p q before),
          ))

      before_kept : end_of real sched i ≤ start_of sched j
      before_kept = by_task j second before_begun before_left

    module _ (apart : IsApart c.inst i j) where
      apart_begun : HasBegun c i → HasBegun c j → (over i + 0 ≤ begun_at c j) ⊎ (over j + 0 ≤ begun_at c i)
      apart_begun p q =
          let order = (valid.apart.range i j apart).0 in
          elim (clear c over keeps known i j first second (λ e. absurd (omega (arith, order, e))) (inr (inl (inl apart))) p q) [
            | inl ahead ↦ inl (omega (arith, ahead))
            | inr ahead ↦ inr (omega (arith, ahead))
          ]

      apart_kept : IsClear real sched 0 i j
      apart_kept = pair_clear i j 0 first second apart_begun
          (λ p q. omega (arith, held_back c over stands rest new valid plan keeps known is feasible i j first p q (inr (inl apart)) (released j q)))
          (λ q p. omega (arith, held_back c over stands rest new valid plan keeps known is feasible j i second q p (inr (inr apart)) (released i p)))
          (λ p q. feasible.apart (number_of c i) (number_of c j) (low_at i p) (low_at j q) (is.apart i j p q apart))

    abbrev far : ℕ
    far = distance c.inst (crane_of sched i) (bay_of c.inst i) (crane_of sched j) (bay_of c.inst j)

    module _ (differ : crane_of sched i ≢ crane_of sched j) (near : 0 < far) where
      -- seen from the other task, with the cranes that both have
      turned : (v w : ℕ) → crane_of sched i ≡ v → crane_of sched j ≡ w → far ≡ distance c.inst w (bay_of c.inst j) v (bay_of c.inst i)
      turned v w first second =
          distance_at c.inst (crane_of sched i) (crane_of sched j) v w (bay_of c.inst i) (bay_of c.inst j) first second
          ∙ distance_swapped c.inst v (bay_of c.inst i) w (bay_of c.inst j)

      others : (v w : ℕ) → crane_of sched i ≡ v → crane_of sched j ≡ w → v ≢ w
      others v w first second e = differ (first ∙ e ∙ sym second)

      margin_begun : HasBegun c i → HasBegun c j → (over i + far ≤ begun_at c j) ⊎ (over j + far ≤ begun_at c i)
      margin_begun p q =
          let v = crane_of c.plan i in
          let u = crane_of c.plan j in
          let one = (w.begun i first p).crane in
          let other = (w.begun j second q).crane in
          let there : far ≡ slot_distance c.inst c.plan i j =
          distance_at c.inst (crane_of sched i) (crane_of sched j) v u (bay_of c.inst i) (bay_of c.inst j) one other in
          let back : far ≡ slot_distance c.inst c.plan j i = turned v u one other in
          let apart : v ≢ u = others v u one other in
          let away : 0 < slot_distance c.inst c.plan i j = omega (arith, near, there) in
          elim (clear c over keeps known i j first second (λ e. apart (ap (crane_of c.plan) e)) (inr (inr (inr away))) p q) [
            | inl ahead ↦ inl (omega (arith, ahead, gap_of_two c.inst c.plan i j apart, there))
            | inr ahead ↦ inr (omega (arith, ahead, gap_of_two c.inst c.plan j i (λ e. apart (sym e)), back))
          ]

      margin_there : HasBegun c i → IsLeft c j → over i + far ≤ c.clock + start_of new (number_of c j)
      margin_there p q =
          let v = crane_of c.plan i in
          let u = crane_of new (number_of c j) in
          let one = (w.begun i first p).crane in
          let other = (w.planned j q).crane in
          let e : far ≡ distance c.inst v (bay_of c.inst i) u (bay_of c.inst j) =
          distance_at c.inst (crane_of sched i) (crane_of sched j) v u (bay_of c.inst i) (bay_of c.inst j) one other in
          let kept = two_cranes c over stands rest new valid plan keeps known is feasible i j first p q (others v u one other) (omega (arith, near, e)) in
          omega (arith, e, kept)

      margin_back : HasBegun c j → IsLeft c i → over j + far ≤ c.clock + start_of new (number_of c i)
      margin_back q p =
          let v = crane_of new (number_of c i) in
          let u = crane_of c.plan j in
          let one = (w.planned i p).crane in
          let other = (w.begun j second q).crane in
          let e : far ≡ distance c.inst u (bay_of c.inst j) v (bay_of c.inst i) = turned v u one other in
          let kept = two_cranes c over stands rest new valid plan keeps known is feasible j i second q p
          (λ same. others v u one other (sym same)) (omega (arith, near, e)) in
          omega (arith, e, kept)

      margin_left : IsLeft c i → IsLeft c j → IsClear rest new far (number_of c i) (number_of c j)
      margin_left p q =
          let v = crane_of new (number_of c i) in
          let u = crane_of new (number_of c j) in
          let one = (w.planned i p).crane in
          let other = (w.planned j q).crane in
          let e : slot_distance rest new (number_of c i) (number_of c j) ≡ far =
          ap (λ (x : ℤ). distance rest v x u (bay_of rest (number_of c j))) (bay_at i p)
          ∙ ap (distance rest v (bay_of c.inst i) u) (bay_at j q)
          ∙ distance_same rest c.inst is.travel is.gap v (bay_of c.inst i) u (bay_of c.inst j)
          ∙ sym (distance_at c.inst (crane_of sched i) (crane_of sched j) v u (bay_of c.inst i) (bay_of c.inst j) one other) in
          let kept = feasible.margin (number_of c i) (number_of c j) (low_at i p) (low_at j q) (others v u one other) (omega (arith, near, e)) in
          subst (λ (t : ℕ). IsClear rest new t (number_of c i) (number_of c j)) e kept

      margin_kept : IsClear real sched far i j
      margin_kept = pair_clear i j far first second margin_begun margin_there margin_back margin_left

    margin_now : crane_of sched i ≢ crane_of sched j → 0 < slot_distance real sched i j
        → IsClear real sched (slot_distance real sched i j) i j
    margin_now = rw (bay_same i first, bay_same j second) margin_kept

  crane_range : (j : ℕ) → j < length c.inst.tasks → crane_of sched j < length c.inst.cranes
  crane_range j low = by_task j low
      (λ some. subst (λ (k : ℕ). k < length c.inst.cranes) (sym (w.begun j low some).crane) (plan.crane_range j low))
      (λ waits. subst (λ (k : ℕ). k < length c.inst.cranes) (sym (w.planned j waits).crane)
      (crane_low c over stands rest new keeps is feasible j waits))

  lower : {j : ℕ} → j < length tasks → j < length c.inst.tasks
  lower {j = j} low = subst (λ (n : ℕ). j < n) w.tasks_count low

  pub joined : Feasible real sched
  joined = record {
    all_tasks = w.slots_count ∙ sym w.tasks_count;
    crane_range = λ j low. crane_range j (lower low);
    reach = λ j low. reach_kept j (lower low);
    ready = λ j low. ready_kept j (lower low);
    travel = λ i j first second differ same. travel_kept i j (lower first) (lower second) differ same;
    before = λ i j first second before. before_kept i j (lower first) (lower second) before;
    apart = λ i j first second apart. apart_kept i j (lower first) (lower second) apart;
    margin = λ i j first second. margin_now i j (lower first) (lower second);
    berth = λ j v low high. berth_now j (lower low) v high;
  }
