-- No feasible schedule that follows an assignment ends packed tasks in less than their ticks and their span.
use Rattle.std.proofs.Common.{[], ◌≡◌, ◌≢◌, Contains, ℕ, ◌+◌, ◌*◌, ◌<◌, ◌≤◌, ◌⊎◌, inl, inr, true, ◌&&◌, ◌||◌, eqb, not, List, ◌∷◌, length, map, Option, None, Some, IfSome, ℤ, pos, ◌-ℤ◌, ◌≤ℤ◌, refl, ap, sym, subst, ◌∙◌, arith, filter, int_le, sum_by, nat_lt}
use Rattle.std.proofs.Math.Nat.{mul-le-mul_left}
use Rattle.std.proofs.lemmas.Bool.{and_from, and_parts, cases_eq, cases_lt, cond_both, eqb-false, eqb-true, false≢true, ltb-true, not-true, or_cases}
use Rattle.std.proofs.lemmas.Int.{by_lt_z, ints}
use Rattle.std.proofs.lemmas.List.{length-map}
use Rattle.std.proofs.lemmas.List.Sums.{sum_by-cons}
use Rattle.std.specs.List.{list_all, range_with_len}
use Rattle.qc_close.specs.Model.{Slot, bays_between, bays_up, InstanceView, bay_of, ticks_of, ticks_over, least, reaches, Feasible, crane_of, end_of, ends, start_of, starts, task_distance, travel_between, Follows, crane_in, cranes_by, cranes_for, place, IsPackBound, all_clash, all_differ, clash, is_doable, is_packed, may_lie, pack, places, span, stretches}
use Rattle.qc_model.proofs.Bays.{bays}
use Rattle.qc_model.proofs.NodeLemmas.{T_true, ends_by, if_some, start_at}
use Rattle.qc_close.proofs.Members.{Among, contains_of, all_at, all_from, among_filter, among_flat, among_map, among_range, any_from, first_of, least_at}
use Rattle.qc_laws.proofs.Rows.{AllClear, AreClear, Row, row_fits, row_of, way, way_between}
use Rattle.qc_close.proofs.SpanLemmas.{lower_distance, higher_distance, some_bays}

distance_between : (inst : InstanceView) (i v j w : ℕ) → v ≢ w → 0 < task_distance inst i v j w
    → task_distance inst i v j w ≡ inst.travel * bays_between (place inst i v) (place inst j w)
distance_between inst i v j w differ some = elim (cases_lt v w) [
  | inl low ↦
      let is = lower_distance inst i v j w low in
      let far = some_bays inst.travel (bays_up (place inst j w) (place inst i v)) (omega (arith, is)) in
      let all : bays_up (place inst j w) (place inst i v) ≡ bays_between (place inst i v) (place inst j w) = omega (arith, bays, far) in
      is ∙ ap (λ n. inst.travel * n) all
  | inr high ↦
      let is = higher_distance inst i v j w (omega arith) in
      let far = some_bays inst.travel (bays_up (place inst i v) (place inst j w)) (omega (arith, is)) in
      let all : bays_up (place inst i v) (place inst j w) ≡ bays_between (place inst i v) (place inst j w) = omega (arith, bays, far) in
      is ∙ ap (λ n. inst.travel * n) all
]

same_gap : (m n : ℕ) (x y : ℤ) → m ≡ n → bays_between x y ≡ bays_between (x -ℤ pos m) (y -ℤ pos n)
same_gap m n x y e = omega (arith, bays)

-- ---- the tasks of a feasible schedule

module _ (inst : InstanceView) (sched : List Slot) (f : Feasible inst sched) where
  -- where a task lies for its crane
  abbrev pub place_of : ℕ → ℤ
  place_of j = place inst j (crane_of sched j)

  abbrev starts_at : ℕ → ℕ
  starts_at j = start_of sched j

  abbrev lasts : ℕ → ℕ
  lasts j = ticks_of inst j

  abbrev between : ℕ → ℕ → ℕ
  between i j = inst.travel * bays_between (place_of i) (place_of j)

  turned : (i j : ℕ) → between i j ≡ between j i
  turned i j =
      let same : bays_between (place_of i) (place_of j) ≡ bays_between (place_of j) (place_of i) = omega (arith, bays) in
      ap (λ n. inst.travel * n) same

  -- tasks that can't run together are clear of each other by the way between their places
  pub clear : (i j : ℕ) → i < length inst.tasks → j < length inst.tasks → i ≢ j
      → (crane_of sched i ≡ crane_of sched j) ⊎ (0 < task_distance inst i (crane_of sched i) j (crane_of sched j))
      → AreClear starts_at lasts between i j
  clear i j low high differ near = elim (cases_eq (crane_of sched i) (crane_of sched j)) [
    | inl same ↦
        let gaps = ap (λ v. inst.gap * v) same in
        let shifted = same_gap (inst.gap * crane_of sched i) (inst.gap * crane_of sched j) (bay_of inst i) (bay_of inst j) gaps in
        with_gap (travel_between inst (bay_of inst i) (bay_of inst j)) (ap (λ n. inst.travel * n) shifted)
        (f.travel i j low high differ same)
    | inr other ↦
        let far = too_near other near in
        with_gap (task_distance inst i (crane_of sched i) j (crane_of sched j))
        (distance_between inst i (crane_of sched i) j (crane_of sched j) other far)
        (f.margin i j low high other far)
  ]
    where
      with_gap : (n : ℕ) → n ≡ between i j
          → (end_of inst sched i + n ≤ start_of sched j) ⊎ (end_of inst sched j + n ≤ start_of sched i)
          → AreClear starts_at lasts between i j
      with_gap n e (inl h) = inl (omega (arith, e, h))
      with_gap n e (inr h) = inr (omega (arith, e, h, turned i j))

      too_near : crane_of sched i ≢ crane_of sched j
          → (crane_of sched i ≡ crane_of sched j) ⊎ (0 < task_distance inst i (crane_of sched i) j (crane_of sched j))
          → 0 < task_distance inst i (crane_of sched i) j (crane_of sched j)
      too_near other (inl same) = absurd (other same)
      too_near other (inr far) = far

  pub ends_in : (j : ℕ) → j < length inst.tasks → starts_at j + lasts j ≤ ends inst sched
  ends_in j low =
      let count = length-map sched (λ slot. slot.start) ∙ f.all_tasks in
      omega (arith, start_at sched j, ends_by inst.tasks (starts sched) j count low)

  -- tasks of which each two can't run together take as long as they all and the way between any two of their places
  pub take_so_long : (tasks : List ℕ) (early : ℕ) → ((j : ℕ) → Among tasks j → j < length inst.tasks)
      → ((j : ℕ) → Among tasks j → early ≤ starts_at j) → AllClear starts_at lasts between tasks
      → (i k : ℕ) → Among tasks i → Among tasks k
      → early + ticks_over inst tasks + between i k ≤ ends inst sched
  take_so_long tasks early range first all i k is_i is_k =
      let row = row_of starts_at lasts between (λ _. early) tasks first all in
      from_first row.order row.row (λ j a. range j (row.only j a)) (row.has i is_i) (row.has k is_k) row.ticks
    where
      from_first : (order : List ℕ) → Row starts_at lasts between (λ _. early) order
          → ((j : ℕ) → Among order j → j < length inst.tasks) → Among order i → Among order k
          → sum_by lasts order ≡ sum_by lasts tasks
          → early + ticks_over inst tasks + between i k ≤ ends inst sched
      from_first [] row in_range a b same = absurd a
      from_first (j ∷ js) row in_range a b same =
          let behind =
          row_fits place_of starts_at lasts inst.travel (ends inst sched) (starts_at j + lasts j) (place_of j) js
          (ends_in j (in_range j (inl refl))) row.1 (λ l c. ends_in l (in_range l (inr c))) in
          let both = way_between place_of (place_of j) (j ∷ js) i k a b in
          let less : bays_between (place_of i) (place_of k) ≤ way place_of (place_of j) js = omega (arith, bays, both) in
          omega (arith, behind, mul-le-mul_left inst.travel less, sum_by-cons lasts j js, same, row.0)

-- ---- packed tasks

module _ (inst : InstanceView) (sched : List Slot) (f : Feasible inst sched) (cranes : List (Option ℕ))
    (follows : Follows inst cranes sched) where
  -- the crane of a task may do it
  pub may_do : (j : ℕ) → j < length inst.tasks → Among (cranes_for inst cranes j) (crane_of sched j)
  may_do j low = by (crane_in cranes j) (if_some (crane_in cranes j) (λ k. crane_of sched j ≡ k) (λ k e. follows j k low e))
    where
      by : (o : Option ℕ) → IfSome o (λ k. crane_of sched j ≡ k) → Among (cranes_by inst j o) (crane_of sched j)
      by (Some k) same = inl (sym same)
      by None same =
          among_filter (reaches inst j) (range_with_len 0 (length inst.cranes)) (crane_of sched j)
          (among_range (crane_of sched j) 0 (length inst.cranes) (omega arith) (omega (arith, f.crane_range j low)))
          (let r = f.reach j low in and_from _ _ (T_true r.0.le) (T_true r.1.le))

  too_near : (i j : ℕ) → i < length inst.tasks → j < length inst.tasks → clash inst cranes i j ≡ true
      → (crane_of sched i ≡ crane_of sched j) ⊎ (0 < task_distance inst i (crane_of sched i) j (crane_of sched j))
  too_near i j low high t =
      let v = crane_of sched i in
      let w = crane_of sched j in
      let row = all_at (λ v. list_all (λ w. eqb v w || nat_lt 0 (task_distance inst i v j w)) (cranes_for inst cranes j)) (cranes_for inst cranes i) v (may_do i low) t in
      let cell = all_at (λ w. eqb v w || nat_lt 0 (task_distance inst i v j w)) (cranes_for inst cranes j) w (may_do j high) row in
      elim (or_cases (eqb v w) (nat_lt 0 (task_distance inst i v j w)) cell) [
        | inl same ↦ inl (eqb-true v w same)
        | inr far ↦ inr (ltb-true 0 (task_distance inst i v j w) far)
      ]

  all_clear : (tasks : List ℕ) → ((j : ℕ) → Among tasks j → j < length inst.tasks) → all_differ tasks ≡ true
      → all_clash inst cranes tasks ≡ true
      → AllClear (starts_at inst sched f) (lasts inst sched f) (between inst sched f) tasks
  all_clear [] range differ clash_all = tt
  all_clear (i ∷ is) range differ clash_all =
      let others = and_parts (list_all (λ j. not (eqb i j)) is) (all_differ is) differ in
      let clashes = and_parts (list_all (clash inst cranes i) is) (all_clash inst cranes is) clash_all in (
        λ j a.
            let other = not-true (eqb i j) (all_at (λ j. not (eqb i j)) is j a others.0) in
            let near = too_near i j (range i (inl refl)) (range j (inr a)) (all_at (clash inst cranes i) is j a clashes.0) in
            clear inst sched f i j (range i (inl refl)) (range j (inr a)) (eqb-false i j other) near,
        all_clear is (λ j a. range j (inr a)) others.1 clashes.1,
      )

  abbrev lies : ℕ → ℤ
  lies j = place_of inst sched f j

  -- the tasks lie from that which lies lowest for its crane to that which lies highest
  span_le : (tasks : List ℕ) (i k : ℕ) → ((j : ℕ) → Among tasks j → j < length inst.tasks) → Among tasks i
      → Among tasks k → ((j : ℕ) → Among tasks j → lies i ≤ℤ lies j) → ((j : ℕ) → Among tasks j → lies j ≤ℤ lies k)
      → span inst cranes tasks ≤ bays_between (lies i) (lies k)
  span_le tasks i k range is_i is_k low high =
      let least = least_at (stretches inst cranes tasks) (bays_up (lies i) (lies k)) stretch in
      omega (arith, least)
    where
      at : (j : ℕ) → Among tasks j → Among (places inst cranes tasks) (lies j)
      at j a =
          among_flat (λ j. map (place inst j) (cranes_for inst cranes j)) tasks j (lies j) a
          (among_map (place inst j) (cranes_for inst cranes j) (crane_of sched j) (may_do j (range j a)))

      inside : (j : ℕ) → Among tasks j → may_lie inst cranes (lies i) (lies k) j ≡ true
      inside j a =
          let within = and_from (int_le (lies i) (lies j)) (int_le (lies j) (lies k)) (T_true (low j a).le) (T_true (high j a).le) in
          any_from (λ v. int_le (lies i) (place inst j v) && int_le (place inst j v) (lies k)) (cranes_for inst cranes j)
          (crane_of sched j) (may_do j (range j a)) within

      stretch : Among (stretches inst cranes tasks) (bays_up (lies i) (lies k))
      stretch =
          let here = places inst cranes tasks in
          among_flat
          (λ low. map (λ high. bays_up low high) (filter (λ high. list_all (may_lie inst cranes low high) tasks) here))
          here (lies i) (bays_up (lies i) (lies k)) (at i is_i)
          (among_map (λ high. bays_up (lies i) high) (filter (λ high. list_all (may_lie inst cranes (lies i) high) tasks) here) (lies k)
          (among_filter (λ high. list_all (may_lie inst cranes (lies i) high) tasks) here (lies k) (at k is_k)
          (all_from (may_lie inst cranes (lies i) (lies k)) tasks inside)))

  either_way : (i j : ℕ) → (lies i ≤ℤ lies j) ⊎ (lies j ≤ℤ lies i)
  either_way i j = by_lt_z (lies i) (lies j) (λ h. inl (omega (arith, ints))) (λ h. inr h)

  packed_end : (early : ℕ → ℕ) (tasks : List ℕ) → ((j : ℕ) → Contains tasks j → early j ≤ start_of sched j)
      → is_packed inst cranes tasks ≡ true
      → least (map early tasks) + (ticks_over inst tasks + inst.travel * span inst cranes tasks) ≤ ends inst sched
  packed_end early [] first t =
      let some = and_parts (nat_lt 0 0) true t in absurd (false≢true some.0)
  packed_end early (j ∷ js) first t =
      let tasks = j ∷ js in
      let clashing = and_parts (nat_lt 0 (length tasks) && list_all (is_doable inst cranes) tasks && all_differ tasks) (all_clash inst cranes tasks) t in
      let differing = and_parts (nat_lt 0 (length tasks) && list_all (is_doable inst cranes) tasks) (all_differ tasks) clashing.0 in
      let doable = and_parts (nat_lt 0 (length tasks)) (list_all (is_doable inst cranes) tasks) differing.0 in
      let range = λ (i : ℕ) (a : Among tasks i). in_range i (all_at (is_doable inst cranes) tasks i a doable.1) in
      let low = first_of (λ i k. lies i ≤ℤ lies k) either_way (λ i k l p q. omega (arith, ints)) j js in
      let high = first_of (λ i k. lies k ≤ℤ lies i) (λ i k. either_way k i) (λ i k l p q. omega (arith, ints)) j js in
      let so_long =
      take_so_long inst sched f tasks (least (map early tasks)) range
      (λ i a. omega (arith, least_at (map early tasks) (early i) (among_map early tasks i a), first i (contains_of tasks i a)))
      (all_clear tasks range differing.1 clashing.1) low.one high.one low.is_one high.is_one in
      let narrow = span_le tasks low.one high.one range low.is_one high.is_one low.first high.first in
      omega (arith, so_long, mul-le-mul_left inst.travel narrow)
    where
      in_range : (i : ℕ) → is_doable inst cranes i ≡ true → i < length inst.tasks
      in_range i t = ltb-true i (length inst.tasks) (and_parts (nat_lt i (length inst.tasks)) (nat_lt 0 (length (cranes_for inst cranes i))) t).0

-- a schedule ends no earlier than packed tasks allow
pub pack_end_le : (inst : InstanceView) (cranes : List (Option ℕ)) (tasks : List ℕ) (ticks : ℕ)
    → pack inst cranes tasks ≡ Some ticks → IsPackBound inst cranes tasks ticks
pack_end_le inst cranes tasks ticks e sched f follows early first =
    let Shows : Option ℕ → Type 0 = λ o. IfSome o (λ n. least (map early tasks) + n ≤ ends inst sched) in
    subst Shows e
    (cond_both (is_packed inst cranes tasks) _ None Shows (λ t. packed_end inst sched f cranes follows early tasks first t) (λ _. tt))
