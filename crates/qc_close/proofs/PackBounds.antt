-- What packed tasks come to at most, and that they may be listed.
use Rattle.std.proofs.Common.{[], ◌≡◌, ℕ, ◌+◌, ◌*◌, ◌<◌, ◌≤◌, inl, inr, true, List, ◌∷◌, length, map, Option, None, Some, IfSome, IsSome, ℤ, refl, sym, subst, ◌∙◌, arith, filter, nat_lt}
use Rattle.std.specs.List.{list_all}
use Rattle.std.proofs.lemmas.Bool.{cases_lt, cond_both, lt-ltb}
use Rattle.std.proofs.lemmas.List.{get_or_past}
use Rattle.std.proofs.lemmas.List.FromFn.{length-map-range_with_len}
use Rattle.std.proofs.lemmas.Nat.{mul-le}
use Rattle.qc_dist.proofs.Bounds.{ticks_over_bounded}
use Rattle.qc_dist.proofs.Facts.{assigned_range}
use Rattle.qc_close.specs.Model.{Decision, AreInRange, crane_in, cranes_by, cranes_for, cranes_of, place, bays_up, InstanceView, Valid, Fits, assigned, least, reaches, most_distance, most_tasks, most_work, is_packed, may_lie, pack, places, span, stretches, crane_numbers, ticks_over}
use Rattle.qc_model.proofs.Bays.{bays}
use Rattle.qc_model.proofs.LimitsOf.{limits_of}
use Rattle.qc_close.specs.Bands.{IsPlace}
use Rattle.qc_close.proofs.DecidedCranes.{crane_decided}
use Rattle.qc_close.proofs.LoopLemmas.{near_place}
use Rattle.qc_close.proofs.Members.{Among, all_from, contains_of, filter_among, flat_among, least_at, map_among, range_among}
use Rattle.qc_close.proofs.SpanLemmas.{packed_few, packed_range}

-- the cranes of a node's tasks are those of the instance
pub cranes_range : (inst : InstanceView) (ds : List Decision) → Fits inst ds → AreInRange inst (cranes_of inst ds)
cranes_range inst ds fits j k e = elim (cases_lt j (length inst.tasks)) [
  | inl low ↦
      subst (λ (o : Option ℕ). IfSome o (λ k. k < length inst.cranes)) (sym (crane_decided inst ds j low) ∙ e)
      (assigned_range inst ds fits j)
  | inr past ↦
      let all = length-map-range_with_len (assigned ds) 0 (length inst.tasks) in
      let none : crane_in (cranes_of inst ds) j ≡ None =
      get_or_past (cranes_of inst ds) j None (omega (arith, all, past)) in
      absurd (cc (none, e))
]

-- what may be listed: some tasks of the instance, and no more than there are
pub record AreListed (inst : InstanceView) (tasks : List ℕ) : Type 0 where
  pub some : 1 ≤ length tasks
  pub few : length tasks ≤ length inst.tasks
  pub below : list_all (λ j. nat_lt j (length inst.tasks)) tasks ≡ true

module _ (inst : InstanceView) (cranes : List (Option ℕ)) (tasks : List ℕ) (t : is_packed inst cranes tasks ≡ true) where
  packed_low : (j : ℕ) → Among tasks j → j < length inst.tasks
  packed_low j a =
      let c = contains_of tasks j a in
      subst (λ (i : ℕ). i < length inst.tasks) c.2 (packed_range inst cranes tasks t c.0 j c.1)

pub packed_listed : (inst : InstanceView) (cranes : List (Option ℕ)) (tasks : List ℕ)
    → is_packed inst cranes tasks ≡ true → AreListed inst tasks
packed_listed inst cranes [] t = absurd (cc t)
packed_listed inst cranes (j ∷ js) t = record {
  some = omega arith;
  few = packed_few inst cranes (j ∷ js) t;
  below = all_from (λ i. nat_lt i (length inst.tasks)) (j ∷ js)
      (λ i a. lt-ltb i (length inst.tasks) (packed_low inst cranes (j ∷ js) t i a));
}

least_few : (m : ℕ) (xs : List ℕ) → ((x : ℕ) → Among xs x → x ≤ m) → least xs ≤ m
least_few m [] few = omega arith
least_few m (x ∷ xs) few = omega (arith, few x (inl refl), least_at (x ∷ xs) x (inl refl))

up_few : (x y : ℤ) → IsPlace x → IsPlace y → bays_up x y ≤ 60000
up_few x y h k = omega (arith, bays, h.0, h.1, k.0, k.1)

module _ (inst : InstanceView) (valid : Valid inst) (cranes : List (Option ℕ)) (range : AreInRange inst cranes) where
  crane_low : (j v : ℕ) (o : Option ℕ) → crane_in cranes j ≡ o → Among (cranes_by inst j o) v → v < length inst.cranes
  crane_low j v (Some k) e (inl same) = subst (λ (n : ℕ). n < length inst.cranes) same (range j k e)
  crane_low j v (Some k) e (inr a) = absurd a
  crane_low j v None e a =
      let all = filter_among (reaches inst j) (crane_numbers inst) v a in
      let low = range_among v 0 (length inst.cranes) all.0 in
      omega (arith, low.1)

  module _ (tasks : List ℕ) (t : is_packed inst cranes tasks ≡ true) where
    place_near : (x : ℤ) → Among (places inst cranes tasks) x → IsPlace x
    place_near x a =
        let task = flat_among (λ (j : ℕ). map (place inst j) (cranes_for inst cranes j)) tasks x a in
        let crane = map_among (place inst task.0) (cranes_for inst cranes task.0) x task.2 in
        let low = crane_low task.0 crane.0 (crane_in cranes task.0) refl crane.1 in
        let limits = limits_of inst valid in
        let gaps = mul-le inst.gap crane.0 2000 8 limits.gap.1 (omega (arith, low, limits.cranes)) in
        subst IsPlace crane.2
        (near_place inst valid task.0 crane.0 (packed_low inst cranes tasks t task.0 task.1) (omega (arith, gaps)))

    stretch_few : (n : ℕ) → Among (stretches inst cranes tasks) n → n ≤ 60000
    stretch_few n a =
        let all = places inst cranes tasks in
        let within = λ (low high : ℤ). list_all (may_lie inst cranes low high) tasks in
        let low = flat_among (λ (low : ℤ). map (λ (high : ℤ). bays_up low high) (filter (within low) all)) all n a in
        let high = map_among (λ (high : ℤ). bays_up low.0 high) (filter (within low.0) all) n low.2 in
        let there = filter_among (within low.0) all high.0 high.1 in
        subst (λ (m : ℕ). m ≤ 60000) high.2
        (up_few low.0 high.0 (place_near low.0 low.1) (place_near high.0 there.0))

    ticks_few : ticks_over inst tasks + inst.travel * span inst cranes tasks ≤ most_tasks * most_work + most_distance
    ticks_few =
        let limits = limits_of inst valid in
        let work = ticks_over_bounded inst valid tasks in
        let few = packed_few inst cranes tasks t in
        let way = mul-le inst.travel (span inst cranes tasks) 10000 60000 limits.travel
        (least_few 60000 (stretches inst cranes tasks) stretch_few) in
        omega (arith, work, few, way, valid.tasks.count)

  -- packed tasks need no more ticks than this
  pub pack_few : (tasks : List ℕ) → IfSome (pack inst cranes tasks) (λ n. n ≤ most_tasks * most_work + most_distance)
  pack_few tasks =
      cond_both (is_packed inst cranes tasks) (Some (ticks_over inst tasks + inst.travel * span inst cranes tasks)) None
      (λ o. IfSome o (λ n. n ≤ most_tasks * most_work + most_distance)) (λ t. ticks_few tasks t) (λ _. tt)

-- what needs ticks is packed
pub some_packed : (inst : InstanceView) (cranes : List (Option ℕ)) (tasks : List ℕ) → IsSome (pack inst cranes tasks)
    → is_packed inst cranes tasks ≡ true
some_packed inst cranes tasks =
    cond_both (is_packed inst cranes tasks) (Some (ticks_over inst tasks + inst.travel * span inst cranes tasks)) None
    (λ o. IsSome o → is_packed inst cranes tasks ≡ true) (λ t _. t) (λ _ none. absurd (cc none))
