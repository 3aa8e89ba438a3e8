-- What a node asks for holds of every schedule of the instance's turn that agrees with it.
use Rattle.std.proofs.Common.{◌≡◌, ℕ, zero, suc, ◌+◌, ◌*◌, ◌<◌, ◌≤◌, max, Bool, true, false, eqb, ◌&&◌, ◌==◌, inl, inr, T, List, [], ◌∷◌, length, get_or, map, Contains, Option, None, Some, IfSome, IsSome, is_some, ◌≢◌, ◌⊎◌, ℤ, refl, ap, sym, subst, subst₂, ◌∙◌, arith, mul-zero, pos_of_ne-zero, int_lt, nat_lt, slice_index}
use Rattle.std.proofs.lemmas.Bool.{and_from, and_parts, cases_eq, cases_lt, cond-true, cond_both, eq-eqb, eqb-false, eqb-true, false_from_ne_true, false≢true, le-ltb, ltb-true, or_cases, or_left, or_right}
use Rattle.std.proofs.lemmas.List.{length-map}
use Rattle.std.proofs.lemmas.List.Folds.{list_any_at}
use Rattle.std.specs.List.{list_any, range_with_len}
use Rattle.qc_model.specs.declared.decision.Decision.{Decision}
use Rattle.qc_model.specs.declared.decision.Decision.TheVariants.{Assign, Order}
use Rattle.qc_model.specs.declared.pair.Pair.{Pair}
use Rattle.qc_model.specs.declared.schedule.Slot.{Slot}
use Rattle.qc_model.specs.declared.task.Task.{Task}
use Rattle.qc_model.specs.declared.turn.Turn.{Turn}
use Rattle.qc_model.specs.declared.turn.Turn.TheVariants.{OneWay, Free}
use Rattle.qc_model.specs.Bays.{bays_between}
use Rattle.qc_model.specs.Frames.{GoesBy}
use Rattle.qc_model.specs.Instance.{InstanceView, IsApart, IsBefore, Valid, bay_of, no_task, pair_of, ticks_of}
use Rattle.qc_model.specs.Nodes.{Agrees, Clash, Conflicts, Fits, IsInReach, IsSettled, Meets, assigned, berth_wait, clear_ticks, crane_ticks, forced, free, greater, greatest, head_by, is_before, is_in_reach, is_ordered, is_sooner, pair_ticks, reaches, separation, sooner_ticks, upward_ticks}
use Rattle.qc_model.specs.OneWay.{GoesUp}
use Rattle.qc_model.specs.Rules.{Feasible, KeepsReach, crane_of, end_of, last_end, slot_distance, start_of, starts}
use Rattle.qc_model.specs.Ticks.{berth_distance, distance, lead, task_distance, travel_between}
use Rattle.qc_model.proofs.Bays.{bays}
use Rattle.qc_model.proofs.Extremes.{greatest_le, least_le}
use Rattle.qc_model.proofs.GoesLemmas.{distance_swapped}
use Rattle.qc_model.proofs.PairOrder.{same_pair}
use Rattle.qc_model.proofs.TurnLemmas.{by_feasible, two_turns}

-- ---- steps: numbers that may be missing

-- a step, where there is one, leads from s to t at the latest
abbrev pub IsStep : ℕ → ℕ → Option ℕ → Type 0
IsStep s t step = IfSome step (λ n. s + n ≤ t)

pub if_some : (o : Option ℕ) (P : ℕ → Type 0) → ((n : ℕ) → o ≡ Some n → P n) → IfSome o P
if_some None P h = tt
if_some (Some n) P h = h n refl

pub greater_keeps : (P : ℕ → Type 0) (a b : Option ℕ) → IfSome a P → IfSome b P → IfSome (greater a b) P
greater_keeps P None b h k = k
greater_keeps P (Some m) None h k = h
greater_keeps P (Some m) (Some n) h k = elim (cases_lt m n) [
  | inl l ↦ let e : max m n ≡ n = omega arith in subst P (sym e) k
  | inr l ↦ let e : max m n ≡ m = omega arith in subst P (sym e) h
]

greater_some : (n : ℕ) (o : Option ℕ) → IsSome (greater (Some n) o)
greater_some n None = refl
greater_some n (Some m) = refl

-- what is ordered is forced
ordered_forced : (inst : InstanceView) (ds : List Decision) (i j : ℕ) → is_ordered ds i j ≡ true
    → IsSome (forced inst ds i j)
ordered_forced inst ds i j t =
    let cranes = crane_ticks inst (is_sooner inst ds i j) i j (assigned ds i) (assigned ds j) in
    let sooner : is_sooner inst ds i j ≡ true = or_right (is_before inst i j) (is_ordered ds i j) t in
    let ticks : sooner_ticks inst ds i j ≡ Some (ticks_of inst i) = cond-true (is_sooner inst ds i j) _ None sooner in
    subst (λ (o : Option ℕ). IsSome (greater o cranes)) (sym ticks) (greater_some (ticks_of inst i) cranes)

-- one of two settled tasks is forced after the other; which of them is named first doesn't matter
pub settled_cases : (inst : InstanceView) (ds : List Decision) (i j : ℕ) → IsSettled inst ds i j
    → IsSome (forced inst ds i j) ⊎ IsSome (forced inst ds j i)
settled_cases inst ds i j = or_cases (is_some (forced inst ds i j)) (is_some (forced inst ds j i))

pub settled_by : (inst : InstanceView) (ds : List Decision) (i j : ℕ)
    → IsSome (forced inst ds i j) ⊎ IsSome (forced inst ds j i) → IsSettled inst ds i j
settled_by inst ds i j (inl some) = or_left (is_some (forced inst ds i j)) (is_some (forced inst ds j i)) some
settled_by inst ds i j (inr some) = or_right (is_some (forced inst ds i j)) (is_some (forced inst ds j i)) some

pub settled_turned : (inst : InstanceView) (ds : List Decision) (i j : ℕ) → IsSettled inst ds i j → IsSettled inst ds j i
settled_turned inst ds i j settled = elim (settled_cases inst ds i j settled) [
  | inl some ↦ settled_by inst ds j i (inr some)
  | inr some ↦ settled_by inst ds j i (inl some)
]

-- two tasks of which neither is forced after the other aren't ordered
pub unsettled_unordered : (inst : InstanceView) (ds : List Decision) (i j : ℕ) → (¬ IsSettled inst ds i j)
    → (is_ordered ds i j ≡ false) × (is_ordered ds j i ≡ false)
unsettled_unordered inst ds i j unsettled = (
  false_from_ne_true (is_ordered ds i j) (λ h. unsettled (settled_by inst ds i j (inl (ordered_forced inst ds i j h)))),
  false_from_ne_true (is_ordered ds j i) (λ h. unsettled (settled_by inst ds i j (inr (ordered_forced inst ds j i h)))),
)

-- ---- tasks that conflict

pub conflict_inside : (inst : InstanceView) → Valid inst → (ds : List Decision) (i j : ℕ) → Conflicts inst ds i j
    → (i < length inst.tasks) × (j < length inst.tasks)
conflict_inside inst v ds i j (inl (inl at)) = let r = v.apart.range i j at in (omega (arith, r.0, r.1), r.1)
conflict_inside inst v ds i j (inl (inr at)) = let r = v.apart.range j i at in (r.1, omega (arith, r.0, r.1))
conflict_inside inst v ds i j (inr clash) = (clash.first, clash.second)

pub conflict_differs : (inst : InstanceView) → Valid inst → (ds : List Decision) (i j : ℕ) → Conflicts inst ds i j → i ≢ j
conflict_differs inst v ds i j (inl (inl at)) same = let r = v.apart.range i j at in absurd (omega (arith, r.0, same))
conflict_differs inst v ds i j (inl (inr at)) same = let r = v.apart.range j i at in absurd (omega (arith, r.0, same))
conflict_differs inst v ds i j (inr clash) same = clash.differ same

clash_turned : (inst : InstanceView) (ds : List Decision) (i j : ℕ) → Clash inst ds i j → Clash inst ds j i
clash_turned inst ds i j clash = record {
  free = clash.free;
  first = clash.second;
  second = clash.first;
  differ = λ same. clash.differ (sym same);
  first_crane = clash.second_crane;
  second_crane = clash.first_crane;
  of_first = clash.of_second;
  of_second = clash.of_first;
  near = elim clash.near [
    | inl same ↦ inl (sym same)
    | inr near ↦
        let e = distance_swapped inst clash.first_crane (bay_of inst i) clash.second_crane (bay_of inst j) in
        inr (omega (arith, e, near))
  ];
}

pub conflict_turned : (inst : InstanceView) (ds : List Decision) (i j : ℕ) → Conflicts inst ds i j → Conflicts inst ds j i
conflict_turned inst ds i j (inl (inl at)) = inl (inr at)
conflict_turned inst ds i j (inl (inr at)) = inl (inl at)
conflict_turned inst ds i j (inr clash) = inr (clash_turned inst ds i j clash)

-- where cranes go one way, only apart tasks conflict
pub one_way_apart : (inst : InstanceView) → inst.turn ≡ OneWay → (ds : List Decision) (i j : ℕ) → Conflicts inst ds i j
    → IsApart inst i j ⊎ IsApart inst j i
one_way_apart inst one ds i j (inl at) = at
one_way_apart inst one ds i j (inr clash) = absurd (two_turns (sym one ∙ clash.free))

-- ---- what the decisions say

module _ (inst : InstanceView) (sched : List Slot) where
  pub assigned_is : (ds : List Decision) → Agrees inst ds sched → (j : ℕ)
      → IfSome (assigned ds j) (λ k. crane_of sched j ≡ k)
  assigned_is [] a j = tt
  assigned_is (Order i k ∷ ds) a j = assigned_is ds a.1 j
  assigned_is (Assign i k ∷ ds) a j =
      cond_both (eqb i j) (Some k) (assigned ds j) (λ o. IfSome o (λ v. crane_of sched j ≡ v))
      (λ same. ap (crane_of sched) (sym (eqb-true i j same)) ∙ a.0)
      (λ other. assigned_is ds a.1 j)

  pub ordered_is : (ds : List Decision) → Agrees inst ds sched
      → (i j : ℕ) → is_ordered ds i j ≡ true → end_of inst sched i ≤ start_of sched j
  ordered_is [] a i j t = absurd (false≢true t)
  ordered_is (Assign g k ∷ ds) a i j t = ordered_is ds a.1 i j t
  ordered_is (Order g k ∷ ds) a i j t = elim (or_cases (eqb g i && eqb k j) (is_ordered ds i j) t) [
    | inl e ↦
        let p = and_parts (eqb g i) (eqb k j) e in
        subst₂ (λ (x y : ℕ). end_of inst sched x ≤ start_of sched y) (eqb-true g i p.0) (eqb-true k j p.1) a.0
    | inr e ↦ ordered_is ds a.1 i j e
  ]

-- ---- pairs, bays and starts

abbrev is_pair : ℕ → ℕ → Pair → Bool
is_pair i j pair = (pair.first == i) && (pair.second == j)

pub before_found : (i j : ℕ) (pairs : List Pair) → list_any (is_pair i j) pairs ≡ true
    → Contains pairs (pair_of i j)
before_found i j [] t = absurd (false≢true t)
before_found i j (p ∷ ps) t = elim (or_cases (is_pair i j p) (list_any (is_pair i j) ps) t) [
  | inl e ↦
      let parts = and_parts (eqb p.first i) (eqb p.second j) e in
      (0, omega arith, same_pair p (pair_of i j) (eqb-true p.first i parts.0) (eqb-true p.second j parts.1))
  | inr e ↦ let c = before_found i j ps e in (suc c.0, omega (arith, c.1), c.2)
]

pub pair_listed : (i j : ℕ) (pairs : List Pair) → Contains pairs (pair_of i j) → list_any (is_pair i j) pairs ≡ true
pair_listed i j pairs at =
    let itself = and_from (eqb i i) (eqb j j) (eq-eqb i i refl) (eq-eqb j j refl) in
    let found = subst (λ (p : Pair). is_pair i j p ≡ true) (sym at.2) itself in
    list_any_at (is_pair i j) pairs at.0 (pair_of i j) at.1 found

pub sooner_before : (inst : InstanceView) (ds : List Decision) (i j : ℕ) → IsBefore inst i j
    → is_sooner inst ds i j ≡ true
sooner_before inst ds i j b = or_left (is_before inst i j) (is_ordered ds i j) (pair_listed i j inst.before b)

pub T_true : {b : Bool} → T b → b ≡ true
T_true {b = true} t = refl
T_true {b = false} t = absurd t

pub true_T : {b : Bool} → b ≡ true → T b
true_T e = subst T (sym e) tt

within_reach : (inst : InstanceView) (sched : List Slot) (j : ℕ) → KeepsReach inst sched j
    → reaches inst j (crane_of sched j) ≡ true
within_reach inst sched j r = and_from _ _ (T_true r.0.le) (T_true r.1.le)

pub one_crane_apart : (inst : InstanceView) (v w : ℕ) (x y : ℤ) → v ≡ w → distance inst v x w y ≡ 0
one_crane_apart inst v w x y e =
    let p : w ≤ v = omega arith in
    let q : v ≤ w = omega arith in
    rw (le-ltb v w p, le-ltb w v q) (mul-zero inst.travel)

pub start_at : (sched : List Slot) (j : ℕ) → slice_index (starts sched) j ≡ start_of sched j
start_at [] j = refl
start_at (slot ∷ slots) zero = refl
start_at (slot ∷ slots) (suc j) = start_at slots j

-- every task ends by the last end
pub ends_by : (tasks : List Task) (begins : List ℕ) (j : ℕ) → length begins ≡ length tasks
    → j < length tasks
    → slice_index begins j + (get_or tasks j no_task).ticks ≤ last_end tasks begins
ends_by [] begins j e low = absurd (omega arith)
ends_by (t ∷ ts) [] j e low = absurd (omega arith)
ends_by (t ∷ ts) (s ∷ ss) zero e low = omega arith
ends_by (t ∷ ts) (s ∷ ss) (suc j) e low =
    let rest = ends_by ts ss j (omega arith) (omega arith) in omega arith

-- ---- what the cranes ask for holds

-- where it is known which of two is first, they are clear of each other that way
clear_step : (s p t q n : ℕ) → s + p ≤ t → (s + p + n ≤ t) ⊎ (t + q + n ≤ s) → s + (p + n) ≤ t
clear_step s p t q n first (inl h) = omega arith
clear_step s p t q n first (inr h) = omega arith

module _ (inst : InstanceView) (sched : List Slot) where
  upward_kept : GoesUp inst sched → (i j v w : ℕ) → i < length inst.tasks → j < length inst.tasks
      → crane_of sched i ≡ v → crane_of sched j ≡ w
      → IsStep (start_of sched i) (start_of sched j) (upward_ticks inst i v j w)
  upward_kept g i j v w low high c d =
      cond_both (eqb v w) _ _ (IsStep (start_of sched i) (start_of sched j))
      (λ same. cond_both (int_lt (bay_of inst i) (bay_of inst j)) _ _ (IsStep (start_of sched i) (start_of sched j))
      (λ up. g.upward.one_crane i j low high (c ∙ eqb-true v w same ∙ sym d) (record { lt = true_T up }))
      (λ _. tt))
      (λ _. cond_both (nat_lt w v && nat_lt 0 (task_distance inst i v j w)) _ _ (IsStep (start_of sched i) (start_of sched j))
      (λ both.
      let parts = and_parts (nat_lt w v) (nat_lt 0 (task_distance inst i v j w)) both in
      let leads =
      λ (x y : ℕ). y < x → 0 < task_distance inst i x j y → start_of sched i + lead inst i x j y ≤ start_of sched j in
      subst₂ leads c d (g.upward.two_cranes i j low high) (ltb-true w v parts.0) (ltb-true 0 _ parts.1))
      (λ _. tt))

  -- a task that is first is clear of the second by their separation
  pub separation_kept : Feasible inst sched → (i j : ℕ) → i < length inst.tasks → j < length inst.tasks
      → end_of inst sched i ≤ start_of sched j
      → start_of sched i + (ticks_of inst i + separation inst i (crane_of sched i) j (crane_of sched j)) ≤ start_of sched j
  separation_kept f i j low high first =
      cond_both (eqb (crane_of sched i) (crane_of sched j)) _ _ (λ n. start_of sched i + (ticks_of inst i + n) ≤ start_of sched j)
      (λ same. elim (cases_eq i j) [
        | inl one ↦ omega (arith, still (bay_of inst i) (bay_of inst j) (ap (bay_of inst) one))
        | inr differ ↦ clear_step _ _ _ (ticks_of inst j) _ first
            (f.travel i j low high differ (eqb-true (crane_of sched i) (crane_of sched j) same))
      ])
      (λ other. elim (cases_lt 0 (slot_distance inst sched i j)) [
        | inl near ↦ clear_step _ _ _ (ticks_of inst j) _ first
            (f.margin i j low high (eqb-false (crane_of sched i) (crane_of sched j) other) near)
        | inr far ↦ omega arith
      ])
    where
      here : (x y : ℤ) → x ≡ y → bays_between x y ≡ 0
      here x y e = omega (arith, bays)

      still : (x y : ℤ) → x ≡ y → travel_between inst x y ≡ 0
      still x y e = ap (λ n. inst.travel * n) (here x y e) ∙ mul-zero inst.travel

  pair_kept : (turn : Turn) → GoesBy turn inst sched → (i j v w : ℕ) → i < length inst.tasks → j < length inst.tasks
      → crane_of sched i ≡ v → crane_of sched j ≡ w
      → (sooner : Bool) → (sooner ≡ true → end_of inst sched i ≤ start_of sched j)
      → IsStep (start_of sched i) (start_of sched j) (pair_ticks turn inst sooner i v j w)
  pair_kept OneWay g i j v w low high c d sooner first = upward_kept g i j v w low high c d
  pair_kept Free f i j v w low high c d sooner first =
      subst₂ (λ (x y : ℕ). IsStep (start_of sched i) (start_of sched j) (clear_ticks inst sooner i x j y)) c d
      (cond_both sooner _ _ (IsStep (start_of sched i) (start_of sched j))
      (λ t. separation_kept f i j low high (first t))
      (λ _. tt))

-- ---- a schedule of the instance's turn that agrees with a node meets it

module _ (inst : InstanceView) (ds : List Decision) (sched : List Slot) (g : GoesBy inst.turn inst sched)
    (a : Agrees inst ds sched) where
  feasible : Feasible inst sched
  feasible = by_feasible inst.turn inst sched g

  sooner_kept : (i j : ℕ) → i < length inst.tasks → j < length inst.tasks → is_sooner inst ds i j ≡ true
      → end_of inst sched i ≤ start_of sched j
  sooner_kept i j low high t = elim (or_cases (list_any (is_pair i j) inst.before) (is_ordered ds i j) t) [
    | inl e ↦ feasible.before i j low high (before_found i j inst.before e)
    | inr e ↦ ordered_is inst sched ds a i j e
  ]

  cranes_kept : (i j : ℕ) → i < length inst.tasks → j < length inst.tasks → (p q : Option ℕ)
      → IfSome p (λ k. crane_of sched i ≡ k) → IfSome q (λ k. crane_of sched j ≡ k)
      → IsStep (start_of sched i) (start_of sched j) (crane_ticks inst (is_sooner inst ds i j) i j p q)
  cranes_kept i j low high None q c d = tt
  cranes_kept i j low high (Some v) None c d = tt
  cranes_kept i j low high (Some v) (Some w) c d =
      pair_kept inst sched inst.turn g i j v w low high c d (is_sooner inst ds i j) (sooner_kept i j low high)

  forced_kept : (i j : ℕ) → i < length inst.tasks → j < length inst.tasks
      → IsStep (start_of sched i) (start_of sched j) (forced inst ds i j)
  forced_kept i j low high =
      greater_keeps (λ n. start_of sched i + n ≤ start_of sched j)
      (sooner_ticks inst ds i j) (crane_ticks inst (is_sooner inst ds i j) i j (assigned ds i) (assigned ds j))
      (cond_both (is_sooner inst ds i j) _ _ (IsStep (start_of sched i) (start_of sched j))
      (λ t. sooner_kept i j low high t)
      (λ _. tt))
      (cranes_kept i j low high (assigned ds i) (assigned ds j)
      (assigned_is inst sched ds a i) (assigned_is inst sched ds a j))

  free_kept : (j : ℕ) → j < length inst.tasks → free inst j (crane_of sched j) ≤ start_of sched j
  free_kept j low = omega (arith, (feasible.ready j low).0, (feasible.ready j low).1, berths)
    where
      waits : (v : ℕ) → v < 0 + length inst.cranes
          → berth_wait inst j (crane_of sched j) v ≤ start_of sched j
      waits v high =
          cond_both (eqb (berth_distance inst v (crane_of sched j) (bay_of inst j)) 0) _ _ (λ n. n ≤ start_of sched j)
          (λ _. omega arith)
          (λ away.
          let far = eqb-false (berth_distance inst v (crane_of sched j) (bay_of inst j)) 0 away in
          let differ = λ (e : v ≡ crane_of sched j). far (one_crane_apart inst v (crane_of sched j) _ _ e) in
          feasible.berth j v low (omega arith) differ (omega (arith, pos_of_ne-zero far)))

      berths : greatest (map (berth_wait inst j (crane_of sched j)) (range_with_len 0 (length inst.cranes)))
          ≤ start_of sched j
      berths =
          greatest_le (berth_wait inst j (crane_of sched j)) (start_of sched j) 0 (length inst.cranes) waits

  head_kept : (j : ℕ) → j < length inst.tasks → (o : Option ℕ) → IfSome o (λ k. crane_of sched j ≡ k)
      → head_by inst j o ≤ start_of sched j
  head_kept j low (Some k) is = subst (λ (v : ℕ). free inst j v ≤ start_of sched j) is (free_kept j low)
  head_kept j low None is =
      let range = feasible.crane_range j low in
      let reach = within_reach inst sched j (feasible.reach j low) in
      omega (
        arith,
        free_kept j low,
        least_le (free inst j) (reaches inst j) (crane_of sched j) 0 (length inst.cranes) (omega arith) (omega arith) reach,
      )

  pub meets_by : Meets inst ds (starts sched)
  meets_by = record {
    all_tasks = length-map sched (λ slot. slot.start) ∙ feasible.all_tasks;
    heads = λ j low. omega (arith, start_at sched j, head_kept j low (assigned ds j) (assigned_is inst sched ds a j));
    steps = λ i j ticks low high e.
        let kept = subst (IsStep (start_of sched i) (start_of sched j)) e (forced_kept i j low high) in
        omega (arith, start_at sched i, start_at sched j, kept);
  }

-- and its tasks are in reach
pub in_reach_of : (inst : InstanceView) (sched : List Slot) → Feasible inst sched
    → (ds : List Decision) → Fits inst ds → Agrees inst ds sched → IsInReach inst ds
in_reach_of inst sched f [] fits a = refl
in_reach_of inst sched f (Order i j ∷ ds) fits a = in_reach_of inst sched f ds fits.3 a.1
in_reach_of inst sched f (Assign j k ∷ ds) fits a =
    let reach =
    subst (λ (v : ℕ). reaches inst j v ≡ true) a.0 (within_reach inst sched j (f.reach j fits.0)) in
    and_from (reaches inst j k) (is_in_reach inst ds) reach (in_reach_of inst sched f ds fits.3 a.1)
