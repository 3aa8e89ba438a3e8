-- The instance that is made of what is left keeps all that every instance does.
use Rattle.std.proofs.Common.{◌≡◌, ◌≢◌, ℕ, suc, ◌+◌, ◌-◌, ◌<◌, ◌≤◌, ◌⊎◌, ℤ, pos, negsuc, ◌+ℤ◌, ◌≤ℤ◌, inl, inr, Bool, true, List, [], ◌∷◌, length, map, filter, sum_by, slice_index_or, refl, sym, ap, subst, ◌∙◌, arith}
use Rattle.std.specs.Prelude.{AllPairs, Contains, ◌↔◌}
use Rattle.std.specs.List.{range_with_len}
use Rattle.std.proofs.Math.Logic.{∥∥₁_map}
use Rattle.std.proofs.lemmas.Bool.{and_parts, cases_eq, cases_order, cond_both}
use Rattle.std.proofs.lemmas.List.{get_or-map, length-map}
use Rattle.std.proofs.lemmas.List.Elements.{All-contains_itself, All-filter, All-get_or, filter_passes}
use Rattle.std.proofs.lemmas.List.FromFn.{length-map-range_with_len}
use Rattle.std.proofs.lemmas.List.Kept.{AllPairs-filter}
use Rattle.std.proofs.lemmas.List.Sums.{count_by-le-length, length-filter, sum_by-cons}
use Rattle.qc_dispatch.specs.declared.stage.Stage.TheVariants.{Waiting, Running}
use Rattle.qc_dispatch.specs.Course.{Course, is_waiting, left, stage_of}
use Rattle.qc_dispatch.specs.Promises.{Keeps}
use Rattle.qc_model.specs.declared.crane.Crane.{Crane}
use Rattle.qc_model.specs.declared.pair.Pair.{Pair}
use Rattle.qc_model.specs.declared.task.Task.{Task}
use Rattle.qc_model.specs.Instance.{HasBayLimits, HasBerths, HasPlaceLimits, HasValidApart, HasValidBefore, HasValidCranes, HasValidTasks, InstanceView, IsBefore, IsEarlier, IsFrom, IsOnRail, IsPath, Valid, bay_of, crane, no_task, pair_of, release_of, task, ticks_of}
use Rattle.qc_model.specs.Numbers.{most_ready}
use Rattle.qc_model.specs.Tasks.{task_rank}
use Rattle.qc_rest.specs.declared.stand.Stand.{Stand}
use Rattle.qc_rest.specs.Progress.{AreOver, IsLeft, number_of}
use Rattle.qc_rest.specs.Rest.{HoldsBack}
use Rattle.qc_rest.specs.RestOf.{are_left, crane_in, left_tasks, pairs_in, renumbered, rest_of, task_in}
use Rattle.qc_rest.specs.Stands.{AreStands, stand_of}
use Rattle.qc_rest.proofs.BegunLemmas.{runs_or_over}
use Rattle.qc_rest.proofs.NumberLemmas.{count_rises, numbered}
use Rattle.qc_rest.proofs.RestLemmas.{both_left, contains_of, crane_is, left_count, number_low, one_number, release_least, task_is, waits_there}
use Rattle.qc_model.proofs.NodeLemmas.{before_found, pair_listed}

-- ---- sums and lists

-- part of the numbers come to no more than all of them
sum_of_part : (f : ℕ → ℕ) (p : ℕ → Bool) (xs : List ℕ) → sum_by f (filter p xs) ≤ sum_by f xs
sum_of_part f p [] = omega arith
sum_of_part f p (x ∷ xs) =
    let rest = sum_of_part f p xs in
    let whole = sum_by-cons f x xs in
    cond_both (p x) (x ∷ filter p xs) (filter p xs) (λ (ys : List ℕ). sum_by f ys ≤ sum_by f (x ∷ xs))
    (λ _. omega (arith, rest, whole, sum_by-cons f x (filter p xs))) (λ _. omega (arith, rest, whole))

-- a sum over a list is one over its numbers
sum_of_numbers : {X : Type 0} (f : X → ℕ) (g : ℕ → ℕ) (xs : List X) (a : ℕ) (d : X)
    → ((i : ℕ) → i < length xs → g (a + i) ≡ f (slice_index_or xs i d)) → sum_by g (range_with_len a (length xs)) ≡ sum_by f xs
sum_of_numbers f g [] a d same = refl
sum_of_numbers f g (x ∷ xs) a d same =
    let here : g a ≡ f x = ap g (omega arith) ∙ same 0 (omega arith) in
    let rest = sum_of_numbers f g xs (a + 1) d (λ i low. ap g (omega arith) ∙ same (suc i) (omega arith)) in
    omega (arith, here, rest, sum_by-cons f x xs, sum_by-cons g a (range_with_len (a + 1) (length xs)))

-- a sum over a mapped list
sum_of_map : {X : Type 0} (f : X → ℕ) (h : ℕ → X) (g : ℕ → ℕ) (xs : List ℕ) → ((x : ℕ) → f (h x) ≡ g x) → sum_by f (map h xs) ≡ sum_by g xs
sum_of_map f h g [] same = refl
sum_of_map f h g (x ∷ xs) same =
    omega (arith, same x, sum_of_map f h g xs same, sum_by-cons f (h x) (map h xs), sum_by-cons g x xs)

module _ (c : Course) (over : ℕ → ℕ) (stands : List Stand) (places : ℕ → ℤ) (valid : Valid c.inst) (keeps : Keeps c)
    (known : AreOver c over) (are : AreStands c over stands)
    (short : (i start : ℕ) → stage_of c i ≡ Running start → over i ≤ c.clock + most_ready)
    (in_order : (k : ℕ) → k + 1 < length c.inst.cranes → (places k +ℤ pos c.inst.gap) ≤ℤ places (k + 1)) where
  abbrev rest : InstanceView
  rest = rest_of c over stands places

  task_at : (j : ℕ) → IsLeft c j → task rest (number_of c j) ≡ task_in c over j
  task_at j waits = task_is c over stands places valid keeps j waits

  crane_at : (k : ℕ) → k < length c.inst.cranes → crane rest k ≡ crane_in c stands places k
  crane_at k low = crane_is c over stands places valid keeps k low

  tasks_count : length rest.tasks ≡ left c
  tasks_count = length-map (left_tasks c) (task_in c over) ∙ left_count c over stands places valid keeps

  cranes_count : length rest.cranes ≡ length c.inst.cranes
  cranes_count = length-map-range_with_len (crane_in c stands places) 0 (length c.inst.cranes)

  number_at : (j : ℕ) → IsLeft c j → number_of c j < length rest.tasks
  number_at j waits = omega (arith, tasks_count, number_low c over stands places valid keeps j waits)

  by_number : (P : ℕ → Type 0) → ((j : ℕ) → IsLeft c j → P (number_of c j)) → (a : ℕ) → a < length rest.tasks → P a
  by_number P each a low =
      let is = numbered is_waiting c.stages Waiting a (omega (arith, low, tasks_count)) in
      subst P is.number (each is.at (record { task = omega (arith, is.inside, keeps.stages); waits = waits_there (stage_of c is.at) is.passes }))

  by_numbers : (P : ℕ → ℕ → Type 0) → ((i j : ℕ) → IsLeft c i → IsLeft c j → P (number_of c i) (number_of c j))
      → (a b : ℕ) → a < length rest.tasks → b < length rest.tasks → P a b
  by_numbers P each a b first second =
      by_number (λ k. P k b) (λ i here. by_number (P (number_of c i)) (λ j there. each i j here there) b second) a first

  -- numbers are in the order of the tasks
  rises : (i j : ℕ) → IsLeft c i → i < j → number_of c i < number_of c j
  rises i j waits less =
      count_rises is_waiting c.stages i j Waiting less (omega (arith, waits.task, keeps.stages)) (ap is_waiting waits.waits)

  order_back : (i j : ℕ) → IsLeft c i → IsLeft c j → number_of c i < number_of c j → i < j
  order_back i j here there less = elim (cases_order i j) [
    | inl e ↦ absurd (omega (arith, less, ap (number_of c) e))
    | inr u ↦ elim u [
      | inl lower ↦ lower
      | inr higher ↦ absurd (omega (arith, less, rises j i there higher))
    ]
  ]

  -- ---- tasks

  few : left c ≤ length c.inst.tasks
  few = omega (arith, count_by-le-length is_waiting c.stages, keeps.stages)

  work_fits : sum_by (λ t. t.ticks) rest.tasks ≤ sum_by (λ t. t.ticks) c.inst.tasks
  work_fits =
      let ticks : ℕ → ℕ = λ j. ticks_of c.inst j in
      let mapped = sum_of_map (λ (t : Task). t.ticks) (task_in c over) ticks (left_tasks c) (λ x. refl) in
      let part = sum_of_part ticks (λ j. is_waiting (stage_of c j)) (range_with_len 0 (length c.inst.tasks)) in
      let whole = sum_of_numbers (λ (t : Task). t.ticks) ticks c.inst.tasks 0 no_task (λ i low. ap ticks (omega arith)) in
      omega (arith, mapped, part, whole)

  held_short : (i j : ℕ) → HoldsBack c i j → over i ≤ c.clock + most_ready
  held_short i j holds = short i holds.start holds.runs

  tasks_valid : HasValidTasks rest
  tasks_valid = record {
    count = omega (arith, few, tasks_count, valid.tasks.count);
    bays = by_number (λ a. IsFrom (pos 1) (pos rest.bays) (bay_of rest a)) (λ j waits.
        subst (λ (t : Task). IsFrom (pos 1) (pos c.inst.bays) t.bay) (sym (task_at j waits)) (valid.tasks.bays j waits.task));
    ticks = by_number (λ a. 1 ≤ ticks_of rest a) (λ j waits.
        subst (λ (t : Task). 1 ≤ t.ticks) (sym (task_at j waits)) (valid.tasks.ticks j waits.task));
    work = omega (arith, work_fits, valid.tasks.work);
    releases = by_number (λ a. release_of rest a ≤ most_ready) (λ j waits.
        subst (λ (t : Task). t.release ≤ most_ready) (sym (task_at j waits))
        (release_least c over stands places valid keeps j most_ready (omega (arith, valid.tasks.releases j waits.task)) (λ i holds. held_short i j holds)));
    sorted = λ a b less low. by_numbers (λ a b. a < b → task_rank (task rest a) < task_rank (task rest b)) sorted_at a b (omega (arith, less, low)) low less;
    hatches = by_numbers (λ a b. (bay_of rest a ≡ bay_of rest b) ↔ ((task rest a).hatch ≡ (task rest b).hatch)) hatches_at;
  }
    where
      sorted_at : (i j : ℕ) → IsLeft c i → IsLeft c j → number_of c i < number_of c j
          → task_rank (task rest (number_of c i)) < task_rank (task rest (number_of c j))
      sorted_at i j here there less =
          subst (λ (t : Task). task_rank t < task_rank (task rest (number_of c j))) (sym (task_at i here))
          (subst (λ (t : Task). task_rank (task_in c over i) < task_rank t) (sym (task_at j there))
          (valid.tasks.sorted i j (order_back i j here there less) there.task))

      hatches_at : (i j : ℕ) → IsLeft c i → IsLeft c j
          → (bay_of rest (number_of c i) ≡ bay_of rest (number_of c j)) ↔ ((task rest (number_of c i)).hatch ≡ (task rest (number_of c j)).hatch)
      hatches_at i j here there =
          subst (λ (t : Task). (t.bay ≡ bay_of rest (number_of c j)) ↔ (t.hatch ≡ (task rest (number_of c j)).hatch)) (sym (task_at i here))
          (subst (λ (t : Task). ((task_in c over i).bay ≡ t.bay) ↔ ((task_in c over i).hatch ≡ t.hatch)) (sym (task_at j there))
          (valid.tasks.hatches i j here.task there.task))

  -- ---- cranes

  ready_fits : (k : ℕ) → k < length c.inst.cranes → (stand_of stands k).until - c.clock ≤ most_ready
  ready_fits k low = elim (are k low) [
    | inl idle ↦
        let e : (stand_of stands k).until ≡ (crane c.inst k).ready = ap (λ (s : Stand). s.until) idle.1 in
        omega (arith, e, valid.cranes.ready k low)
    | inr last ↦
        let e : (stand_of stands k).until ≡ over last.0 = ap (λ (s : Stand). s.until) last.2 in
        elim (runs_or_over c over keeps known last.0 last.1.begun) [
          | inl runs ↦ omega (arith, e, short last.0 runs.0 runs.1)
          | inr ended ↦ omega (arith, e, ended)
        ]
  ]

  lower : {k : ℕ} → k < length rest.cranes → k < length c.inst.cranes
  lower {k = k} low = subst (λ (n : ℕ). k < n) cranes_count low

  cranes_valid : HasValidCranes rest
  cranes_valid = record {
    count = (omega (arith, cranes_count, valid.cranes.count.0), omega (arith, cranes_count, valid.cranes.count.1));
    ready = λ k low. subst (λ (w : Crane). w.ready ≤ most_ready) (sym (crane_at k (lower low))) (ready_fits k (lower low));
    reach = λ k low. subst (λ (w : Crane). (pos 1 ≤ℤ w.from) × (w.from ≤ℤ w.to) × (w.to ≤ℤ pos c.inst.bays)) (sym (crane_at k (lower low)))
        (valid.cranes.reach k (lower low));
    names = λ v w less low same. valid.cranes.names v w less (lower low)
        (sym (ap (λ (u : Crane). u.name) (crane_at v (omega (arith, less, low, cranes_count)))) ∙ same
        ∙ ap (λ (u : Crane). u.name) (crane_at w (lower low)));
    order = λ k low.
        subst (λ (x : ℤ). (x +ℤ pos c.inst.gap) ≤ℤ (crane rest (k + 1)).bay) (sym (ap (λ (u : Crane). u.bay) (crane_at k (omega (arith, low, cranes_count)))))
        (subst (λ (x : ℤ). (places k +ℤ pos c.inst.gap) ≤ℤ x) (sym (ap (λ (u : Crane). u.bay) (crane_at (k + 1) (lower low)))) (in_order k (lower low)));
  }

  -- ---- pairs

  abbrev AreTasks : List Pair → Type 0
  AreTasks pairs = (i j : ℕ) → Contains pairs (pair_of i j) → (i < length c.inst.tasks) × (j < length c.inst.tasks)

  -- a pair of the rest is one of two tasks that are left
  record IsPair (pairs : List Pair) (a b : ℕ) : Type 0 where
    first : ℕ
    second : ℕ
    here : IsLeft c first
    there : IsLeft c second
    first_is : number_of c first ≡ a
    second_is : number_of c second ≡ b
    inside : Contains pairs (pair_of first second)

  pair_is : (pairs : List Pair) → AreTasks pairs → (a b : ℕ) → Contains (pairs_in c pairs) (pair_of a b) → IsPair pairs a b
  pair_is pairs tasks a b has =
      let is = contains_of (are_left c) (renumbered c) pairs (pair_of a b) has in
      let low = tasks is.of.first is.of.second is.inside in
      let waits = and_parts (is_waiting (stage_of c is.of.first)) (is_waiting (stage_of c is.of.second)) is.passes in
      record {
        first = is.of.first;
        second = is.of.second;
        here = record { task = low.0; waits = waits_there (stage_of c is.of.first) waits.0 };
        there = record { task = low.1; waits = waits_there (stage_of c is.of.second) waits.1 };
        first_is = ap (λ (p : Pair). p.first) is.is;
        second_is = ap (λ (p : Pair). p.second) is.is;
        inside = is.inside;
      }

  low_pair : (pairs : List Pair) (a b : ℕ) → IsPair pairs a b → (a < length rest.tasks) × (b < length rest.tasks)
  low_pair pairs a b is =
      (omega (arith, is.first_is, number_at is.first is.here), omega (arith, is.second_is, number_at is.second is.there))

  -- ---- a ring of the rest is one of the whole

  record IsWay (pairs : List Pair) (a b : ℕ) : Type 0 where
    first : ℕ
    via : List ℕ
    second : ℕ
    here : IsLeft c first
    there : IsLeft c second
    first_is : number_of c first ≡ a
    second_is : number_of c second ≡ b
    path : IsPath pairs first via second

  joined_way : (pairs : List Pair) (a m b : ℕ) → IsPair pairs a m → IsWay pairs m b → IsWay pairs a b
  joined_way pairs a m b pair way =
      let same = one_number c over stands places valid keeps pair.second way.first pair.there way.here (pair.second_is ∙ sym way.first_is) in
      record {
        first = pair.first;
        via = way.first ∷ way.via;
        second = way.second;
        here = pair.here;
        there = way.there;
        first_is = pair.first_is;
        second_is = way.second_is;
        path = (subst (λ (k : ℕ). Contains pairs (pair_of pair.first k)) same pair.inside, way.path);
      }

  way_is : (pairs : List Pair) → AreTasks pairs → (a : ℕ) (via : List ℕ) (b : ℕ) → IsPath (pairs_in c pairs) a via b → IsWay pairs a b
  way_is pairs tasks a [] b path =
      let pair = pair_is pairs tasks a b path in
      record {
        first = pair.first;
        via = [];
        second = pair.second;
        here = pair.here;
        there = pair.there;
        first_is = pair.first_is;
        second_is = pair.second_is;
        path = pair.inside;
      }
  way_is pairs tasks a (m ∷ ms) b path =
      joined_way pairs a m b (pair_is pairs tasks a m path.0) (way_is pairs tasks m ms b path.1)

  no_ring : (a : ℕ) (via : List ℕ) → ¬ IsPath (pairs_in c c.inst.before) a via a
  no_ring a via path =
      let way = way_is c.inst.before valid.before.range a via a path in
      let same = one_number c over stands places valid keeps way.second way.first way.there way.here (way.second_is ∙ sym way.first_is) in
      valid.before.no_ring way.first way.via (subst (IsPath c.inst.before way.first way.via) same way.path)

  -- ---- pairs stay in order

  -- of pairs of tasks that are left the earlier one has the lower numbers
  still_earlier : (p q : Pair) → IsLeft c p.first → IsLeft c p.second → IsLeft c q.first → IsLeft c q.second → IsEarlier p q
      → IsEarlier (renumbered c p) (renumbered c q)
  still_earlier p q one two three four earlier = elim (cases_eq p.first q.first) [
    | inl same ↦
        let e = ap (number_of c) same in
        (omega (arith, e), λ _. rises p.second q.second two (earlier.1 same))
    | inr differ ↦
        let less = rises p.first q.first one (omega (arith, earlier.0, differ)) in
        (omega (arith, less), λ e. absurd (omega (arith, less, e)))
  ]

  sorted_in : (pairs : List Pair) → AreTasks pairs → AllPairs IsEarlier pairs → AllPairs IsEarlier (pairs_in c pairs)
  sorted_in pairs tasks sorted i j d less low =
      let kept = filter (are_left c) pairs in
      let high : j < length kept = omega (arith, low, length-map kept (renumbered c)) in
      let lower : i < length kept = omega (arith, less, high) in
      let none = pair_of 0 0 in
      let p = slice_index_or kept i none in
      let q = slice_index_or kept j none in
      let earlier : IsEarlier p q = AllPairs-filter IsEarlier (are_left c) pairs sorted i j none less high in
      let at_i : slice_index_or (map (renumbered c) kept) i d ≡ renumbered c p = get_or-map (renumbered c) kept i none d lower in
      let at_j : slice_index_or (map (renumbered c) kept) j d ≡ renumbered c q = get_or-map (renumbered c) kept j none d high in
      let one = left_pair pairs tasks i lower in
      let other = left_pair pairs tasks j high in
      subst (λ (x : Pair). IsEarlier x (slice_index_or (map (renumbered c) kept) j d)) (sym at_i)
      (subst (λ (y : Pair). IsEarlier (renumbered c p) y) (sym at_j)
      (still_earlier p q one.0 one.1 other.0 other.1 earlier))
    where
      left_pair : (pairs : List Pair) → AreTasks pairs → (i : ℕ) → i < length (filter (are_left c) pairs)
          → IsLeft c (slice_index_or (filter (are_left c) pairs) i (pair_of 0 0)).first
          × IsLeft c (slice_index_or (filter (are_left c) pairs) i (pair_of 0 0)).second
      left_pair pairs tasks i low =
          let kept = filter (are_left c) pairs in
          let x = slice_index_or kept i (pair_of 0 0) in
          let passes : are_left c x ≡ true = All-get_or (λ (p : Pair). are_left c p ≡ true) kept i (pair_of 0 0) low (filter_passes (are_left c) pairs) in
          let inside : Contains pairs x = All-get_or (Contains pairs) kept i (pair_of 0 0) low (All-filter (are_left c) (Contains pairs) pairs (All-contains_itself pairs)) in
          let range = tasks x.first x.second inside in
          let waits = and_parts (is_waiting (stage_of c x.first)) (is_waiting (stage_of c x.second)) passes in (
            record { task = range.0; waits = waits_there (stage_of c x.first) waits.0 },
            record { task = range.1; waits = waits_there (stage_of c x.second) waits.1 },
          )

  phases_at : (i j : ℕ) → IsLeft c i → IsLeft c j → number_of c i < number_of c j
      → (task rest (number_of c i)).hatch ≡ (task rest (number_of c j)).hatch → IsBefore rest (number_of c i) (number_of c j)
  phases_at i j here there less same =
      both_left c over stands places valid keeps c.inst.before i j here there
      (valid.before.phases i j (order_back i j here there less) there.task
      (sym (ap (λ (t : Task). t.hatch) (task_at i here)) ∙ same ∙ ap (λ (t : Task). t.hatch) (task_at j there)))

  before_valid : HasValidBefore rest
  before_valid = record {
    phases = λ a b less low. by_numbers (λ a b. a < b → (task rest a).hatch ≡ (task rest b).hatch → IsBefore rest a b) phases_at
        a b (omega (arith, less, low)) low less;
    range = λ a b is. low_pair c.inst.before a b (pair_is c.inst.before valid.before.range a b is);
    sorted = sorted_in c.inst.before valid.before.range valid.before.sorted;
    no_ring = no_ring;
  }

  apart_tasks : AreTasks c.inst.apart
  apart_tasks i j is = let r = valid.apart.range i j (pair_listed i j c.inst.apart is) in (omega (arith, r.0, r.1), r.1)

  apart_valid : HasValidApart rest
  apart_valid = record {
    count = omega (
      arith,
      length-map (filter (are_left c) c.inst.apart) (renumbered c),
      length-filter (are_left c) c.inst.apart,
      count_by-le-length (are_left c) c.inst.apart,
      valid.apart.count,
    );
    range = λ a b is. apart_range a b (pair_is c.inst.apart apart_tasks a b (before_found a b rest.apart is));
    sorted = sorted_in c.inst.apart apart_tasks valid.apart.sorted;
  }
    where
      apart_range : (a b : ℕ) → IsPair c.inst.apart a b
          → (a < b) × (b < length rest.tasks) × ((task rest a).hatch ≢ (task rest b).hatch)
      apart_range a b is =
          let r = valid.apart.range is.first is.second (pair_listed is.first is.second c.inst.apart is.inside) in (
            omega (arith, is.first_is, is.second_is, rises is.first is.second is.here r.0),
            (low_pair c.inst.apart a b is).1,
            λ same. r.2 (
                sym (ap (λ (t : Task). t.hatch) (task_at is.first is.here)) ∙ ap (λ (k : ℕ). (task rest k).hatch) is.first_is ∙ same
                ∙ sym (ap (λ (k : ℕ). (task rest k).hatch) is.second_is) ∙ ap (λ (t : Task). t.hatch) (task_at is.second is.there)),
          )

  -- ---- limits

  module _ (bay_berths : HasBayLimits c.inst → HasBerths rest (IsFrom (negsuc 299) (pos 300)))
      (place_berths : HasPlaceLimits c.inst → HasBerths rest IsOnRail) where
    limits_now : HasBayLimits c.inst ⊎ HasPlaceLimits c.inst → HasBayLimits rest ⊎ HasPlaceLimits rest
    limits_now (inl by) = inl (record { bays = by.bays; travel = by.travel; gap = by.gap; berths = bay_berths by })
    limits_now (inr by) = inr (record { bays = by.bays; travel = by.travel; gap = by.gap; berths = place_berths by })

    pub rest_valid : Valid rest
    rest_valid = record {
      limits = ∥∥₁_map valid.limits limits_now;
      tasks = tasks_valid;
      cranes = cranes_valid;
      before = before_valid;
      apart = apart_valid;
    }
