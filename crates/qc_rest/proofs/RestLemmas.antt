-- The instance that is made of what is left asks for all that it must, and for no more.
use Rattle.std.proofs.Common.{◌≡◌, ℕ, zero, suc, ◌+◌, ◌-◌, ◌<◌, ◌≤◌, ◌⊎◌, ℤ, inl, inr, Bool, true, ◌||◌, List, [], ◌∷◌, length, map, filter, take, slice_index_or, get_or, refl, sym, ap, subst, ◌∙◌, arith}
use Rattle.std.specs.Prelude.{Contains}
use Rattle.std.specs.List.{count_by, range_with_len}
use Rattle.std.proofs.lemmas.Bool.{and_from, and_parts, cases_Bool, cases_eq, cond-false, cond-true, cond_both, false≢true, or_cases, or_left, or_right}
use Rattle.std.proofs.lemmas.List.{get_or-map, length-map}
use Rattle.std.proofs.lemmas.List.FromFn.{get_or-map-range_with_len, length-map-range_with_len}
use Rattle.qc_dispatch.specs.declared.stage.Stage.{Stage}
use Rattle.qc_dispatch.specs.declared.stage.Stage.TheVariants.{Waiting, Running, Ended}
use Rattle.qc_dispatch.specs.Course.{Course, is_running, is_waiting, left, stage_of}
use Rattle.qc_dispatch.specs.Order.{ArePaired}
use Rattle.qc_dispatch.specs.Promises.{Keeps}
use Rattle.qc_num.proofs.Lists.{Contains-map}
use Rattle.qc_model.specs.declared.pair.Pair.{Pair}
use Rattle.qc_model.specs.declared.crane.Crane.{Crane}
use Rattle.qc_model.specs.declared.task.Task.{Task}
use Rattle.qc_model.specs.Instance.{InstanceView, IsBefore, Valid, crane, no_crane, no_task, pair_of, release_of, task, is_apart}
use Rattle.qc_model.specs.Nodes.{greatest, is_before}
use Rattle.qc_model.proofs.Extremes.{greatest_le, le_greatest}
use Rattle.qc_model.proofs.NodeLemmas.{before_found, pair_listed}
use Rattle.qc_rest.specs.Progress.{IsLeft, number_of}
use Rattle.qc_rest.specs.declared.stand.Stand.{Stand}
use Rattle.qc_rest.specs.Rest.{HoldsBack, IsCraneNow, IsExactRest, IsRest, IsTaskLeft}
use Rattle.qc_rest.specs.RestOf.{are_left, crane_in, held_by, holds_back, left_tasks, pairs_in, release_in, renumbered, rest_of, task_in}
use Rattle.qc_rest.specs.Stands.{CanBeAt, IsStand, stand_of}
use Rattle.qc_rest.proofs.NumberLemmas.{count-cons, count_below, counts_differ, tally}

-- of the numbers of a range those whose elements pass are as many as the elements
stretch_count : {X : Type 0} (p : X → Bool) (q : ℕ → Bool) (xs : List X) (a : ℕ) (d : X)
    → ((i : ℕ) → i < length xs → q (a + i) ≡ p (slice_index_or xs i d))
    → length (filter q (range_with_len a (length xs))) ≡ count_by p xs
stretch_count p q [] a d same = refl
stretch_count p q (x ∷ xs) a d same =
    let rest = stretch_count p q xs (a + 1) d (λ i low. ap q (omega arith) ∙ same (suc i) (omega arith)) in
    let here : q a ≡ p x = ap q (omega arith) ∙ same 0 (omega arith) in
    cond_both (q a) (a ∷ filter q (range_with_len (a + 1) (length xs))) (filter q (range_with_len (a + 1) (length xs)))
    (λ ys. length ys ≡ count_by p (x ∷ xs))
    (λ t. omega (arith, rest, count-cons p x xs, ap tally (sym here ∙ t)))
    (λ f. omega (arith, rest, count-cons p x xs, ap tally (sym here ∙ f)))

-- and each stands at the number of those before it
stretch_at : {X : Type 0} (p : X → Bool) (q : ℕ → Bool) (xs : List X) (a j : ℕ) (d : X) (e : ℕ)
    → ((i : ℕ) → i < length xs → q (a + i) ≡ p (slice_index_or xs i d)) → j < length xs → p (slice_index_or xs j d) ≡ true
    → get_or (filter q (range_with_len a (length xs))) (count_by p (take j xs)) e ≡ a + j
stretch_at p q [] a j d e same low passes = absurd (omega arith)
stretch_at p q (x ∷ xs) a zero d e same low passes =
    let here : q a ≡ true = ap q (omega arith) ∙ same 0 (omega arith) ∙ passes in
    ap (λ (ys : List ℕ). get_or ys 0 e) (cond-true (q a) (a ∷ filter q (range_with_len (a + 1) (length xs))) _ here) ∙ omega arith
stretch_at p q (x ∷ xs) a (suc j) d e same low passes =
    let rest = stretch_at p q xs (a + 1) j d e (λ i less. ap q (omega arith) ∙ same (suc i) (omega arith)) (omega arith) passes in
    let here : q a ≡ p x = ap q (omega arith) ∙ same 0 (omega arith) in
    let more = filter q (range_with_len (a + 1) (length xs)) in
    let number = count-cons p x (take j xs) in
    elim (cases_Bool (q a)) [
      | inl t ↦
          let at : count_by p (take (suc j) (x ∷ xs)) ≡ suc (count_by p (take j xs)) = omega (arith, number, ap tally (sym here ∙ t)) in
          ap (λ (ys : List ℕ). get_or ys (count_by p (take (suc j) (x ∷ xs))) e) (cond-true (q a) (a ∷ more) more t)
          ∙ ap (λ (n : ℕ). get_or (a ∷ more) n e) at ∙ rest ∙ omega arith
      | inr f ↦
          let at : count_by p (take (suc j) (x ∷ xs)) ≡ count_by p (take j xs) = omega (arith, number, ap tally (sym here ∙ f)) in
          ap (λ (ys : List ℕ). get_or ys (count_by p (take (suc j) (x ∷ xs))) e) (cond-false (q a) (a ∷ more) more f)
          ∙ ap (λ (n : ℕ). get_or more n e) at ∙ rest ∙ omega arith
    ]

-- ---- lists

-- an element of a list is one of those that pass a test, where it does
contains_filter : {X : Type 0} (p : X → Bool) (xs : List X) (x : X) → p x ≡ true → Contains xs x → Contains (filter p xs) x
contains_filter {X = X} p [] x passes (k, low, at) = absurd (omega arith)
contains_filter {X = X} p (y ∷ ys) x passes (zero, low, at) =
    let first : p y ≡ true = ap p at ∙ passes in
    subst (λ (zs : List X). Contains zs x) (sym (cond-true (p y) (y ∷ filter p ys) (filter p ys) first)) (0, omega arith, at)
contains_filter {X = X} p (y ∷ ys) x passes (suc k, low, at) =
    let rest = contains_filter p ys x passes (k, omega arith, at) in
    cond_both (p y) (y ∷ filter p ys) (filter p ys) (λ (zs : List X). Contains zs x)
    (λ t. (suc rest.0, omega (arith, rest.1), rest.2)) (λ f. rest)

-- what an element of a mapped part of a list is of
pub record IsOf {X Y : Type 0} (p : X → Bool) (f : X → Y) (xs : List X) (y : Y) : Type 0 where
  pub of : X
  pub inside : Contains xs of
  pub passes : p of ≡ true
  pub is : f of ≡ y

one_further : {X Y : Type 0} (p : X → Bool) (f : X → Y) (x : X) (xs : List X) (y : Y) → IsOf p f xs y → IsOf p f (x ∷ xs) y
one_further p f x xs y is = record {
  of = is.of;
  inside = (suc is.inside.0, omega (arith, is.inside.1), is.inside.2);
  passes = is.passes;
  is = is.is;
}

here_or_further : {X Y : Type 0} (p : X → Bool) (f : X → Y) (x : X) (xs : List X) (y : Y) → p x ≡ true
    → (Contains (map f (filter p xs)) y → IsOf p f xs y) → Contains (f x ∷ map f (filter p xs)) y → IsOf p f (x ∷ xs) y
here_or_further p f x xs y passes further (zero, low, at) = record { of = x; inside = (0, omega arith, refl); passes = passes; is = at }
here_or_further p f x xs y passes further (suc k, low, at) = one_further p f x xs y (further (k, omega arith, at))

pub contains_of : {X Y : Type 0} (p : X → Bool) (f : X → Y) (xs : List X) (y : Y) → Contains (map f (filter p xs)) y → IsOf p f xs y
contains_of p f [] y (k, low, at) = absurd (omega arith)
contains_of {X = X} p f (x ∷ xs) y has = elim (cases_Bool (p x)) [
  | inr fails ↦
      one_further p f x xs y (contains_of p f xs y
      (subst (λ (zs : List X). Contains (map f zs) y) (cond-false (p x) (x ∷ filter p xs) (filter p xs) fails) has))
  | inl passes ↦
      here_or_further p f x xs y passes (λ rest. contains_of p f xs y rest)
      (subst (λ (zs : List X). Contains (map f zs) y) (cond-true (p x) (x ∷ filter p xs) (filter p xs) passes) has)
]

-- ---- tests

pub runs_since : (s : Stage) → is_running s ≡ true → (start : ℕ) × (s ≡ Running start)
runs_since Waiting runs = absurd (false≢true runs)
runs_since (Running start) runs = (start, refl)
runs_since (Ended start end) runs = absurd (false≢true runs)

pub waits_there : (s : Stage) → is_waiting s ≡ true → s ≡ Waiting
waits_there Waiting waits = refl
waits_there (Running start) waits = absurd (false≢true waits)
waits_there (Ended start end) waits = absurd (false≢true waits)

module _ (c : Course) where
  pub holds_test : (i j : ℕ) → HoldsBack c i j → holds_back c i j ≡ true
  holds_test i j holds = and_from (is_running (stage_of c i)) _ (ap is_running holds.runs) (by holds.first)
    where
      by : IsBefore c.inst i j ⊎ ArePaired c.inst i j → (is_before c.inst i j || (is_apart c.inst i j || is_apart c.inst j i)) ≡ true
      by (inl is) = or_left (is_before c.inst i j) _ (pair_listed i j c.inst.before is)
      by (inr (inl is)) = or_right (is_before c.inst i j) _ (or_left (is_apart c.inst i j) _ is)
      by (inr (inr is)) = or_right (is_before c.inst i j) _ (or_right (is_apart c.inst i j) _ is)

  pub test_holds : (i j : ℕ) → i < length c.inst.tasks → holds_back c i j ≡ true → HoldsBack c i j
  test_holds i j low t =
      let parts = and_parts (is_running (stage_of c i)) _ t in
      let runs = runs_since (stage_of c i) parts.0 in
      record { task = low; start = runs.0; runs = runs.1; first = by parts.1 }
    where
      by : (is_before c.inst i j || (is_apart c.inst i j || is_apart c.inst j i)) ≡ true → IsBefore c.inst i j ⊎ ArePaired c.inst i j
      by t = elim (or_cases (is_before c.inst i j) _ t) [
        | inl e ↦ inl (before_found i j c.inst.before e)
        | inr e ↦ elim (or_cases (is_apart c.inst i j) (is_apart c.inst j i) e) [
          | inl f ↦ inr (inl f)
          | inr f ↦ inr (inr f)
        ]
      ]

module _ (c : Course) (over : ℕ → ℕ) (stands : List Stand) (places : ℕ → ℤ) (valid : Valid c.inst) (keeps : Keeps c) where
  same_test : (i : ℕ) → i < length c.stages → is_waiting (stage_of c (0 + i)) ≡ is_waiting (slice_index_or c.stages i Waiting)
  same_test i low = ap (λ (k : ℕ). is_waiting (stage_of c k)) (omega arith)

  left_is : (n : ℕ) → n ≡ length c.stages → filter (λ j. is_waiting (stage_of c j)) (range_with_len 0 n)
      ≡ filter (λ j. is_waiting (stage_of c j)) (range_with_len 0 (length c.stages))
  left_is n e = ap (λ (m : ℕ). filter (λ j. is_waiting (stage_of c j)) (range_with_len 0 m)) e

  pub left_count : length (left_tasks c) ≡ left c
  left_count =
      ap length (left_is (length c.inst.tasks) (sym keeps.stages))
      ∙ stretch_count is_waiting (λ j. is_waiting (stage_of c j)) c.stages 0 Waiting same_test

  pub left_at : (j : ℕ) → IsLeft c j → get_or (left_tasks c) (number_of c j) 0 ≡ j
  left_at j waits =
      ap (λ (ys : List ℕ). get_or ys (number_of c j) 0) (left_is (length c.inst.tasks) (sym keeps.stages))
      ∙ stretch_at is_waiting (λ j. is_waiting (stage_of c j)) c.stages 0 j Waiting 0 same_test
      (omega (arith, waits.task, keeps.stages)) (ap is_waiting waits.waits) ∙ omega arith

  pub number_low : (j : ℕ) → IsLeft c j → number_of c j < left c
  number_low j waits = count_below is_waiting c.stages j Waiting (omega (arith, waits.task, keeps.stages)) (ap is_waiting waits.waits)

  abbrev pub rest : InstanceView
  rest = rest_of c over stands places

  pub task_is : (j : ℕ) → IsLeft c j → task rest (number_of c j) ≡ task_in c over j
  task_is j waits =
      get_or-map (task_in c over) (left_tasks c) (number_of c j) 0 no_task (omega (arith, left_count, number_low j waits))
      ∙ ap (task_in c over) (left_at j waits)

  pub crane_is : (k : ℕ) → k < length c.inst.cranes → crane rest k ≡ crane_in c stands places k
  crane_is k low = get_or-map-range_with_len (crane_in c stands places) 0 (length c.inst.cranes) k k no_crane low (omega arith)

  held_in : (i j : ℕ) → HoldsBack c i j → over i ≤ c.clock + release_in c over j
  held_in i j holds =
      let most = le_greatest (held_by c over j) i 0 (length c.inst.tasks) (omega arith) (omega (arith, holds.task)) in
      let is = cond-true (holds_back c i j) (over i - c.clock) 0 (holds_test c i j holds) in
      omega (arith, most, is)

  pub release_least : (j tick : ℕ) → release_of c.inst j ≤ c.clock + tick → ((i : ℕ) → HoldsBack c i j → over i ≤ c.clock + tick)
      → release_in c over j ≤ tick
  release_least j tick released held =
      let most : greatest (map (held_by c over j) (range_with_len 0 (length c.inst.tasks))) ≤ tick =
      greatest_le (held_by c over j) tick 0 (length c.inst.tasks) (λ i low.
      cond_both (holds_back c i j) (over i - c.clock) 0 (λ n. n ≤ tick)
      (λ t. omega (arith, held i (test_holds c i j (omega (arith, low)) t))) (λ _. omega arith)) in
      omega (arith, most, released)

  -- pairs of tasks that are left
  pub both_left : (pairs : List Pair) (i j : ℕ) → IsLeft c i → IsLeft c j → Contains pairs (pair_of i j)
      → Contains (pairs_in c pairs) (pair_of (number_of c i) (number_of c j))
  both_left pairs i j here there has =
      Contains-map (renumbered c) (filter (are_left c) pairs) (pair_of i j)
      (contains_filter (are_left c) pairs (pair_of i j)
      (and_from (is_waiting (stage_of c i)) (is_waiting (stage_of c j)) (ap is_waiting here.waits) (ap is_waiting there.waits)) has)

  pub one_number : (i j : ℕ) → IsLeft c i → IsLeft c j → number_of c i ≡ number_of c j → i ≡ j
  one_number i j here there same = elim (cases_eq i j) [
    | inl e ↦ e
    | inr differ ↦ absurd (counts_differ is_waiting c.stages i j Waiting differ (omega (arith, here.task, keeps.stages))
        (omega (arith, there.task, keeps.stages)) (ap is_waiting here.waits) (ap is_waiting there.waits) same)
  ]

  pair_parts : (p : Pair) (i j : ℕ) → p.first ≡ i → p.second ≡ j → p ≡ pair_of i j
  pair_parts p i j first second =
      ap (λ (n : ℕ). pair_of n p.second) first ∙ ap (pair_of i) second

  pair_back : (pairs : List Pair) (i j : ℕ) → ((a b : ℕ) → Contains pairs (pair_of a b) → (a < length c.inst.tasks) × (b < length c.inst.tasks))
      → IsLeft c i → IsLeft c j → Contains (pairs_in c pairs) (pair_of (number_of c i) (number_of c j)) → Contains pairs (pair_of i j)
  pair_back pairs i j range here there has =
      let is = contains_of (are_left c) (renumbered c) pairs (pair_of (number_of c i) (number_of c j)) has in
      let low = range is.of.first is.of.second is.inside in
      let left = and_parts (is_waiting (stage_of c is.of.first)) (is_waiting (stage_of c is.of.second)) is.passes in
      let one = one_number is.of.first i (record { task = low.0; waits = waits_there _ left.0 }) here (ap (λ (p : Pair). p.first) is.is) in
      let other = one_number is.of.second j (record { task = low.1; waits = waits_there _ left.1 }) there (ap (λ (p : Pair). p.second) is.is) in
      subst (Contains pairs) (pair_parts is.of i j one other) is.inside

  -- ---- the instance

  module _ (stand : (k : ℕ) → k < length c.inst.cranes → IsStand c over k (stand_of stands k))
      (place : (k : ℕ) → k < length c.inst.cranes → CanBeAt c.inst c.clock (stand_of stands k) (places k)) where
    task_left : (j : ℕ) → IsLeft c j → IsTaskLeft c over j (task rest (number_of c j))
    task_left j waits = subst (IsTaskLeft c over j) (sym (task_is j waits)) (record {
      same = refl;
      released = omega arith;
      held = λ i holds. held_in i j holds;
    })

    crane_now : (k : ℕ) → k < length c.inst.cranes → IsCraneNow c over k (stand_of stands k) (crane rest k)
    crane_now k low = subst (IsCraneNow c over k (stand_of stands k)) (sym (crane_is k low)) (record {
      from = refl;
      to = refl;
      stands = stand k low;
      place = place k low;
      ready = omega arith;
    })

    is_rest : IsRest c over stands rest
    is_rest = record {
      travel = refl;
      gap = refl;
      tasks_count = length-map (left_tasks c) (task_in c over) ∙ left_count;
      cranes_count = length-map-range_with_len (crane_in c stands places) 0 (length c.inst.cranes);
      tasks = task_left;
      cranes = crane_now;
      before = both_left c.inst.before;
      apart = λ i j here there is. pair_listed _ _ rest.apart (both_left c.inst.apart i j here there (before_found i j c.inst.apart is));
    }

    pub rest_exact : IsExactRest c over stands places rest
    rest_exact = record {
      is = is_rest;
      releases = λ j waits tick released held. subst (λ (t : Task). t.release ≤ tick) (sym (task_is j waits)) (release_least j tick released held);
      placed = λ k low. ap (λ (k : Crane). k.bay) (crane_is k low);
      ready = λ k low. ap (λ (k : Crane). k.ready) (crane_is k low);
      only_before = λ i j here there. pair_back c.inst.before i j valid.before.range here there;
      only_apart = λ i j here there is.
          pair_listed i j c.inst.apart (pair_back c.inst.apart i j
          (λ a b at. let r = valid.apart.range a b (pair_listed a b c.inst.apart at) in (omega (arith, r.0, r.1), r.1)) here there
          (before_found _ _ rest.apart is));
    }
