-- The pairs of which a schedule decides the order.
use Rattle.std.proofs.Common.{◌≡◌, ◌≢◌, ℕ, zero, suc, ◌+◌, ◌<◌, ◌≤◌, ◌⊎◌, inl, inr, Bool, true, eqb, ◌==◌, ◌||◌, cond, All, List, [], ◌∷◌, length, map, Contains, Some, refl, ap, ap₂, sym, ◌∙◌, arith, filter, nat_lt}
use Rattle.std.proofs.lemmas.Bool.{cases_Bool, cases_eq, cases_lt, eq-eqb, eqb-true, lt-ltb, ltb-true, or_cases, or_left, or_right}
use Rattle.std.proofs.lemmas.List.Elements.{All-append, All-contains, All-filter, All-from_recursion, All-map, All-nil, Contains-append_left, Contains-append_right, filter_passes, recursion_from_All}
use Rattle.std.specs.List.{AllByRecursion, flat_map, range_with_len}
use Rattle.qc_num.proofs.Lists.{Contains-map}
use Rattle.qc_close.specs.Model.{Decision, Pair, Slot, Turn, OneWay, Free, GoesBy, InstanceView, IsApart, Valid, pair_of, Conflicts, assigned, Feasible, IsClear, crane_of, slot_distance, task_distance, is_apart}
use Rattle.qc_model.proofs.NodeLemmas.{before_found, conflict_differs, conflict_inside, conflict_turned, one_way_apart, pair_listed}
use Rattle.qc_model.proofs.TurnLemmas.{by_feasible}
use Rattle.qc_starts.specs.Tight.{conflicts_in, ordered_pairs, task_pairs}

-- ---- lists over ranges

all_range : (P : ℕ → Type 0) (a n : ℕ) → ((k : ℕ) → a ≤ k → k < a + n → P k) → AllByRecursion P (range_with_len a n)
all_range P a zero h = tt
all_range P a (suc n) h =
    (h a (omega arith) (omega arith), all_range P (a + 1) n (λ k low high. h k (omega (arith, low)) (omega (arith, high))))

all_rows : (P : Pair → Type 0) (f : ℕ → List Pair) (a n : ℕ) → ((k : ℕ) → a ≤ k → k < a + n → All P (f k))
    → All P (flat_map f (range_with_len a n))
all_rows P f a zero h = All-nil P
all_rows P f a (suc n) h =
    All-append P (f a) (flat_map f (range_with_len (a + 1) n)) (h a (omega arith) (omega arith))
    (all_rows P f (a + 1) n (λ k low high. h k (omega (arith, low)) (omega (arith, high))))

in_range : (a n k : ℕ) → a ≤ k → k < a + n → Contains (range_with_len a n) k
in_range a zero k low high = absurd (omega arith)
in_range a (suc n) k low high = elim (cases_eq a k) [
  | inl here ↦ (0, omega arith, here)
  | inr other ↦ let c = in_range (a + 1) n k (omega arith) (omega arith) in (suc c.0, omega (arith, c.1), c.2)
]

in_row : (f : ℕ → List Pair) (ks : List ℕ) (k : ℕ) (p : Pair) → Contains ks k → Contains (f k) p → Contains (flat_map f ks) p
in_row f [] k p (i, low, e) has = absurd (omega arith)
in_row f (h ∷ ks) k p (zero, low, e) has = Contains-append_left (f h) (flat_map f ks) p (rw e has)
in_row f (h ∷ ks) k p (suc i, low, e) has =
    Contains-append_right (f h) (flat_map f ks) p (in_row f ks k p (i, omega arith, e) has)

in_filter : (test : Pair → Bool) (ps : List Pair) (p : Pair) → Contains ps p → test p ≡ true → Contains (filter test ps) p
in_filter test [] p (k, low, e) passes = absurd (omega arith)
in_filter test (q ∷ ps) p (zero, low, e) passes =
    let here : test q ≡ true = ap test e ∙ passes in rw here (0, omega arith, e)
in_filter test (q ∷ ps) p (suc k, low, e) passes =
    let c = in_filter test ps p (k, omega arith, e) passes in
    elim (cases_Bool (test q)) [
      | inl here ↦ rw here (suc c.0, omega (arith, c.1), c.2)
      | inr other ↦ rw other c
    ]

filter_same : (p q : Pair → Bool) (xs : List Pair) → AllByRecursion (λ x. p x ≡ q x) xs → filter p xs ≡ filter q xs
filter_same p q [] same = refl
filter_same p q (x ∷ xs) same =
    ap₂ (λ (b : Bool) (rest : List Pair). cond b (x ∷ rest) rest) same.0 (filter_same p q xs same.1)

-- ---- all pairs of tasks

-- the lower number comes first, and both are tasks
abbrev pub Rises : InstanceView → Pair → Type 0
Rises inst p = (p.first < p.second) × (p.second < length inst.tasks)

all_rise : (inst : InstanceView) → All (Rises inst) (task_pairs inst)
all_rise inst =
    all_rows (Rises inst) (λ j. map (λ i. pair_of i j) (range_with_len 0 j)) 0 (length inst.tasks)
    (λ j low high.
    All-map (Rises inst) (λ i. pair_of i j) (range_with_len 0 j)
    (All-from_recursion (λ i. Rises inst (pair_of i j)) (range_with_len 0 j)
    (all_range (λ i. Rises inst (pair_of i j)) 0 j (λ i least most. (omega (arith, most), omega (arith, high))))))

in_pairs : (inst : InstanceView) (i j : ℕ) → i < j → j < length inst.tasks → Contains (task_pairs inst) (pair_of i j)
in_pairs inst i j rising high =
    in_row (λ j. map (λ i. pair_of i j) (range_with_len 0 j)) (range_with_len 0 (length inst.tasks)) j (pair_of i j)
    (in_range 0 (length inst.tasks) j (omega arith) (omega arith))
    (Contains-map (λ i. pair_of i j) (range_with_len 0 j) i (in_range 0 j i (omega arith) (omega arith)))

-- ---- those of which a schedule decides the order

module _ (inst : InstanceView) (v : Valid inst) (sched : List Slot) where
  rise_by : (turn : Turn) (p : Pair) → Contains (ordered_pairs turn inst sched) p → Rises inst p
  rise_by OneWay p c = let r = v.apart.range p.first p.second (pair_listed p.first p.second inst.apart c) in (r.0, r.1)
  rise_by Free p c =
      All-contains (Rises inst) (filter (conflicts_in inst sched) (task_pairs inst)) p
      (All-filter (conflicts_in inst sched) (Rises inst) (task_pairs inst) (all_rise inst)) c

  pub ordered_rise : (p : Pair) → Contains (ordered_pairs inst.turn inst sched) p → Rises inst p
  ordered_rise p c = rise_by inst.turn p c

  abbrev listed : Pair → Bool
  listed p = is_apart inst p.first p.second

  -- two tasks that conflict are apart, or one crane has both, or they would come too near
  conflict_cases : (p : Pair) → conflicts_in inst sched p ≡ true
      → (IsApart inst p.first p.second ⊎ (crane_of sched p.first ≡ crane_of sched p.second))
      ⊎ (0 < slot_distance inst sched p.first p.second)
  conflict_cases p t =
      elim (or_cases (listed p || eqb (crane_of sched p.first) (crane_of sched p.second))
      (nat_lt 0 (slot_distance inst sched p.first p.second)) t) [
        | inl first ↦ elim (or_cases (listed p) (eqb (crane_of sched p.first) (crane_of sched p.second)) first) [
          | inl a ↦ inl (inl a)
          | inr same ↦ inl (inr (eqb-true _ _ same))
        ]
        | inr near ↦ inr (ltb-true 0 (slot_distance inst sched p.first p.second) near)
      ]

  in_apart : (i j : ℕ) → IsApart inst i j → conflicts_in inst sched (pair_of i j) ≡ true
  in_apart i j a =
      or_left (listed (pair_of i j) || eqb (crane_of sched i) (crane_of sched j)) (nat_lt 0 (slot_distance inst sched i j))
      (or_left (listed (pair_of i j)) (eqb (crane_of sched i) (crane_of sched j)) a)

  in_same : (i j : ℕ) → crane_of sched i ≡ crane_of sched j → conflicts_in inst sched (pair_of i j) ≡ true
  in_same i j same =
      or_left (listed (pair_of i j) || eqb (crane_of sched i) (crane_of sched j)) (nat_lt 0 (slot_distance inst sched i j))
      (or_right (listed (pair_of i j)) (eqb (crane_of sched i) (crane_of sched j)) (eq-eqb _ _ same))

  in_near : (i j : ℕ) → 0 < slot_distance inst sched i j → conflicts_in inst sched (pair_of i j) ≡ true
  in_near i j near =
      or_right (listed (pair_of i j) || eqb (crane_of sched i) (crane_of sched j)) (nat_lt 0 (slot_distance inst sched i j))
      (lt-ltb 0 (slot_distance inst sched i j) near)

  -- ---- in a schedule of the instance's turn one of the two ends before the other starts

  clear_of : (i j ticks : ℕ) → IsClear inst sched ticks i j → IsClear inst sched 0 i j
  clear_of i j ticks (inl h) = inl (omega (arith, h))
  clear_of i j ticks (inr h) = inr (omega (arith, h))

  clear_by : (turn : Turn) → Feasible inst sched → (p : Pair) → Contains (ordered_pairs turn inst sched) p
      → IsClear inst sched 0 p.first p.second
  clear_by OneWay f p c =
      let apart = pair_listed p.first p.second inst.apart c in
      let r = v.apart.range p.first p.second apart in f.apart p.first p.second (omega (arith, r.0, r.1)) r.1 apart
  clear_by Free f p c =
      let r = rise_by Free p c in
      let low : p.first < length inst.tasks = omega (arith, r.0, r.1) in
      let differ : p.first ≢ p.second = λ e. absurd (omega (arith, e, r.0)) in
      let passes =
      All-contains (λ (q : Pair). conflicts_in inst sched q ≡ true) (filter (conflicts_in inst sched) (task_pairs inst)) p
      (filter_passes (conflicts_in inst sched) (task_pairs inst)) c in
      elim (conflict_cases p passes) [
        | inl either ↦ elim either [
          | inl a ↦ f.apart p.first p.second low r.1 a
          | inr same ↦ clear_of p.first p.second _ (f.travel p.first p.second low r.1 differ same)
        ]
        | inr near ↦ elim (cases_eq (crane_of sched p.first) (crane_of sched p.second)) [
          | inl same ↦ clear_of p.first p.second _ (f.travel p.first p.second low r.1 differ same)
          | inr other ↦ clear_of p.first p.second _ (f.margin p.first p.second low r.1 other near)
        ]
      ]

  pub ordered_clear : GoesBy inst.turn inst sched → (p : Pair) → Contains (ordered_pairs inst.turn inst sched) p
      → IsClear inst sched 0 p.first p.second
  ordered_clear g p c = clear_by inst.turn (by_feasible inst.turn inst sched g) p c

  -- ---- and each two tasks of a node that conflict are such a pair

  module _ (ds : List Decision)
      (cranes : (j k : ℕ) → j < length inst.tasks → assigned ds j ≡ Some k → crane_of sched j ≡ k) where
    lists_free : (i j : ℕ) → i < j → Conflicts inst ds i j → Contains (ordered_pairs Free inst sched) (pair_of i j)
    lists_free i j rising conflict =
        let r = conflict_inside inst v ds i j conflict in
        in_filter (conflicts_in inst sched) (task_pairs inst) (pair_of i j) (in_pairs inst i j rising r.1)
        (passes conflict r.0 r.1)
      where
        passes : Conflicts inst ds i j → i < length inst.tasks → j < length inst.tasks
            → conflicts_in inst sched (pair_of i j) ≡ true
        passes (inl (inl a)) low high = in_apart i j a
        passes (inl (inr a)) low high = let r = v.apart.range j i a in absurd (omega (arith, r.0, rising))
        passes (inr clash) low high =
            let first = cranes i clash.first_crane low clash.of_first in
            let second = cranes j clash.second_crane high clash.of_second in
            elim clash.near [
              | inl same ↦ in_same i j (first ∙ same ∙ sym second)
              | inr near ↦
                  let is = ap₂ (λ (x y : ℕ). task_distance inst i x j y) first second in
                  in_near i j (omega (arith, near, is))
            ]

    lists_by : (turn : Turn) → inst.turn ≡ turn → (i j : ℕ) → Conflicts inst ds i j
        → Contains (ordered_pairs turn inst sched) (pair_of i j) ⊎ Contains (ordered_pairs turn inst sched) (pair_of j i)
    lists_by OneWay one i j conflict = elim (one_way_apart inst one ds i j conflict) [
      | inl apart ↦ inl (before_found i j inst.apart apart)
      | inr apart ↦ inr (before_found j i inst.apart apart)
    ]
    lists_by Free is i j conflict = elim (cases_lt i j) [
      | inl less ↦ inl (lists_free i j less conflict)
      | inr more ↦
          let differ = conflict_differs inst v ds i j conflict in
          let turned : j < i = elim (cases_eq i j) [ inl e ↦ absurd (differ e) | inr other ↦ omega arith ] in
          inr (lists_free j i turned (conflict_turned inst ds i j conflict))
    ]

    pub conflict_listed : (i j : ℕ) → Conflicts inst ds i j
        → Contains (ordered_pairs inst.turn inst sched) (pair_of i j) ⊎ Contains (ordered_pairs inst.turn inst sched) (pair_of j i)
    conflict_listed i j conflict = lists_by inst.turn refl i j conflict

-- where each two such tasks of a node conflict
pub listed_conflict : (inst : InstanceView) (v : Valid inst) (sched : List Slot) (ds : List Decision)
    → ((j : ℕ) → j < length inst.tasks → assigned ds j ≡ Some (crane_of sched j))
    → (p : Pair) → Contains (ordered_pairs inst.turn inst sched) p → Conflicts inst ds p.first p.second
listed_conflict inst v sched ds cranes p c = by_turn inst.turn refl c
  where
    by_turn : (turn : Turn) → inst.turn ≡ turn → Contains (ordered_pairs turn inst sched) p → Conflicts inst ds p.first p.second
    by_turn OneWay one has = inl (inl (pair_listed p.first p.second inst.apart has))
    by_turn Free as_free has =
        let r = rise_by inst v sched Free p has in
        let low : p.first < length inst.tasks = omega (arith, r.0, r.1) in
        let passes =
        All-contains (λ (q : Pair). conflicts_in inst sched q ≡ true) (filter (conflicts_in inst sched) (task_pairs inst)) p
        (filter_passes (conflicts_in inst sched) (task_pairs inst)) has in
        let clash = λ (near : (crane_of sched p.first ≡ crane_of sched p.second)
        ⊎ (0 < task_distance inst p.first (crane_of sched p.first) p.second (crane_of sched p.second))). clashes as_free low r near in
        elim (conflict_cases inst v sched p passes) [
          | inl either ↦ elim either [ inl a ↦ inl (inl a) | inr same ↦ clash (inl same) ]
          | inr near ↦ clash (inr near)
        ]
      where
        clashes : inst.turn ≡ Free → p.first < length inst.tasks → Rises inst p
            → (crane_of sched p.first ≡ crane_of sched p.second)
            ⊎ (0 < task_distance inst p.first (crane_of sched p.first) p.second (crane_of sched p.second))
            → Conflicts inst ds p.first p.second
        clashes is low r near = inr (record {
          free = is;
          first = low;
          second = r.1;
          differ = λ e. absurd (omega (arith, e, r.0));
          first_crane = crane_of sched p.first;
          second_crane = crane_of sched p.second;
          of_first = cranes p.first low;
          of_second = cranes p.second r.1;
          near = near;
        })

-- two schedules with the same cranes decide the order of the same pairs
pub same_pairs : (inst : InstanceView) (one two : List Slot)
    → ((j : ℕ) → j < length inst.tasks → crane_of one j ≡ crane_of two j)
    → ordered_pairs inst.turn inst one ≡ ordered_pairs inst.turn inst two
same_pairs inst one two cranes = by_turn inst.turn
  where
    same_test : (p : Pair) → Rises inst p → conflicts_in inst one p ≡ conflicts_in inst two p
    same_test p r =
        ap₂ (λ (x y : ℕ).
        is_apart inst p.first p.second || (x == y) || nat_lt 0 (task_distance inst p.first x p.second y))
        (cranes p.first (omega (arith, r.0, r.1))) (cranes p.second r.1)

    by_turn : (turn : Turn) → ordered_pairs turn inst one ≡ ordered_pairs turn inst two
    by_turn OneWay = refl
    by_turn Free =
        filter_same (conflicts_in inst one) (conflicts_in inst two) (task_pairs inst)
        (all_same (task_pairs inst) (recursion_from_All (Rises inst) (task_pairs inst) (all_rise inst)))
      where
        all_same : (ps : List Pair) → AllByRecursion (Rises inst) ps
            → AllByRecursion (λ p. conflicts_in inst one p ≡ conflicts_in inst two p) ps
        all_same [] all = tt
        all_same (p ∷ ps) all = (same_test p all.0, all_same ps all.1)
