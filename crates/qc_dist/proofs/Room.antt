-- There are no more decisions than tasks and pairs that may get an order together.
use Rattle.std.proofs.Common.{◌≡◌, ◌≢◌, ℕ, zero, suc, ◌+◌, ◌-◌, ◌*◌, ◌<◌, ◌≤◌, ◌⊎◌, Bool, true, false, not, cond, ◌&&◌, ◌||◌, nat_eq, Option, None, Some, List, [], ◌∷◌, ◌++◌, length, length-append, map, Contains, slice_index_or, inl, inr, refl, sym, ap, subst, ◌∙◌, arith, is_none}
use Rattle.std.specs.List.{count_by, range_with_len}
use Rattle.std.proofs.lemmas.Bool.{cases_eq, cases_lt, eq-eqb}
use Rattle.std.proofs.lemmas.List.FromFn.{get_or-map-range_with_len, get_or-range_with_len, length-map-range_with_len, length-range_with_len}
use Rattle.std.proofs.lemmas.List.Elements.{Contains-append_left, Contains-append_right}
use Rattle.std.proofs.lemmas.List.Sums.{count_by-le-length}
use Rattle.std.proofs.lemmas.Nat.{mul-le}
use Rattle.qc_model.specs.declared.decision.Decision.{Decision}
use Rattle.qc_model.specs.declared.decision.Decision.TheVariants.{Assign, Order}
use Rattle.qc_model.specs.declared.pair.Pair.{Pair}
use Rattle.qc_model.specs.declared.turn.Turn.{Turn}
use Rattle.qc_model.specs.declared.turn.Turn.TheVariants.{OneWay, Free}
use Rattle.qc_model.specs.Instance.{InstanceView, Valid, pair_of}
use Rattle.qc_model.specs.Nodes.{Conflicts, Fits, assigned, is_ordered, order_pairs, order_pairs_by}
use Rattle.qc_model.proofs.NodeLemmas.{conflict_differs, conflict_inside, one_way_apart, before_found}
use Rattle.qc_dist.proofs.Sums.{count_less}
use Rattle.qc_dist.proofs.Assigned.{ordered_here}

abbrev pub is_unordered : List Decision → Pair → Bool
is_unordered ds p = not (is_ordered ds p.first p.second || is_ordered ds p.second p.first)

-- how many tasks no crane has
abbrev pub unassigned : InstanceView → List Decision → ℕ
unassigned inst ds = count_by (λ j. is_none (assigned ds j)) (range_with_len 0 (length inst.tasks))

-- all pairs of the first so many tasks, the lower first
abbrev pairs_below : ℕ → List Pair
pairs_below zero = []
pairs_below (suc n) = map (λ i. pair_of i n) (range_with_len 0 n) ++ pairs_below n

-- the pairs that may get an order
abbrev orders_by : Turn → InstanceView → List Pair
orders_by OneWay inst = inst.apart
orders_by Free inst = pairs_below (length inst.tasks)

abbrev orders : InstanceView → List Pair
orders inst = orders_by inst.turn inst

-- what is unassigned after a decision was so before it
none_before : (b : Bool) (k : ℕ) (o : Option ℕ) → is_none (cond b (Some k) o) ≡ true → is_none o ≡ true
none_before true k o h = cc
none_before false k o h = h

none_before_or : (x u y v : Bool) → not ((x || u) || (y || v)) ≡ true → not (u || v) ≡ true
none_before_or true u y v h = cc
none_before_or false true y v h = cc
none_before_or false false true v h = cc
none_before_or false false false v h = h

either : (x y : Bool) → x ≡ false → y ≡ false → not (x || y) ≡ true
either x y p q = ap (λ b. not (b || y)) p ∙ ap not q

first_of_two : (x y : Bool) → x ≡ true → not (x || y) ≡ false
first_of_two x y p = ap (λ b. not (b || y)) p

second_of_two : (x y : Bool) → y ≡ true → not (x || y) ≡ false
second_of_two true y p = refl
second_of_two false y p = ap not p

-- an ordered pair was unordered before it
ordered_before : (ds : List Decision) (i j : ℕ) (p : Pair)
    → is_unordered (Order i j ∷ ds) p ≡ true → is_unordered ds p ≡ true
ordered_before ds i j p h =
    none_before_or (nat_eq i p.first && nat_eq j p.second) (is_ordered ds p.first p.second)
    (nat_eq i p.second && nat_eq j p.first) (is_ordered ds p.second p.first) h

-- one of the two pairs is in the list
less_of : (pairs : List Pair) (ds : List Decision) (i j : ℕ)
    → Contains pairs (pair_of i j) ⊎ Contains pairs (pair_of j i)
    → is_ordered ds i j ≡ false → is_ordered ds j i ≡ false
    → count_by (is_unordered (Order i j ∷ ds)) pairs + 1 ≤ count_by (is_unordered ds) pairs
less_of pairs ds i j (inl at) one other =
    let ordered = is_ordered (Order i j ∷ ds) in
    let after = is_unordered (Order i j ∷ ds) in
    count_less after (is_unordered ds) (ordered_before ds i j) pairs at.0 (pair_of i j) at.1
    (ap (is_unordered ds) at.2 ∙ either (is_ordered ds i j) (is_ordered ds j i) one other)
    (ap after at.2 ∙ first_of_two (ordered i j) (ordered j i) (ordered_here ds i j))
less_of pairs ds i j (inr at) one other =
    let ordered = is_ordered (Order i j ∷ ds) in
    let after = is_unordered (Order i j ∷ ds) in
    count_less after (is_unordered ds) (ordered_before ds i j) pairs at.0 (pair_of j i) at.1
    (ap (is_unordered ds) at.2 ∙ either (is_ordered ds j i) (is_ordered ds i j) other one)
    (ap after at.2 ∙ second_of_two (ordered j i) (ordered i j) (ordered_here ds i j))

-- two tasks that differ are a pair
pair_below : (n i j : ℕ) → i < j → j < n → Contains (pairs_below n) (pair_of i j)
pair_below zero i j low high = absurd (omega arith)
pair_below (suc n) i j low high = elim (cases_eq j n) [
  | inl last ↦
      let row = map (λ (k : ℕ). pair_of k n) (range_with_len 0 n) in
      let at : i < n = omega arith in
      let is = get_or-map-range_with_len (λ (k : ℕ). pair_of k n) 0 n i i (pair_of i n) at (omega arith) in
      let count = length-map-range_with_len (λ (k : ℕ). pair_of k n) 0 n in
      subst (λ (m : ℕ). Contains (pairs_below (suc n)) (pair_of i m)) (sym last)
      (Contains-append_left row (pairs_below n) (pair_of i n) (i, omega (arith, at, count), is))
  | inr other ↦
      Contains-append_right (map (λ (k : ℕ). pair_of k n) (range_with_len 0 n)) (pairs_below n) (pair_of i j)
      (pair_below n i j low (omega (arith, other)))
]

in_orders_free : (n i j : ℕ) → i < n → j < n → i ≢ j
    → Contains (pairs_below n) (pair_of i j) ⊎ Contains (pairs_below n) (pair_of j i)
in_orders_free n i j low high differ = elim (cases_lt i j) [
  | inl up ↦ inl (pair_below n i j up high)
  | inr down ↦ inr (pair_below n j i (omega (arith, down, differ)) low)
]

-- a pair that conflicts may get an order
in_orders : (inst : InstanceView) → Valid inst → (ds : List Decision) (i j : ℕ) → Conflicts inst ds i j
    → Contains (orders inst) (pair_of i j) ⊎ Contains (orders inst) (pair_of j i)
in_orders inst valid ds i j conflict = by_turn inst.turn refl
  where
    by_turn : (turn : Turn) → inst.turn ≡ turn
        → Contains (orders_by turn inst) (pair_of i j) ⊎ Contains (orders_by turn inst) (pair_of j i)
    by_turn OneWay is = elim (one_way_apart inst is ds i j conflict) [
      | inl apart ↦ inl (before_found i j inst.apart apart)
      | inr apart ↦ inr (before_found j i inst.apart apart)
    ]
    by_turn Free is =
        let inside = conflict_inside inst valid ds i j conflict in
        in_orders_free (length inst.tasks) i j inside.0 inside.1 (conflict_differs inst valid ds i j conflict)

-- twice as many as are below n
count_below : (n : ℕ) → 2 * length (pairs_below n) ≡ n * (n - 1)
count_below zero = refl
count_below (suc n) =
    let row = length-map-range_with_len (λ (k : ℕ). pair_of k n) 0 n in
    let both = length-append (map (λ (k : ℕ). pair_of k n) (range_with_len 0 n)) (pairs_below n) in
    let less : suc n - 1 ≡ n = omega arith in
    let product : suc n * n ≡ n + n * n = omega arith in
    omega (arith, both, row, count_below n, product, square n, ap (λ (m : ℕ). suc n * m) less)
  where
    square : (m : ℕ) → m * m ≡ m * (m - 1) + m
    square zero = refl
    square (suc m) = let less : suc m - 1 ≡ m = omega arith in omega (arith, ap (λ (k : ℕ). suc m * k) less)

-- there are as many as the definition says
orders_count : (inst : InstanceView) → length (orders inst) ≡ order_pairs inst
orders_count inst = by_turn inst.turn
  where
    by_turn : (turn : Turn) → length (orders_by turn inst) ≡ order_pairs_by turn inst
    by_turn OneWay = refl
    by_turn Free =
        let n = length inst.tasks in
        omega (arith, count_below n)

-- how many pairs that may get an order have none
abbrev pub unordered_left : InstanceView → List Decision → ℕ
unordered_left inst ds = count_by (is_unordered ds) (orders inst)

-- an order more leaves less
pub order_less : (inst : InstanceView) → Valid inst → (ds : List Decision) (i j : ℕ) → Conflicts inst ds i j
    → is_ordered ds i j ≡ false → is_ordered ds j i ≡ false
    → unordered_left inst (Order i j ∷ ds) + 1 ≤ unordered_left inst ds
order_less inst valid ds i j conflict one other =
    less_of (orders inst) ds i j (in_orders inst valid ds i j conflict) one other

-- before any decision all tasks are unassigned and all these pairs without an order
pub none_left : (inst : InstanceView) → unassigned inst [] + unordered_left inst [] ≤ length inst.tasks + order_pairs inst
none_left inst =
    let tasks = count_by-le-length (λ (j : ℕ). true) (range_with_len 0 (length inst.tasks)) in
    let pairs = count_by-le-length (λ (p : Pair). true) (orders inst) in
    omega (arith, tasks, pairs, orders_count inst, length-range_with_len 0 (length inst.tasks))

pub assigned_less : (inst : InstanceView) (ds : List Decision) (i k : ℕ)
    → i < length inst.tasks → assigned ds i ≡ None
    → unassigned inst (Assign i k ∷ ds) + 1 ≤ unassigned inst ds
assigned_less inst ds i k inside none =
    let at : slice_index_or (range_with_len 0 (length inst.tasks)) i 0 ≡ i = omega (arith, get_or-range_with_len 0 (length inst.tasks) i 0 inside) in
    let count = length-range_with_len 0 (length inst.tasks) in
    count_less (λ j. is_none (assigned (Assign i k ∷ ds) j)) (λ j. is_none (assigned ds j))
    (λ j h. none_before (nat_eq i j) k (assigned ds j) h)
    (range_with_len 0 (length inst.tasks)) i 0 (omega arith)
    (ap (λ j. is_none (assigned ds j)) at ∙ ap is_none none)
    (ap (λ j. is_none (assigned (Assign i k ∷ ds) j)) at ∙ ap (λ b. is_none (cond b (Some k) (assigned ds i))) (eq-eqb i i refl))

counted : (inst : InstanceView) → Valid inst → (ds : List Decision) → Fits inst ds
    → length ds + (unassigned inst ds + unordered_left inst ds) ≤ length inst.tasks + order_pairs inst
counted inst valid [] f = omega (arith, none_left inst)
counted inst valid (Assign i k ∷ ds) f =
    omega (arith, counted inst valid ds f.3, assigned_less inst ds i k f.0 f.2)
counted inst valid (Order i j ∷ ds) f =
    omega (arith, counted inst valid ds f.3, order_less inst valid ds i j f.0 f.1 f.2)

pub fits_room : (inst : InstanceView) → Valid inst → (ds : List Decision) → Fits inst ds
    → length ds ≤ length inst.tasks + order_pairs inst
fits_room inst valid ds f = omega (arith, counted inst valid ds f)

-- and there are few such pairs
pub few_orders : (inst : InstanceView) → Valid inst → order_pairs inst ≤ 28680
few_orders inst valid = by_turn inst.turn
  where
    by_turn : (turn : Turn) → order_pairs_by turn inst ≤ 28680
    by_turn OneWay = omega (arith, valid.apart.count)
    by_turn Free =
        let n = length inst.tasks in
        let few : n ≤ 240 = valid.tasks.count in
        let less : n - 1 ≤ 239 = omega (arith, few) in
        let product : n * (n - 1) ≤ 240 * 239 = mul-le n (n - 1) 240 239 few less in
        omega (arith, product)
