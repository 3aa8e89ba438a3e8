-- How often a number stands in lists that are made of tests over ranges.
use Rattle.std.proofs.Common.{◌≡◌, ℕ, zero, suc, ◌+◌, ◌<◌, ◌≤◌, ◌==◌, Bool, true, false, cond, List, [], ◌∷◌, ◌++◌, length, get_or, refl, sym, ap, inl, inr, ◌∙◌, append-nil, arith, Contains, count_by, sum_by}
use Rattle.std.specs.List.{filter, range_with_len}
use Rattle.std.proofs.lemmas.Bool.{cases_order, eq-eqb, ne_eqb}
use Rattle.std.proofs.lemmas.List.Folds.{fold-map}
use Rattle.std.proofs.lemmas.List.FromFn.{fill_by_all}
use Rattle.std.proofs.lemmas.List.Sums.{count_by-le-length, sum_by-cons, sum_by_push}
use Rattle.std.proofs.lemmas.List.Elements.{filter-append}
use Rattle.qc_tasks.proofs.Lists.{sum_by-plus, sum_by-same, tally}
use Rattle.qc_tasks.proofs.Loops.{range_more}

-- ---- sums over what passes a test

pub sum_by-filter : {X : Type 0} (f : X → ℕ) (p : X → Bool) (xs : List X) → sum_by f (filter p xs) ≡ sum_by (λ x. cond (p x) (f x) 0) xs
sum_by-filter f p [] = refl
sum_by-filter f p (x ∷ xs) =
    step f x (filter p xs) (p x) ∙ ap (λ (n : ℕ). tally (p x) (f x) + n) (sum_by-filter f p xs) ∙ sym (sum_by-cons (λ y. cond (p y) (f y) 0) x xs)
  where
    step : {X : Type 0} (f : X → ℕ) (x : X) (ys : List X) (b : Bool) → sum_by f (cond b (x ∷ ys) ys) ≡ tally b (f x) + sum_by f ys
    step f x ys true = sum_by-cons f x ys
    step f x ys false = omega arith

pub sum_by-nothing : {X : Type 0} (f : X → ℕ) (xs : List X) → ((x : X) → f x ≡ 0) → sum_by f xs ≡ 0
sum_by-nothing f [] none = refl
sum_by-nothing f (x ∷ xs) none = omega (arith, sum_by-cons f x xs, none x, sum_by-nothing f xs none)

-- the order of two sums doesn't matter
pub sums_swapped : {X Y : Type 0} (f : X → Y → ℕ) (xs : List X) (ys : List Y) → sum_by (λ x. sum_by (f x) ys) xs ≡ sum_by (λ y. sum_by (λ x. f x y) xs) ys
sums_swapped f [] ys = sym (sum_by-nothing (λ y. sum_by (λ x. f x y) []) ys (λ y. refl))
sums_swapped f (x ∷ xs) ys =
    sum_by-cons (λ x'. sum_by (f x') ys) x xs ∙ ap (λ (n : ℕ). sum_by (f x) ys + n) (sums_swapped f xs ys)
    ∙ sym (sum_by-plus (f x) (λ y. sum_by (λ x'. f x' y) xs) ys)
    ∙ sum_by-same (λ y. f x y + sum_by (λ x'. f x' y) xs) (λ y. sum_by (λ x'. f x' y) (x ∷ xs)) ys (λ y. sym (sum_by-cons (λ x'. f x' y) x xs))

-- ---- over a range of numbers

before_range : (f : ℕ → ℕ) (n a len : ℕ) → n < a → sum_by (λ k. cond (k == n) (f k) 0) (range_with_len a len) ≡ 0
before_range f n a zero lt = refl
before_range f n a (suc len) lt =
    let none : tally (a == n) (f a) ≡ 0 = ap (λ (b : Bool). tally b (f a)) (ne_eqb a n (λ e. omega arith)) in
    omega (arith, sum_by-cons (λ k. cond (k == n) (f k) 0) a (range_with_len (a + 1) len), none, before_range f n (a + 1) len (omega arith))

-- the one number of a range that is n
pub sum_at : (f : ℕ → ℕ) (n a len : ℕ) → a ≤ n → n < a + len → sum_by (λ k. cond (k == n) (f k) 0) (range_with_len a len) ≡ f n
sum_at f n a zero le lt = absurd (omega arith)
sum_at f n a (suc len) le lt = elim (cases_order a n) [
  | inl same ↦
      let one : tally (a == n) (f a) ≡ f n = ap (λ (b : Bool). tally b (f a)) (eq-eqb a n same) ∙ ap f same in
      omega (arith, sum_by-cons (λ k. cond (k == n) (f k) 0) a (range_with_len (a + 1) len), one, before_range f n (a + 1) len (omega arith))
  | inr other ↦ elim other [
    | inl below ↦
        let none : tally (a == n) (f a) ≡ 0 = ap (λ (b : Bool). tally b (f a)) (ne_eqb a n (λ e. omega arith)) in
        omega (arith, sum_by-cons (λ k. cond (k == n) (f k) 0) a (range_with_len (a + 1) len), none, sum_at f n (a + 1) len (omega arith) (omega arith))
    | inr above ↦ absurd (omega arith)
  ]
]

-- how often n stands among the numbers below a count that pass a test
pub count_among : (p : ℕ → Bool) (n count : ℕ) → n < count → count_by (λ k. k == n) (filter p (range_with_len 0 count)) ≡ cond (p n) 1 0
count_among p n count lt =
    sum_by-filter (λ k. cond (k == n) 1 0) p (range_with_len 0 count)
    ∙ sum_by-same (λ k. cond (p k) (cond (k == n) 1 0) 0) (λ k. cond (k == n) (cond (p k) 1 0) 0) (range_with_len 0 count) (λ k. turned (p k) (k == n) 1)
    ∙ sum_at (λ k. cond (p k) 1 0) n 0 count (omega arith) (omega arith)
  where
    turned : (a b : Bool) (one : ℕ) → tally a (tally b one) ≡ tally b (tally a one)
    turned true true one = refl
    turned true false one = refl
    turned false true one = refl
    turned false false one = refl

-- fewer than all pass where one fails
pub count_less : {X : Type 0} (p : X → Bool) (xs : List X) (x : X) → Contains xs x → p x ≡ false → count_by p xs < length xs
count_less p [] x (k, lt, is) fails = absurd (omega arith)
count_less p (y ∷ ys) x (zero, lt, is) fails =
    let none : tally (p y) 1 ≡ 0 = ap (λ z. tally (p z) 1) is ∙ ap (λ (b : Bool). tally b 1) fails in
    omega (arith, sum_by-cons (λ z. cond (p z) 1 0) y ys, none, count_by-le-length p ys)
count_less p (y ∷ ys) x (suc k, lt, is) fails =
    omega (arith, sum_by-cons (λ z. cond (p z) 1 0) y ys, at_most_one (p y), count_less p ys x (k, omega arith, is) fails)
  where
    at_most_one : (b : Bool) → cond b 1 0 ≤ 1
    at_most_one true = omega arith
    at_most_one false = omega arith

-- a sum over the elements of a list is one over their places
pub sum_by_places : {X : Type 0} (f : X → ℕ) (xs : List X) (d : X) → sum_by (λ k. f (get_or xs k d)) (range_with_len 0 (length xs)) ≡ sum_by f xs
sum_by_places f xs d =
    sym (fold-map (λ a x. a + f x) (λ k. get_or xs k d) 0 (range_with_len 0 (length xs)))
    ∙ ap (sum_by f) (sym (fill_by_all (λ k. get_or xs k d) xs (length xs) d refl (λ k lt. refl)))

-- ---- one number more

pub count_more : (p : ℕ → Bool) (n : ℕ) → count_by p (range_with_len 0 (n + 1)) ≡ count_by p (range_with_len 0 n) + tally (p n) 1
count_more p n = ap (count_by p) (range_more n (n + 1) refl) ∙ sum_by_push (λ k. cond (p k) 1 0) (range_with_len 0 n) n

filter_more : (p : ℕ → Bool) (n : ℕ) (b : Bool) → p n ≡ b → filter p (range_with_len 0 (n + 1)) ≡ filter p (range_with_len 0 n) ++ cond b (n ∷ []) []
filter_more p n b e =
    ap (filter p) (range_more n (n + 1) refl) ∙ filter-append p (range_with_len 0 n) (n ∷ [])
    ∙ ap (λ (l : List ℕ). filter p (range_with_len 0 n) ++ l) (ap (λ (c : Bool). cond c (n ∷ []) []) e)

pub numbers_yes : (p : ℕ → Bool) (n : ℕ) (now next : List ℕ) → p n ≡ true → now ≡ filter p (range_with_len 0 n) → next ≡ now ++ n ∷ [] → next ≡ filter p (range_with_len 0 (n + 1))
numbers_yes p n now next passed had more = more ∙ ap (λ (l : List ℕ). l ++ n ∷ []) had ∙ sym (filter_more p n true passed)

pub numbers_no : (p : ℕ → Bool) (n : ℕ) (now : List ℕ) → p n ≡ false → now ≡ filter p (range_with_len 0 n) → now ≡ filter p (range_with_len 0 (n + 1))
numbers_no p n now failed had = had ∙ sym (append-nil (filter p (range_with_len 0 n))) ∙ sym (filter_more p n false failed)
