-- What holds of each element, and of each element and every later one, by recursion on the list.
use Rattle.std.proofs.Common.{◌≡◌, ◌⊎◌, ℕ, zero, suc, ◌+◌, ◌*◌, ◌<◌, ◌≤◌, ◌++◌, ◌∷◌, [], Bool, true, false, cond, List, map, refl, sym, ap, inl, inr, ◌∙◌, arith, AllPairs, Contains, count_by, sum_by}
use Rattle.std.specs.List.{filter, flat_map, list_any, range_with_len, zip, AllByRecursion as Each}
use Rattle.std.proofs.lemmas.Bool.{cases_Bool, or_cases}
use Rattle.std.proofs.lemmas.List.Elements.{All-from_recursion, recursion_from_All, Contains-append_left, Contains-append_right}
use Rattle.std.proofs.lemmas.List.Kept.{AllPairs-cons}
use Rattle.std.proofs.lemmas.List.Sums.{sum_by-cons, sum_by-append}

-- R holds of each element and each later one
abbrev pub EachPair : {X : Type 0} → (X → X → Type 0) → List X → Type 0
EachPair R [] = Unit {0}
EachPair R (x ∷ xs) = Each (R x) xs × EachPair R xs

pub each_from : {X : Type 0} (P : X → Type 0) (xs : List X) → ((x : X) → P x) → Each P xs
each_from P [] h = tt
each_from P (x ∷ xs) h = (h x, each_from P xs h)

pub each_weaker : {X : Type 0} (P Q : X → Type 0) (xs : List X) → ((x : X) → P x → Q x) → Each P xs → Each Q xs
each_weaker P Q [] h each = tt
each_weaker P Q (x ∷ xs) h each = (h x each.0, each_weaker P Q xs h each.1)

pub each_both : {X : Type 0} (P Q : X → Type 0) (xs : List X) → Each P xs → Each Q xs → Each (λ x. P x × Q x) xs
each_both P Q [] p q = tt
each_both P Q (x ∷ xs) p q = ((p.0, q.0), each_both P Q xs p.1 q.1)

pub each_append : {X : Type 0} (P : X → Type 0) (xs ys : List X) → Each P xs → Each P ys → Each P (xs ++ ys)
each_append P [] ys p q = q
each_append P (x ∷ xs) ys p q = (p.0, each_append P xs ys p.1 q)

pub each_flat_map : {X Y : Type 0} (P : Y → Type 0) (f : X → List Y) (xs : List X) → Each (λ x. Each P (f x)) xs → Each P (flat_map f xs)
each_flat_map P f [] p = tt
each_flat_map P f (x ∷ xs) p = each_append P (f x) (flat_map f xs) p.0 (each_flat_map P f xs p.1)

pub each_map : {X Y : Type 0} (P : Y → Type 0) (f : X → Y) (xs : List X) → Each (λ x. P (f x)) xs → Each P (map f xs)
each_map P f [] p = tt
each_map P f (x ∷ xs) p = (p.0, each_map P f xs p.1)

pub each_filter : {X : Type 0} (P : X → Type 0) (test : X → Bool) (xs : List X) → Each P xs → Each (λ x. P x × (test x ≡ true)) (filter test xs)
each_filter P test [] p = tt
each_filter P test (x ∷ xs) p = elim (cases_Bool (test x)) [
  | inl here ↦ rw here ((p.0, here), each_filter P test xs p.1)
  | inr other ↦ rw other (each_filter P test xs p.1)
]

pub each_zip : {X Y : Type 0} (P : X → Type 0) (Q : Y → Type 0) (xs : List X) (ys : List Y) → Each P xs → Each Q ys → Each (λ (z : X × Y). P z.0 × Q z.1) (zip xs ys)
each_zip P Q [] ys p q = tt
each_zip P Q (x ∷ xs) [] p q = tt
each_zip P Q (x ∷ xs) (y ∷ ys) p q = ((p.0, q.0), each_zip P Q xs ys p.1 q.1)

pub pair_weaker : {X : Type 0} (R S : X → X → Type 0) (xs : List X) → ((x y : X) → R x y → S x y) → EachPair R xs → EachPair S xs
pair_weaker R S [] h each = tt
pair_weaker R S (x ∷ xs) h each = (each_weaker (R x) (S x) xs (h x) each.0, pair_weaker R S xs h each.1)

pub pair_append : {X : Type 0} (R : X → X → Type 0) (xs ys : List X) → EachPair R xs → EachPair R ys → Each (λ x. Each (R x) ys) xs → EachPair R (xs ++ ys)
pair_append R [] ys p q cross = q
pair_append R (x ∷ xs) ys p q cross = (each_append (R x) xs ys p.0 cross.0, pair_append R xs ys p.1 q cross.1)

each_cross : {X Y : Type 0} (R : Y → Y → Type 0) (f : X → List Y) (zs : List Y) (xs : List X) → Each (λ x. Each (λ a. Each (R a) (f x)) zs) xs → Each (λ a. Each (R a) (flat_map f xs)) zs
each_cross R f zs [] p = each_from (λ a. Each (R a) []) zs (λ a. tt)
each_cross R f zs (x ∷ xs) p =
    each_weaker (λ a. Each (R a) (f x) × Each (R a) (flat_map f xs)) (λ a. Each (R a) (f x ++ flat_map f xs)) zs (λ a h. each_append (R a) (f x) (flat_map f xs) h.0 h.1)
    (each_both (λ a. Each (R a) (f x)) (λ a. Each (R a) (flat_map f xs)) zs p.0 (each_cross R f zs xs p.1))

pub pair_flat_map : {X Y : Type 0} (R : Y → Y → Type 0) (f : X → List Y) (xs : List X) → Each (λ x. EachPair R (f x)) xs → EachPair (λ x y. Each (λ a. Each (R a) (f y)) (f x)) xs → EachPair R (flat_map f xs)
pair_flat_map R f [] p q = tt
pair_flat_map R f (x ∷ xs) p q = pair_append R (f x) (flat_map f xs) p.0 (pair_flat_map R f xs p.1 q.1) (each_cross R f (f x) xs q.0)

pub pair_map : {X Y : Type 0} (R : Y → Y → Type 0) (f : X → Y) (xs : List X) → EachPair (λ x y. R (f x) (f y)) xs → EachPair R (map f xs)
pair_map R f [] p = tt
pair_map R f (x ∷ xs) p = (each_map (R (f x)) f xs p.0, pair_map R f xs p.1)

pub pair_filter : {X : Type 0} (R : X → X → Type 0) (test : X → Bool) (xs : List X) → EachPair R xs → EachPair R (filter test xs)
pair_filter R test [] p = tt
pair_filter R test (x ∷ xs) p = elim (cases_Bool (test x)) [
  | inl here ↦ rw here (each_weaker (λ y. R x y × (test y ≡ true)) (R x) (filter test xs) (λ y h. h.0) (each_filter (R x) test xs p.0), pair_filter R test xs p.1)
  | inr other ↦ rw other (pair_filter R test xs p.1)
]

pub pair_zip : {X Y : Type 0} (R : X → X → Type 0) (S : Y → Y → Type 0) (xs : List X) (ys : List Y) → EachPair R xs → EachPair S ys → EachPair (λ (a b : X × Y). R a.0 b.0 × S a.1 b.1) (zip xs ys)
pair_zip R S [] ys p q = tt
pair_zip R S (x ∷ xs) [] p q = tt
pair_zip R S (x ∷ xs) (y ∷ ys) p q = (each_zip (R x) (S y) xs ys p.0 q.0, pair_zip R S xs ys p.1 q.1)

pub pairs_by_index : {X : Type 0} (R : X → X → Type 0) (xs : List X) → EachPair R xs → AllPairs R xs
pairs_by_index R [] p = λ i j d h k. absurd (omega arith)
pairs_by_index R (x ∷ xs) p = AllPairs-cons R x xs (All-from_recursion (R x) xs p.0) (pairs_by_index R xs p.1)

pub pairs_from_index : {X : Type 0} (R : X → X → Type 0) (xs : List X) → AllPairs R xs → EachPair R xs
pairs_from_index R [] p = tt
pairs_from_index R (x ∷ xs) p =
    (recursion_from_All (R x) xs (λ k d h. p 0 (suc k) d (omega arith) (omega arith)), pairs_from_index R xs (λ i j d h k. p (suc i) (suc j) d (omega arith) (omega arith)))

-- an element that passes, and what holds of each
pub any_each : {X : Type 0} (P : X → Type 0) (test : X → Bool) (xs : List X) → Each P xs → list_any test xs ≡ true → (x : X) × (P x × (test x ≡ true))
any_each P test [] each any = cc any
any_each P test (x ∷ xs) each any = elim (or_cases (test x) (list_any test xs) any) [
  | inl here ↦ (x, (each.0, here))
  | inr later ↦ any_each P test xs each.1 later
]

pub any_some : {X : Type 0} (test : X → Bool) (xs : List X) → list_any test xs ≡ true → (x : X) × (test x ≡ true)
any_some test xs any = let found = any_each (λ _. Unit {0}) test xs (each_from (λ _. Unit {0}) xs (λ _. tt)) any in (found.0, found.1.1)

-- the numbers of a range
pub each_range : (a n : ℕ) → Each (λ k. (a ≤ k) × (k < a + n)) (range_with_len a n)
each_range a zero = tt
each_range a (suc n) = ((omega arith, omega arith), each_weaker (λ k. (a + 1 ≤ k) × (k < a + 1 + n)) _ (range_with_len (a + 1) n) (λ k h. (omega arith, omega arith)) (each_range (a + 1) n))

pub pair_range : (a n : ℕ) → EachPair (λ i j. i < j) (range_with_len a n)
pair_range a zero = tt
pair_range a (suc n) = (each_weaker (λ k. (a + 1 ≤ k) × (k < a + 1 + n)) _ (range_with_len (a + 1) n) (λ k h. omega arith) (each_range (a + 1) n), pair_range (a + 1) n)

pub contains_range : (a n k : ℕ) → a ≤ k → k < a + n → Contains (range_with_len a n) k
contains_range a zero k low high = absurd (omega arith)
contains_range a (suc n) k low high = elim (cases_here a k low) [
  | inl here ↦ (0, omega arith, here)
  | inr later ↦ let c = contains_range (a + 1) n k later (omega arith) in (suc c.0, omega (arith, c.1), c.2)
]
  where
    cases_here : (a k : ℕ) → a ≤ k → (a ≡ k) ⊎ (a + 1 ≤ k)
    cases_here a k h = grind arith

pub contains_flat_map : {X Y : Type 0} (f : X → List Y) (xs : List X) (x : X) (y : Y) → Contains xs x → Contains (f x) y → Contains (flat_map f xs) y
contains_flat_map f [] x y (k, lt, e) has = absurd (omega arith)
contains_flat_map f (z ∷ xs) x y (zero, lt, e) has = Contains-append_left (f z) (flat_map f xs) y (rw e has)
contains_flat_map f (z ∷ xs) x y (suc k, lt, e) has = Contains-append_right (f z) (flat_map f xs) y (contains_flat_map f xs x y (k, omega arith, e) has)

pub contains_filter : {X : Type 0} (test : X → Bool) (xs : List X) (x : X) → Contains xs x → test x ≡ true → Contains (filter test xs) x
contains_filter test [] x (k, lt, e) passes = absurd (omega arith)
contains_filter test (z ∷ xs) x (zero, lt, e) passes = let here : test z ≡ true = ap test e ∙ passes in rw here (0, omega arith, e)
contains_filter test (z ∷ xs) x (suc k, lt, e) passes = let c = contains_filter test xs x (k, omega arith, e) passes in elim (cases_Bool (test z)) [
  | inl here ↦ rw here (suc c.0, omega (arith, c.1), c.2)
  | inr other ↦ rw other c
]

-- sums
pub sum_by-flat_map : {X Y : Type 0} (g : Y → ℕ) (f : X → List Y) (xs : List X) → sum_by g (flat_map f xs) ≡ sum_by (λ x. sum_by g (f x)) xs
sum_by-flat_map g f [] = refl
sum_by-flat_map g f (x ∷ xs) = sum_by-append g (f x) (flat_map f xs) ∙ ap (λ n. sum_by g (f x) + n) (sum_by-flat_map g f xs) ∙ sym (sum_by-cons (λ x. sum_by g (f x)) x xs)

pub sum_by-each : {X : Type 0} (f g : X → ℕ) (xs : List X) → Each (λ x. f x ≤ g x) xs → sum_by f xs ≤ sum_by g xs
sum_by-each f g [] p = omega arith
sum_by-each f g (x ∷ xs) p = omega (arith, sum_by-cons f x xs, sum_by-cons g x xs, sum_by-each f g xs p.1, p.0)

pub sum_by-plus : {X : Type 0} (f g : X → ℕ) (xs : List X) → sum_by (λ x. f x + g x) xs ≡ sum_by f xs + sum_by g xs
sum_by-plus f g [] = refl
sum_by-plus f g (x ∷ xs) = omega (arith, sum_by-cons (λ x. f x + g x) x xs, sum_by-cons f x xs, sum_by-cons g x xs, sum_by-plus f g xs)

pub sum_by-same : {X : Type 0} (f g : X → ℕ) (xs : List X) → ((x : X) → f x ≡ g x) → sum_by f xs ≡ sum_by g xs
sum_by-same f g [] h = refl
sum_by-same f g (x ∷ xs) h = omega (arith, sum_by-cons f x xs, sum_by-cons g x xs, sum_by-same f g xs h, h x)

-- so many where the test passes, and else none
abbrev pub tally : Bool → ℕ → ℕ
tally b n = cond b n 0

pub count_none : {X : Type 0} (p : X → Bool) (xs : List X) → Each (λ x. p x ≡ false) xs → count_by p xs ≡ 0
count_none p [] each = refl
count_none p (x ∷ xs) each = let none : tally (p x) 1 ≡ 0 = rw each.0 refl in omega (arith, sum_by-cons (λ x. cond (p x) 1 0) x xs, count_none p xs each.1, none)

-- at most one passes where none after one that passes does
pub count_one : {X : Type 0} (p : X → Bool) (xs : List X) → EachPair (λ x y. p x ≡ true → p y ≡ false) xs → count_by p xs ≤ 1
count_one p [] pairs = omega arith
count_one p (x ∷ xs) pairs = elim (cases_Bool (p x)) [
  | inl here ↦
      let one : tally (p x) 1 ≡ 1 = rw here refl in
      omega (arith, sum_by-cons (λ x. cond (p x) 1 0) x xs, one, count_none p xs (each_weaker (λ y. p x ≡ true → p y ≡ false) (λ y. p y ≡ false) xs (λ y h. h here) pairs.0))
  | inr other ↦ let none : tally (p x) 1 ≡ 0 = rw other refl in omega (arith, sum_by-cons (λ x. cond (p x) 1 0) x xs, none, count_one p xs pairs.1)
]

pub count_four : {X : Type 0} (p : X → Bool) (xs : List X) → sum_by (λ x. cond (p x) 4 0) xs ≡ 4 * count_by p xs
count_four p [] = refl
count_four p (x ∷ xs) = elim (cases_Bool (p x)) [
  | inl here ↦
      let one : tally (p x) 1 ≡ 1 = rw here refl in let four : tally (p x) 4 ≡ 4 = rw here refl in
      omega (arith, sum_by-cons (λ x. cond (p x) 1 0) x xs, sum_by-cons (λ x. cond (p x) 4 0) x xs, one, four, count_four p xs)
  | inr other ↦
      let none : tally (p x) 1 ≡ 0 = rw other refl in let none' : tally (p x) 4 ≡ 0 = rw other refl in
      omega (arith, sum_by-cons (λ x. cond (p x) 1 0) x xs, sum_by-cons (λ x. cond (p x) 4 0) x xs, none, none', count_four p xs)
]
