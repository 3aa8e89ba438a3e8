-- How many of a list pass a test.
use Rattle.std.proofs.Common.{◌≡◌, ◌∙◌, ◌⊎◌, ◌+◌, ◌++◌, ◌∷◌, [], suc, ℕ, Bool, true, false, not, ◌&&◌, cond, List, length, refl, ap, inl, inr, arith}
use Rattle.std.specs.List.{count_by, filter, AllByRecursion as Each}
use Rattle.std.proofs.lemmas.Bool.{cases_Bool}
use Rattle.std.proofs.lemmas.List.Recursion.{is_count_by}

abbrev pub add : Bool → ℕ → ℕ
add true n = suc n
add false n = n

abbrev pub tally : {X : Type 0} → (X → Bool) → List X → ℕ
tally p [] = 0
tally p (x ∷ xs) = add (p x) (tally p xs)

pub tally_is : {X : Type 0} (p : X → Bool) (xs : List X) → tally p xs ≡ count_by p xs
tally_is p xs = is_count_by (tally p) p refl (λ x xs. step (p x) (tally p xs)) xs
  where
    step : (b : Bool) (n : ℕ) → add b n ≡ cond b (1 + n) n
    step true n = omega arith
    step false n = refl

pub tally_filter : {X : Type 0} (p : X → Bool) (xs : List X) → length (filter p xs) ≡ tally p xs
tally_filter p [] = refl
tally_filter p (x ∷ xs) = elim (cases_Bool (p x)) [
  | inl holds ↦ rw holds (ap suc (tally_filter p xs))
  | inr fails ↦ rw fails (tally_filter p xs)
]

pub tally_append : {X : Type 0} (p : X → Bool) (xs ys : List X) → tally p (xs ++ ys) ≡ tally p xs + tally p ys
tally_append p [] ys = omega arith
tally_append p (x ∷ xs) ys = elim (cases_Bool (p x)) [
  | inl holds ↦ rw holds (let ih = tally_append p xs ys in omega (arith, ih))
  | inr fails ↦ rw fails (tally_append p xs ys)
]

pub tally_agree : {X : Type 0} (p q : X → Bool) (xs : List X) → Each (λ x. p x ≡ q x) xs → tally p xs ≡ tally q xs
tally_agree p q [] each = refl
tally_agree p q (x ∷ xs) each = rw (each.0, tally_agree p q xs each.1) refl

pub tally_none : {X : Type 0} (p : X → Bool) (xs : List X) → Each (λ x. p x ≡ false) xs → tally p xs ≡ 0
tally_none p [] each = refl
tally_none p (x ∷ xs) each = rw each.0 (tally_none p xs each.1)

pub tally_all : {X : Type 0} (p : X → Bool) (xs : List X) → Each (λ x. p x ≡ true) xs → tally p xs ≡ length xs
tally_all p [] each = refl
tally_all p (x ∷ xs) each = rw each.0 (ap suc (tally_all p xs each.1))

-- a test, another that passes none of the same, and neither
pub tally_three : {X : Type 0} (p q : X → Bool) (xs : List X) → ((x : X) → p x ≡ true → q x ≡ false)
    → tally p xs + (tally (λ x. not (p x) && not (q x)) xs + tally q xs) ≡ length xs
tally_three p q [] apart = refl
tally_three p q (x ∷ xs) apart = elim (cases_Bool (p x)) [
  | inl holds ↦ rw (holds, apart x holds) (let ih = tally_three p q xs apart in omega (arith, ih))
  | inr fails ↦ elim (cases_Bool (q x)) [
    | inl yes' ↦ rw (fails, yes') (let ih = tally_three p q xs apart in omega (arith, ih))
    | inr no' ↦ rw (fails, no') (let ih = tally_three p q xs apart in omega (arith, ih))
  ]
]

pub tally_two : {X : Type 0} (p q : X → Bool) (xs : List X)
    → tally (λ x. p x && q x) xs + tally (λ x. p x && not (q x)) xs ≡ tally p xs
tally_two p q [] = refl
tally_two p q (x ∷ xs) = elim (cases_Bool (p x)) [
  | inr fails ↦ rw fails (tally_two p q xs)
  | inl holds ↦ elim (cases_Bool (q x)) [
    | inl yes' ↦ rw (holds, yes') (let ih = tally_two p q xs in omega (arith, ih))
    | inr no' ↦ rw (holds, no') (let ih = tally_two p q xs in omega (arith, ih))
  ]
]

pub tally_not : {X : Type 0} (p : X → Bool) (xs : List X) → tally p xs + tally (λ x. not (p x)) xs ≡ length xs
tally_not p [] = refl
tally_not p (x ∷ xs) = elim (cases_Bool (p x)) [
  | inl holds ↦ rw holds (let ih = tally_not p xs in omega (arith, ih))
  | inr fails ↦ rw fails (let ih = tally_not p xs in omega (arith, ih))
]

-- of two tests one passes at most, and a third passes what one of them does
pub tally_sum : {X : Type 0} (p q r : X → Bool) (xs : List X)
    → ((x : X) → ((q x ≡ false) × (r x ≡ p x)) ⊎ ((p x ≡ false) × (r x ≡ q x))) → tally p xs + tally q xs ≡ tally r xs
tally_sum p q r [] each = refl
tally_sum p q r (x ∷ xs) each = elim (each x) [
  | inl here ↦ rw (here.0, here.1) (front (p x) (tally p xs) (tally q xs) ∙ ap (add (p x)) (tally_sum p q r xs each))
  | inr here ↦ rw (here.0, here.1) (behind (q x) (tally p xs) (tally q xs) ∙ ap (add (q x)) (tally_sum p q r xs each))
]
  where
    front : (b : Bool) (m n : ℕ) → add b m + n ≡ add b (m + n)
    front true m n = omega arith
    front false m n = refl

    behind : (b : Bool) (m n : ℕ) → m + add b n ≡ add b (m + n)
    behind true m n = omega arith
    behind false m n = refl
