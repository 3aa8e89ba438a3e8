-- The tasks that are left, by their numbers.
use Rattle.std.proofs.Common.{◌≡◌, ◌≢◌, ℕ, zero, suc, ◌+◌, ◌-◌, ◌<◌, inl, inr, Bool, true, cond, List, [], ◌∷◌, length, take, slice_index_or, ap, sym, ◌∙◌, arith}
use Rattle.std.specs.List.{count_by}
use Rattle.std.proofs.lemmas.Bool.{cases_Bool, cases_eq, cases_order}
use Rattle.std.proofs.lemmas.List.Sums.{sum_by-cons}

abbrev pub tally : Bool → ℕ
tally b = cond b 1 0

pub count-cons : {X : Type 0} (p : X → Bool) (x : X) (xs : List X) → count_by p (x ∷ xs) ≡ tally (p x) + count_by p xs
count-cons p x xs = sum_by-cons (λ y. cond (p y) 1 0) x xs

-- an element that passes has a number below the count
pub count_below : {X : Type 0} (p : X → Bool) (xs : List X) (j : ℕ) (d : X) → j < length xs → p (slice_index_or xs j d) ≡ true
    → count_by p (take j xs) < count_by p xs
count_below p [] j d low passes = absurd (omega arith)
count_below p (x ∷ xs) zero d low passes = omega (arith, count-cons p x xs, ap tally passes)
count_below p (x ∷ xs) (suc j) d low passes =
    omega (arith, count-cons p x xs, count-cons p x (take j xs), count_below p xs j d (omega arith) passes)

-- and a lower one than each later element
pub count_rises : {X : Type 0} (p : X → Bool) (xs : List X) (i j : ℕ) (d : X) → i < j → i < length xs → p (slice_index_or xs i d) ≡ true
    → count_by p (take i xs) < count_by p (take j xs)
count_rises p [] i j d less low passes = absurd (omega arith)
count_rises p (x ∷ xs) i zero d less low passes = absurd (omega arith)
count_rises p (x ∷ xs) zero (suc j) d less low passes = omega (arith, count-cons p x (take j xs), ap tally passes)
count_rises p (x ∷ xs) (suc i) (suc j) d less low passes =
    omega (arith, count-cons p x (take i xs), count-cons p x (take j xs), count_rises p xs i j d (omega arith) (omega arith) passes)

-- two of them have two numbers
pub counts_differ : {X : Type 0} (p : X → Bool) (xs : List X) (i j : ℕ) (d : X) → i ≢ j → i < length xs → j < length xs
    → p (slice_index_or xs i d) ≡ true → p (slice_index_or xs j d) ≡ true → count_by p (take i xs) ≢ count_by p (take j xs)
counts_differ p xs i j d differ first second here there same = elim (cases_order i j) [
  | inl e ↦ differ e
  | inr u ↦ elim u [
    | inl less ↦ absurd (omega (arith, same, count_rises p xs i j d less first here))
    | inr more ↦ absurd (omega (arith, same, count_rises p xs j i d more second there))
  ]
]

-- each number below the count is one of them
pub record HasNumber {X : Type 0} (p : X → Bool) (xs : List X) (d : X) (a : ℕ) : Type 0 where
  pub at : ℕ
  pub inside : at < length xs
  pub passes : p (slice_index_or xs at d) ≡ true
  pub number : count_by p (take at xs) ≡ a

later : {X : Type 0} (p : X → Bool) (x : X) (xs : List X) (d : X) (a b : ℕ) → tally (p x) + a ≡ b → HasNumber p xs d a → HasNumber p (x ∷ xs) d b
later p x xs d a b e is = record {
  at = suc is.at;
  inside = omega (arith, is.inside);
  passes = is.passes;
  number = count-cons p x (take is.at xs) ∙ omega (arith, is.number, e);
}

pub numbered : {X : Type 0} (p : X → Bool) (xs : List X) (d : X) (a : ℕ) → a < count_by p xs → HasNumber p xs d a
numbered p [] d a low = absurd (omega arith)
numbered p (x ∷ xs) d a low = elim (cases_Bool (p x)) [
  | inr fails ↦ later p x xs d a a (omega (arith, ap tally fails)) (numbered p xs d a (omega (arith, count-cons p x xs, ap tally fails)))
  | inl passes ↦ elim (cases_eq a 0) [
    | inl first ↦ record { at = 0; inside = omega arith; passes = passes; number = sym first }
    | inr more ↦ later p x xs d (a - 1) a (omega (arith, ap tally passes, more))
        (numbered p xs d (a - 1) (omega (arith, count-cons p x xs, ap tally passes, more)))
  ]
]
