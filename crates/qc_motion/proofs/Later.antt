-- How many elements of a list come later than a tick.
use Rattle.std.proofs.Common.{ℕ, zero, suc, ◌+◌, ◌<◌, ◌≤◌, cond, List, [], ◌∷◌, length, get_or, nat_lt, inl, inr, arith}
use Rattle.std.proofs.lemmas.Bool.{cond_both, cases_lt, lt-ltb, le-ltb}

module _ {X : Type 0} (f : X → ℕ) where
  pub later : ℕ → List X → ℕ
  later m [] = 0
  later m (x ∷ xs) = cond (nat_lt m (f x)) 1 0 + later m xs

  step : (m n : ℕ) (x : X) → m ≤ n → cond (nat_lt n (f x)) 1 0 ≤ cond (nat_lt m (f x)) 1 0
  step m n x low = elim (cases_lt n (f x)) [
    | inl h ↦ rw (lt-ltb n (f x) h, lt-ltb m (f x) (omega arith)) (omega arith)
    | inr h ↦ rw (le-ltb n (f x) h) (omega arith)
  ]

  pub later_le : (m : ℕ) (xs : List X) → later m xs ≤ length xs
  unfolding later
  later_le m [] = omega arith
  later_le m (x ∷ xs) =
      let h = later_le m xs in
      cond_both (nat_lt m (f x)) 1 0 (λ n. n + later m xs ≤ suc (length xs)) (λ _. omega arith) (λ _. omega arith)

  pub later_falls : (m n : ℕ) (xs : List X) → m ≤ n → later n xs ≤ later m xs
  unfolding later
  later_falls m n [] low = omega arith
  later_falls m n (x ∷ xs) low = omega (arith, step m n x low, later_falls m n xs low)

  -- an element that comes by the second tick and after the first counts no more
  pub later_less : (m n : ℕ) (xs : List X) (i : ℕ) (d : X) → m ≤ n → i < length xs
      → m < f (get_or xs i d) → f (get_or xs i d) ≤ n → later n xs + 1 ≤ later m xs
  unfolding later
  later_less m n [] i d low inside after by = absurd (omega arith)
  later_less m n (x ∷ xs) zero d low inside after by =
      rw (le-ltb n (f x) by, lt-ltb m (f x) after) (omega (arith, later_falls m n xs low))
  later_less m n (x ∷ xs) (suc i) d low inside after by =
      omega (arith, step m n x low, later_less m n xs i d low (omega arith) after by)
