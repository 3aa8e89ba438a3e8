-- The highest of a place and some holds.
use Rattle.std.proofs.Common.{◌≡◌, ℕ, zero, suc, ◌<◌, ℤ, ◌≤ℤ◌, ◌⊎◌, inl, inr, refl, sym, ap, subst, ◌∙◌, arith}
use Rattle.std.proofs.lemmas.Bool.{cases_lt}
use Rattle.std.proofs.lemmas.Int.{by_lt_z, clamps, ints}
use Rattle.std.specs.Int.{int_max}
use Rattle.qc_freemove.specs.declared.hold.Hold.{Hold}
use Rattle.qc_freemove.specs.FreeSweep.{held, highest}

pub max_le : (a b y : ℤ) → a ≤ℤ y → b ≤ℤ y → int_max a b ≤ℤ y
max_le a b y h k = omega (arith, ints, clamps)

le_max_left : (a b : ℤ) → a ≤ℤ int_max a b
le_max_left a b = omega (arith, ints, clamps)

le_max_right : (a b : ℤ) → b ≤ℤ int_max a b
le_max_right a b = omega (arith, ints, clamps)

max_is : (a b : ℤ) → (int_max a b ≡ a) ⊎ (int_max a b ≡ b)
max_is a b = by_lt_z a b (λ l. inr (omega (arith, ints, clamps))) (λ l. inl (omega (arith, ints, clamps)))

through : (a b c : ℤ) → a ≤ℤ b → b ≤ℤ c → a ≤ℤ c
through a b c h k = omega (arith, ints)

module _ (h : ℕ → Hold) (z : ℤ) (m : ℕ) where
  abbrev top : ℕ → ℤ
  top n = highest h z m n

  -- what the highest is
  pub data IsTaken (n : ℕ) : Type 0 where
    by_floor : top n ≡ z → IsTaken n
    by_hold : (i : ℕ) → i < n → top n ≡ held (h i) m → IsTaken n

  pub highest_le : (n : ℕ) (y : ℤ) → z ≤ℤ y → ((i : ℕ) → i < n → held (h i) m ≤ℤ y) → top n ≤ℤ y
  highest_le zero y low all = low
  highest_le (suc n) y low all =
      max_le (top n) (held (h n) m) y (highest_le n y low (λ i l. all i (omega arith))) (all n (omega arith))

  pub highest_first : (n : ℕ) → z ≤ℤ top n
  highest_first zero = omega (arith, ints)
  highest_first (suc n) =
      through z (top n) (top (suc n)) (highest_first n) (le_max_left (top n) (held (h n) m))

  pub highest_most : (n i : ℕ) → i < n → held (h i) m ≤ℤ top n
  highest_most zero i low = absurd (omega arith)
  highest_most (suc n) i low = elim (cases_lt i n) [
    | inl l ↦ through (held (h i) m) (top n) (top (suc n)) (highest_most n i l)
        (le_max_left (top n) (held (h n) m))
    | inr l ↦
        let same : n ≡ i = omega arith in
        subst (λ (j : ℕ). held (h j) m ≤ℤ top (suc n)) same (le_max_right (top n) (held (h n) m))
  ]

  pub taken : (n : ℕ) → IsTaken n
  taken zero = by_floor refl
  taken (suc n) = elim (max_is (top n) (held (h n) m)) [
    | inl e ↦ before (taken n) e
    | inr e ↦ by_hold n (omega arith) e
  ]
    where
      before : IsTaken n → top (suc n) ≡ top n → IsTaken (suc n)
      before (by_floor f) e = by_floor (e ∙ f)
      before (by_hold i low f) e = by_hold i (omega arith) (e ∙ f)

  pub highest_next : (n k : ℕ) → suc n ≡ k → top k ≡ int_max (top n) (held (h n) m)
  highest_next n k e = ap top (sym e)
