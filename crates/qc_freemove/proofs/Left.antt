-- How many of some moments are still to come.
use Rattle.std.proofs.Common.{◌≡◌, ℕ, zero, suc, ◌+◌, ◌<◌, ◌≤◌, cond, nat_lt, inl, inr, arith}
use Rattle.std.proofs.lemmas.Bool.{cond_both, cases_lt, lt-ltb, le-ltb}

module _ (f : ℕ → ℕ) where
  -- of the first n moments those at m or later
  pub left : ℕ → ℕ → ℕ
  left zero m = 0
  left (suc n) m = cond (nat_lt (f n) m) 0 1 + left n m

  one : (n m k : ℕ) → m ≤ k → cond (nat_lt (f n) k) 0 1 ≤ cond (nat_lt (f n) m) 0 1
  one n m k low = elim (cases_lt (f n) m) [
    | inl h ↦ rw (lt-ltb (f n) m h, lt-ltb (f n) k (omega arith)) (omega arith)
    | inr h ↦ rw (le-ltb (f n) m h)
        (cond_both (nat_lt (f n) k) 0 1 (λ (x : ℕ). x ≤ 1) (λ _. omega arith) (λ _. omega arith))
  ]

  pub left_le : (n m : ℕ) → left n m ≤ n
  unfolding left
  left_le zero m = omega arith
  left_le (suc n) m =
      let h = left_le n m in
      cond_both (nat_lt (f n) m) 0 1 (λ (x : ℕ). x + left n m ≤ suc n) (λ _. omega arith) (λ _. omega arith)

  pub left_falls : (n m k : ℕ) → m ≤ k → left n k ≤ left n m
  unfolding left
  left_falls zero m k low = omega arith
  left_falls (suc n) m k low = omega (arith, one n m k low, left_falls n m k low)

  -- a moment that is now counts no more
  pub left_less : (n m i : ℕ) → i < n → f i ≡ m → left n (m + 1) + 1 ≤ left n m
  unfolding left
  left_less zero m i low is = absurd (omega arith)
  left_less (suc n) m i low is = elim (cases_lt i n) [
    | inl l ↦ omega (arith, one n m (m + 1) (omega arith), left_less n m i l is)
    | inr l ↦
        let same : i ≡ n = omega arith in
        let now : f n ≡ m = rw (← same) is in
        rw (le-ltb (f n) m (omega arith), lt-ltb (f n) (m + 1) (omega arith))
        (omega (arith, left_falls n m (m + 1) (omega arith)))
  ]
