-- An array that is written from its front on.
use Rattle.std.proofs.Common.{◌≡◌, ℕ, ◌+◌, ◌<◌, ◌≤◌, List, length, get_or, set, sym, subst, inl, inr, arith}
use Rattle.std.proofs.lemmas.Bool.{cases_lt}
use Rattle.std.proofs.lemmas.List.{get_or-set_other, get_or-set_same}

module _ {X : Type 0} (xs : List X) (i : ℕ) (v d : X) (low : i < length xs) where
  -- what holds of each element so far, and of the next one
  pub set_more : (P : ℕ → X → Type 0) → ((k : ℕ) → k < i → P k (get_or xs k d)) → P i v
      → (k : ℕ) → k < i + 1 → P k (get_or (set xs i v) k d)
  set_more P before here k h = elim (cases_lt k i) [
    | inl l ↦ subst (P k) (sym (get_or-set_other xs i k v d (λ e. omega arith))) (before k l)
    | inr l ↦
        let e : i ≡ k = omega arith in
        subst (λ n. P n (get_or (set xs i v) n d)) e (subst (P i) (sym (get_or-set_same xs i v d low)) here)
  ]

  -- what is still as it was
  pub set_rest : (k : ℕ) → i + 1 ≤ k → get_or xs k d ≡ get_or (set xs i v) k d
  set_rest k h = sym (get_or-set_other xs i k v d (λ e. omega arith))
