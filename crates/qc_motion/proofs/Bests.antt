-- The last and the first of ticks, one number more at a time.
use Rattle.std.proofs.Common.{◌≡◌, ℕ, ◌+◌, ◌<◌, ◌≤◌, ◌⊎◌, max, min, refl, sym, subst, ◌∙◌, inl, inr, arith}
use Rattle.std.proofs.lemmas.Bool.{cases_lt}
use Rattle.qc_motion.specs.Sweep.{IsFarthest, IsFirst, IsLast}

module _ (IsPast : ℕ → ℕ → Type 0) (through : (a b c : ℕ) → IsPast a b → IsPast b c → IsPast a c)
    (P : ℕ → Type 0) (f : ℕ → ℕ) (n start e : ℕ) (h : IsFarthest IsPast P f n start e) where
  wider : (r : ℕ) → e ≡ r → (r ≡ start) ⊎ ((i : ℕ) × (i < n + 1) × P i × (f i ≡ r))
  wider r same = elim h.found [
    | inl s ↦ inl (sym same ∙ s)
    | inr t ↦ inr (t.0, omega arith, t.2, t.3 ∙ same)
  ]

  kept : ¬ P n → IsFarthest IsPast P f (n + 1) start e
  kept not = record {
    bound = h.bound;
    rest = λ i l p. elim (cases_lt i n) [
      | inl k ↦ h.rest i k p
      | inr k ↦ let same : i ≡ n = omega arith in absurd (not (subst P same p))
    ];
    found = wider e refl;
  }

  -- r is the farther of e and the tick of n
  next : (r : ℕ) → P n → IsPast e r → IsPast (f n) r → (e ≡ r) ⊎ (f n ≡ r) → IsFarthest IsPast P f (n + 1) start r
  next r here old new one = record {
    bound = through start e r h.bound old;
    rest = λ i l p. elim (cases_lt i n) [
      | inl k ↦ through (f i) e r (h.rest i k p) old
      | inr k ↦ let same : n ≡ i = omega arith in subst (λ (j : ℕ). IsPast (f j) r) same new
    ];
    found = elim one [ inl s ↦ wider r s | inr s ↦ inr (n, omega arith, here, s) ];
  }

module _ (P : ℕ → Type 0) (f : ℕ → ℕ) where
  pub last_kept : (n low e : ℕ) → IsLast P f n low e → ¬ P n → IsLast P f (n + 1) low e
  last_kept = kept (λ a b. a ≤ b) (λ a b c h k. omega arith) P f

  pub last_next : (n low e r : ℕ) → IsLast P f n low e → P n → r ≡ max e (f n) → IsLast P f (n + 1) low r
  last_next n low e r h here is =
      next (λ a b. a ≤ b) (λ a b c h k. omega arith) P f n low e h r here (omega arith) (omega arith)
      (elim (cases_lt e (f n)) [ inl k ↦ inr (omega arith) | inr k ↦ inl (omega arith) ])

  pub first_none : (high : ℕ) → IsFirst P f 0 high high
  first_none high = record { bound = omega arith; rest = λ i h. absurd (omega arith); found = inl refl }

  pub first_kept : (n high e : ℕ) → IsFirst P f n high e → ¬ P n → IsFirst P f (n + 1) high e
  first_kept = kept (λ a b. b ≤ a) (λ a b c h k. omega arith) P f

  pub first_next : (n high e r : ℕ) → IsFirst P f n high e → P n → r ≡ min e (f n) → IsFirst P f (n + 1) high r
  first_next n high e r h here is =
      next (λ a b. b ≤ a) (λ a b c h k. omega arith) P f n high e h r here (omega arith) (omega arith)
      (elim (cases_lt (f n) e) [ inl k ↦ inr (omega arith) | inr k ↦ inl (omega arith) ])
