-- The last end of the first so many tasks.
use Rattle.std.proofs.Common.{◌≡◌, ℕ, ◌+◌, ◌<◌, ◌≤◌, ◌↔◌, max, inl, inr, List, subst, arith}
use Rattle.std.proofs.lemmas.Bool.{cases_eq}
use Rattle.qc_odds.specs.Course.{end_in}

module _ (lengths starts : List ℕ) where
  abbrev pub IsLastOf : (n last : ℕ) → Type 0
  IsLastOf n last = (moment : ℕ) → (last ≤ moment) ↔ ((j : ℕ) → j < n → end_in lengths starts j ≤ moment)

  pub last_none : IsLastOf 0 0
  last_none moment = (λ le j low. absurd (omega arith), λ all. omega arith)

  pub last_more : (n last : ℕ) → IsLastOf n last → IsLastOf (n + 1) (max last (end_in lengths starts n))
  last_more n last is moment = (
    λ le j low. elim (cases_eq j n) [
      | inl same ↦ let e : n ≡ j = omega arith in subst (λ (k : ℕ). end_in lengths starts k ≤ moment) e (omega (arith, le))
      | inr other ↦ (is moment).0 (omega (arith, le)) j (omega arith)
    ],
    λ all. let old : last ≤ moment = (is moment).1 (λ j low. all j (omega arith)) in let new = all n (omega arith) in omega arith,
  )
