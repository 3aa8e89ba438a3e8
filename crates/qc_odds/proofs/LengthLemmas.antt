-- How long a task takes that is stretched as a past one was.
use Rattle.std.proofs.Common.{◌≡◌, ◌+◌, ◌*◌, ◌<◌, ◌≤◌, ◌^◌, ℕ, List, length, slice_index, slice_set, sym, subst, inl, inr, arith}
use Rattle.std.specs.Int.{div_ceil}
use Rattle.std.proofs.Math.Nat.{mul-le-mul_left, mul-le-mul_right}
use Rattle.std.proofs.lemmas.Bool.{cases_eq, cases_lt}
use Rattle.std.proofs.lemmas.Grind.{div_ceil_times, get_or-set_at}
use Rattle.std.proofs.lemmas.List.{get_or-set_other}

module _ (ticks planned real : ℕ) (some : 1 ≤ ticks) (few : ticks ≤ 502400000) where
  pub product_fits : real < 2 ^ 32 → ticks * real < 2 ^ 64
  product_fits small = omega (arith, mul-le-mul_right real few)

  module _ (planned_some : 1 ≤ planned) (real_some : 1 ≤ real) (unit : real ≤ 100 * planned) where
    abbrev stretched : ℕ
    stretched = div_ceil (ticks * real) planned

    pub stretched_some : 1 ≤ stretched
    stretched_some = elim (cases_lt 0 (div_ceil (ticks * real) planned)) [
      | inl some' ↦ some'
      | inr none ↦
          let around = div_ceil_times (ticks * real) planned (omega arith) in
          let least = mul-le-mul_left ticks real_some in
          let nothing = mul-le-mul_right planned none in
          absurd (omega (arith, around.0, least, nothing))
    ]

    pub stretched_few : stretched ≤ 50240000000
    stretched_few = elim (cases_lt (100 * ticks) (div_ceil (ticks * real) planned)) [
      | inl more ↦
          let around = div_ceil_times (ticks * real) planned (omega arith) in
          let most = mul-le-mul_left ticks unit in
          let above = mul-le-mul_right planned more in
          absurd (omega (arith, around.1, most, above))
      | inr fits ↦ omega (arith, fits)
    ]

-- what holds of the first so many of a list, one more written
pub set_holds : (P : ℕ → ℕ → Type 0) (xs : List ℕ) (j v : ℕ) → j < length xs → ((k : ℕ) → k < j → P k (slice_index xs k)) → P j v
    → (k : ℕ) → k < j + 1 → P k (slice_index (slice_set xs j v) k)
set_holds P xs j v low before this k lt = elim (cases_eq k j) [
  | inl same ↦
      let here : slice_index (slice_set xs j v) k ≡ v = get_or-set_at xs j k v 0 same low in
      subst (P k) (sym here) (subst (λ (i : ℕ). P i v) (sym same) this)
  | inr other ↦ subst (P k) (sym (get_or-set_other xs j k v 0 other)) (before k (omega arith))
]
