-- Tables after a write.
use Rattle.std.proofs.Common.{◌≡◌, ℕ, ◌+◌, ◌*◌, ◌<◌, ◌≤◌, Bool, true, false, ◌&&◌, nat_eq, List, slice_set, inl, inr, sym, ap, ◌∙◌, arith}
use Rattle.std.proofs.lemmas.Bool.{cases_eq, false_from_ne_true}
use Rattle.std.proofs.lemmas.Bool.Decides.{nat_tests}
use Rattle.std.proofs.lemmas.Grind.{get_or-set_at}
use Rattle.std.proofs.lemmas.List.{get_or-set_other, length-set}
use Rattle.qc_dist.specs.Tables.{IsGrid, IsTable}

-- one value is written
pub table_write : {X : Type 0} (f g : ℕ → X) (n : ℕ) (xs : List X) (i : ℕ) (v : X) → i < n → v ≡ g i
    → ((j : ℕ) → (i ≡ j → ⊥) → f j ≡ g j) → IsTable f n xs → IsTable g n (slice_set xs i v)
table_write f g n xs i v inside is others t = record {
  count = length-set xs i v ∙ t.count;
  values = λ j d h. elim (cases_eq i j) [
    | inl e ↦ get_or-set_at xs i j v d (sym e) (omega (arith, t.count)) ∙ is ∙ ap g e
    | inr differ ↦ get_or-set_other xs i j v d (λ e. differ (sym e)) ∙ t.values j d h ∙ others j differ
  ];
}

-- the test of a pair says whether it is this one
pub pair_is : (a b : ℕ) → (nat_eq a a && nat_eq b b) ≡ true
pair_is a b = grind (arith, nat_tests)

pair_same : (a b i j : ℕ) → (nat_eq a i && nat_eq b j) ≡ true → (a ≡ i) × (b ≡ j)
pair_same a b i j h = (grind (arith, nat_tests), grind (arith, nat_tests))

pub pair_differs : (a b i j : ℕ) → (a ≡ i → b ≡ j → ⊥) → (nat_eq a i && nat_eq b j) ≡ false
pair_differs a b i j differ =
    false_from_ne_true (nat_eq a i && nat_eq b j) (λ h. let same = pair_same a b i j h in differ same.0 same.1)

-- the place of a pair lies in the table, and differs from those of others
inside_grid : (n a b : ℕ) → n ≤ 240 → a < n → b < n → 240 * a + b < n * 240
inside_grid n a b most first second = omega arith

cells_differ : (a b i j : ℕ) → b < 240 → j < 240 → (a ≡ i → b ≡ j → ⊥) → 240 * i + j ≡ 240 * a + b → ⊥
cells_differ a b i j low_b low_j differ e =
    let first : a ≡ i = omega arith in
    differ first (omega arith)

-- one pair is written
pub grid_write : (f g : ℕ → ℕ → Bool) (n : ℕ) (xs : List Bool) (a b : ℕ) (v : Bool) → n ≤ 240 → a < n → b < n
    → v ≡ g a b → ((i j : ℕ) → (a ≡ i → b ≡ j → ⊥) → f i j ≡ g i j) → IsGrid f n xs
    → IsGrid g n (slice_set xs (240 * a + b) v)
grid_write f g n xs a b v most first second is others t =
    let at = 240 * a + b in
    let here = inside_grid n a b most first second in
    let other = λ (i j : ℕ) (d : Bool) (h : i < n) (k : j < n) (differ : a ≡ i → b ≡ j → ⊥).
    get_or-set_other xs at (240 * i + j) v d (cells_differ a b i j (omega arith) (omega arith) differ)
    ∙ t.values i j d h k ∙ others i j differ in
    record {
      count = length-set xs at v ∙ t.count;
      values = λ i j d h k. elim (cases_eq a i) [
        | inl e ↦ elim (cases_eq b j) [
          | inl same ↦
              get_or-set_at xs at (240 * i + j) v d (omega (arith, e, same)) (omega (arith, t.count))
              ∙ is ∙ ap (λ m. g m b) e ∙ ap (g i) same
          | inr differ ↦ other i j d h k (λ p q. differ q)
        ]
        | inr differ ↦ other i j d h k (λ p q. differ p)
      ];
    }
