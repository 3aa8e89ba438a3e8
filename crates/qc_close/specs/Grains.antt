-- inner: greatest common divisors.
use Rattle.std.specs.Prelude.{ℕ, ◌<◌}
use Prim.Native.Nat.{◌∣◌}

-- the greatest number that divides a and the first n of these
pub record IsGrainOf (a : ℕ) (f : ℕ → ℕ) (n g : ℕ) : Type 0 where
  pub first : g ∣ a
  pub others : (i : ℕ) → i < n → g ∣ f i
  pub greatest : (d : ℕ) → d ∣ a → ((i : ℕ) → i < n → d ∣ f i) → d ∣ g
