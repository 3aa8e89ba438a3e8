-- public: the last number that passes a test.
use Rattle.std.specs.Prelude.{◌≡◌, ℕ, ◌<◌, ◌≤◌, Bool, true, false}

-- of the numbers from 1 to a limit this is the greatest that passes, and 0 where none does
pub record IsLast (p : ℕ → Bool) (limit n : ℕ) : Type 0 where
  pub within : n ≤ limit
  pub passes : 0 < n → p n ≡ true
  pub others : (k : ℕ) → n < k → k ≤ limit → p k ≡ false

-- of all numbers from 1 on this is the greatest that passes, and 0 where none does
pub record IsLatest (p : ℕ → Bool) (n : ℕ) : Type 0 where
  pub passes : 0 < n → p n ≡ true
  pub others : (k : ℕ) → n < k → p k ≡ false
