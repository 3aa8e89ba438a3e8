-- inner: tables that hold what functions of numbers give.
use Rattle.std.specs.Prelude.{◌≡◌, ℕ, ◌+◌, ◌*◌, ◌<◌, Bool, List, length, slice_index_or}
use Rattle.qc_model.specs.declared.limits.TheConstants.{MOST_TASKS}

-- the list holds what the function gives for each number below n
pub record IsTable {X : Type 0} (f : ℕ → X) (n : ℕ) (xs : List X) : Type 0 where
  pub count : length xs ≡ n
  pub values : (j : ℕ) (d : X) → j < n → slice_index_or xs j d ≡ f j

-- the list holds what the test gives for each two numbers below n, a row for each first number
pub record IsGrid (f : ℕ → ℕ → Bool) (n : ℕ) (xs : List Bool) : Type 0 where
  pub count : length xs ≡ n * MOST_TASKS
  pub values : (i j : ℕ) (d : Bool) → i < n → j < n → slice_index_or xs (MOST_TASKS * i + j) d ≡ f i j
