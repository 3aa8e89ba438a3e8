-- inner: the tasks that are still to be looked at, as marks and as a list.
use Rattle.std.specs.Prelude.{◌≡◌, ℕ, ◌<◌, ◌≤◌, Bool, true, false, ◌==◌, List, length, Option, None, Some, slice_set, sum_by, vec_capacity}
use Rattle.qc_starts.specs.declared.spread.Spread.{Spread}
use Rattle.qc_starts.specs.Noting.{marks}
use Rattle.qc_starts.specs.Spread.{is_pending, one_of}

-- how often a task stands in a list
abbrev pub times : ℕ → List ℕ → ℕ
times j tasks = sum_by (λ t. one_of (t == j)) tasks

-- the tasks that are still to be looked at are listed, each once
pub record AreListed (pending : List Bool) (tasks : List ℕ) : Type 0 where
  pub each : (j : ℕ) → times j tasks ≡ one_of (is_pending pending j)
  pub count : length tasks ≡ marks pending

-- and there is room for all
pub record IsQueued (s : Spread) : Type 0 where
  pub listed : AreListed s.pending.items s.queue.items
  pub room : length s.pending.items ≤ vec_capacity s.queue

-- one of the tasks that are still to be looked at is taken out, if there is any
abbrev pub IsTaken : List Bool → List Bool → Option ℕ → Type 0
IsTaken old new None = (new ≡ old) × ((j : ℕ) → is_pending old j ≡ false)
IsTaken old new (Some j) = (j < length old) × (is_pending old j ≡ true) × (new ≡ slice_set old j false)
