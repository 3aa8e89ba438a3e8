-- inner: what the search for a ring is told, and what it tells.
use Rattle.std.specs.Prelude.{◌≡◌, ℕ, ◌<◌, Bool, true, false, not, ◌&&◌, ◌||◌, ◌==◌, List, AllPairs, count_by, slice_index_or, Contains, Ok}
use Rattle.qc_model.specs.declared.pair.Pair.{Pair}
use Rattle.qc_model.specs.declared.task.Task.{Task}
use Rattle.qc_model.specs.Instance.{IsPath, pair_of}
use Rattle.qc_ship.specs.Ship.{ShipView}
use Rattle.qc_ship.specs.declared.ship.TaskName.{TaskName}
use Rattle.qc_stow.specs.declared.row.Row.{Row}
use Rattle.qc_tasks.specs.InstanceOf.{before_of, has_name, instance_of, tasks_of}
use Rattle.qc_tasks.specs.Rings.{tasks_due}

-- no two of the tasks have one name
abbrev pub ShareNoName : List Task → Type 0
ShareNoName tasks = AllPairs
    (λ t u. (name : TaskName) → has_name name t ≡ true → has_name name u ≡ false) tasks

-- the pairs are of tasks below this number
abbrev pub AreBelow : ℕ → List Pair → Type 0
AreBelow count pairs = (i j : ℕ) → Contains pairs (pair_of i j) → (i < count) × (j < count)

-- whether a task is marked
abbrev pub at : List Bool → ℕ → Bool
at marks i = slice_index_or marks i false

-- a pair leads on from the start or from a marked task
abbrev pub leads_on : List Bool → ℕ → Pair → Bool
leads_on marks from pair = (pair.first == from) || at marks pair.first

-- and to a task that isn't marked
abbrev pub is_new : List Bool → ℕ → Pair → Bool
is_new marks from pair = leads_on marks from pair && not (at marks pair.second)

-- one comes from the start to each marked task
abbrev pub AreReached : List Pair → ℕ → List Bool → Type 0
AreReached pairs from marks =
    (j : ℕ) → at marks j ≡ true → (via : List ℕ) × IsPath pairs from via j

-- no pair leads on to a task that isn't marked
abbrev pub AreAll : List Pair → ℕ → List Bool → Type 0
AreAll pairs from marks = (i j : ℕ) → Contains pairs (pair_of i j)
    → leads_on marks from (pair_of i j) ≡ true → at marks j ≡ true

-- how many tasks aren't marked
abbrev pub unmarked : List Bool → ℕ
unmarked marks = count_by not marks

-- the order of a ship's tasks, which has no ring
pub record IsOrder (ship : ShipView) (rows : List Row) (pairs : List Pair) : Type 0 where
  pub is : pairs ≡ before_of ship.ordered ship.before rows (tasks_of ship rows)
  pub due : tasks_due ship rows ≡ Ok (instance_of ship rows)
  pub ringless : (i : ℕ) (via : List ℕ) → ¬ IsPath pairs i via i
