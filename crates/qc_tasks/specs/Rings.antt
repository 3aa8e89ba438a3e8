-- public: whether the order of tasks has a ring, and with which of the planner's entries it comes.
use Rattle.std.specs.Prelude.{◌≡◌, ℕ, ◌<◌, ◌≤◌, Bool, false, ◌&&◌, ◌||◌, ◌==◌, List, [], ◌∷◌, length, take, find, Option, Result, Ok, Err}
use Rattle.std.specs.List.{list_any, range_with_len}
use Rattle.std.specs.Option.{option_map_or}
use Rattle.qc_model.specs.declared.pair.Pair.{Pair}
use Rattle.qc_model.specs.Instance.{InstanceView, IsPath}
use Rattle.qc_ship.specs.Ship.{ShipView}
use Rattle.qc_stow.specs.declared.row.Row.{Row}
use Rattle.qc_tasks.specs.InstanceOf.{before_of, instance_of, tasks_of}
use Rattle.qc_tasks.specs.declared.instance.TasksError.{TasksError}
use Rattle.qc_tasks.specs.declared.instance.TasksError.TheVariants.{Ring, OutOfMemory}

-- one comes from task i to task j over one or more pairs of the list: without the first pair, or over it
unfoldable pub leads : List Pair → ℕ → ℕ → Bool
leads [] i j = false
leads (p ∷ ps) i j = leads ps i j
    || (((i == p.first) || leads ps i p.first) && ((p.second == j) || leads ps p.second j))

-- one of so many tasks would have to end before it starts
abbrev pub has_ring : ℕ → List Pair → Bool
has_ring count pairs = list_any (λ i. leads pairs i i) (range_with_len 0 count)

-- what is before what with the first k entries of the planner's own order
abbrev pub before_with : ShipView → List Row → ℕ → List Pair
before_with ship rows k = before_of ship.ordered (take k ship.before) rows (tasks_of ship rows)

-- the number, from 1, of the first entry with which there is a ring
abbrev pub first_ring : ShipView → List Row → Option ℕ
first_ring ship rows = find (λ k. has_ring (length (tasks_of ship rows)) (before_with ship rows k))
    (range_with_len 1 (length ship.before))

-- the instance of a ship and its moves, or the number of the first entry with which there is a ring
abbrev pub tasks_due : ShipView → List Row → Result InstanceView ℕ
tasks_due ship rows = option_map_or Err (first_ring ship rows) (Ok (instance_of ship rows))

-- with the first k entries, and with no fewer, some task is before itself by way of one or more pairs
pub record ClosesRing (ship : ShipView) (rows : List Row) (k : ℕ) : Type 0 where
  pub count : (1 ≤ k) × (k ≤ length ship.before)
  pub ring : (i : ℕ) × (via : List ℕ) × IsPath (before_with ship rows k) i via i
  pub first : (n : ℕ) → n < k → (i : ℕ) (via : List ℕ) → ¬ IsPath (before_with ship rows n) i via i

-- why there is no instance: a ring, which is due, or want of memory
abbrev pub IsNoInstance : ShipView → List Row → TasksError → Type 0
IsNoInstance ship rows (Ring k) = (tasks_due ship rows ≡ Err k) × ClosesRing ship rows k
IsNoInstance ship rows OutOfMemory = Unit {0}
