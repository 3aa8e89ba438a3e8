-- inner: what the search for restows is told, and what it tells.
use Rattle.std.specs.Prelude.{◌≡◌, ℕ, ◌&&◌, ◌==◌, ◌<◌, AllPairs, Bool, true, false, List, length, Option, Some, None, bytes_eq}
use Rattle.std.specs.Borrow.{Bor}
use Rattle.std.specs.List.{list_any}
use Rattle.indexmap.specs.IndexMap.{IndexMap, get_by}
use Rattle.indexmap.specs.IndexSet.{IndexSet, contains}
use Rattle.qc_model.specs.declared.task.Task.{Task}
use Rattle.qc_stow.specs.declared.row.Row.{Row}
use Rattle.qc_tasks.specs.InstanceOf.{discharges, is_move_of, task_at}

-- no move belongs to two of the tasks
abbrev pub ShareNoMove : List Task → Type 0
ShareNoMove tasks = AllPairs
    (λ t u. (row : Row) → is_move_of t row ≡ true → is_move_of u row ≡ false) tasks

-- there is a number, and it is this one
abbrev pub is_number : ℕ → Option ℕ → Bool
is_number i None = false
is_number i (Some k) = k == i

-- the map has the number of a task for just the containers that a move of the task discharges
abbrev pub NumbersDischarges : {S : Type 0} → IndexMap (Bor (List ℕ)) ℕ S → List Task → List Row → Type 0
NumbersDischarges numbers tasks rows = (id : List ℕ) (i : ℕ) → i < length tasks
    → is_number i (get_by (λ key. bytes_eq id key.now) numbers)
    ≡ list_any (discharges (task_at tasks i) id) rows

abbrev pub same_numbers : ℕ × ℕ → ℕ × ℕ → Bool
same_numbers p q = (p.0 == q.0) && (p.1 == q.1)

-- the set has this pair of numbers
abbrev pub is_in : {S : Type 0} → IndexSet (ℕ × ℕ) S → ℕ → ℕ → Bool
is_in pairs i j = contains same_numbers pairs (i, j)

-- there is a pair of numbers, and it is this one
abbrev pub is_pair : ℕ → ℕ → Option (ℕ × ℕ) → Bool
is_pair i j None = false
is_pair i j (Some pair) = same_numbers pair (i, j)
