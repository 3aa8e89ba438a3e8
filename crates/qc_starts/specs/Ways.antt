-- inner: ways back from a task by what raised each.
use Rattle.std.specs.Prelude.{◌≡◌, ◌≢◌, ℕ, ◌<◌, nat_eq, List, [], ◌∷◌, length, Option, None, Some, slice_index}
use Rattle.std.specs.List.{AllByRecursion, IsDistinct}

-- so many tasks, when each starts, and the task that raised it
pub record Why : Type 0 where
  pub count : ℕ
  pub start : ℕ → ℕ
  pub of : ℕ → Option ℕ

-- tasks are raised by tasks
abbrev pub AreBacked : Why → Type 0
AreBacked why = (j i : ℕ) → j < why.count → why.of j ≡ Some i → i < why.count

-- a task starts after the one that raised it
abbrev pub IsRising : Why → Type 0
IsRising why = (i j : ℕ) → j < why.count → why.of j ≡ Some i → why.start i < why.start j

-- where the task stands in the path
abbrev pub IsPlace : List ℕ → ℕ → Option ℕ → Type 0
IsPlace path task None = (k : ℕ) → k < length path → slice_index path k ≢ task
IsPlace path task (Some place) = (place < length path) × (slice_index path place ≡ task)

-- each task was raised by the one before it, the first of them by task i
abbrev pub IsLinked : Why → ℕ → List ℕ → Type 0
IsLinked why i [] = Unit {0}
IsLinked why i (j ∷ js) = (why.of j ≡ Some i) × IsLinked why j js

-- the last of these tasks, of which task i is the first
abbrev pub last_of : ℕ → List ℕ → ℕ
last_of i [] = i
last_of i (j ∷ js) = last_of j js

-- task i and those behind it, each raised by the one before it
pub record IsWay (why : Why) (last i : ℕ) (js : List ℕ) : Type 0 where
  pub linked : IsLinked why i js
  pub ends : last_of i js ≡ last
  pub distinct : IsDistinct nat_eq (i ∷ js)
  pub inside : AllByRecursion (λ j. j < why.count) (i ∷ js)

-- the way to a task from one that nothing raised
abbrev pub IsBackTo : Why → ℕ → List ℕ → Type 0
IsBackTo why last [] = ⊥
IsBackTo why last (i ∷ js) = IsWay why last i js × (why.of i ≡ None)

-- each task was raised by the one before it, and the first by the last
abbrev pub IsRing : Why → List ℕ → Type 0
IsRing why [] = ⊥
IsRing why (i ∷ js) = IsWay why (last_of i js) i js × (why.of i ≡ Some (last_of i js))

-- no way back from this task comes to one that nothing raised
abbrev pub IsEndless : Why → ℕ → Type 0
IsEndless why root = (path : List ℕ) → ¬ IsBackTo why root path
