-- inner: what the containers so far have taken.
use Rattle.std.specs.Prelude.{◌≡◌, ◌<◌, ◌≤◌, ℕ, List, map, Bool}
use Rattle.std.specs.List.{list_any}
use Rattle.std.specs.Str.{bytes_eq}
use Rattle.qc_stow.specs.Taken.{slots_taken}
use Rattle.qc_stow.specs.declared.row.Move.{Move}
use Rattle.qc_stow.specs.declared.row.Move.TheVariants.{Load}
use Rattle.qc_stow.specs.declared.row.Row.{Row}
use Rattle.qc_stow.specs.declared.taken.Slot.{Slot}
use Rattle.qc_bayplan.specs.Plan.{AreContainers}
use Rattle.qc_bayplan.specs.declared.course.Course.{Course}
use Rattle.qc_bayplan.specs.declared.plan.Container.{Container}

-- ids, and slots of 20 feet as loads take them
pub record TakenView : Type 0 where
  pub ids : List (List ℕ)
  pub slots : List (Move × Slot)

-- a container takes what a load of it takes
abbrev pub load_of : Container → Row
load_of container = record { id = container.id; kind = Load; cell = container.cell }

-- what containers take
abbrev pub taken_by : List Container → TakenView
taken_by containers = record {
  ids = map (λ container. container.id) containers;
  slots = slots_taken (map load_of containers);
}

-- an id is among these
abbrev pub has_taken_id : List (List ℕ) → List ℕ → Bool
has_taken_id ids id = list_any (bytes_eq id) ids

-- the containers so far are apart, and this is what they took
pub record IsKept (containers : List Container) (taken : TakenView) : Type 0 where
  pub apart : AreContainers containers
  pub same : taken ≡ taken_by containers

-- ahead of the segment of this number each count is below it, and the first of the message not
-- above it
pub record HasCounts (number : ℕ) (course : Course) : Type 0 where
  pub first : course.first ≤ number
  pub unnamed : course.unnamed < number
  pub bundled : course.bundled < number
  pub other : course.other < number

-- behind that segment each may be one more, but for unnamed containers, which come on their own
pub record HasRisen (number : ℕ) (course : Course) : Type 0 where
  pub first : course.first ≤ number
  pub unnamed : course.unnamed < number
  pub bundled : course.bundled ≤ number
  pub other : course.other ≤ number
