-- public: what becomes of each container from one plan to the other.
use Rattle.std.specs.Prelude.{◌≡◌, ℕ, Bool, false, not, ◌&&◌, ◌==◌, if◌then◌else◌, List, [], ◌∷◌, ◌++◌, map, filter, Option, Some, None, is_some, bytes_eq}
use Rattle.qc_ship.specs.Cells.{CellView}
use Rattle.qc_bayplan.specs.declared.plan.Container.{Container}
use Rattle.qc_changes.specs.declared.class.Class.{Class}
use Rattle.qc_changes.specs.declared.class.Class.TheVariants.{Discharged, Loaded, Restowed, Lifted, Staying}
use Rattle.qc_changes.specs.Over.{is_over_any}

-- where the container of an id stands, if one of these has it
abbrev pub stands : List Container → List ℕ → Option CellView
stands [] id = None
stands (c ∷ cs) id = if bytes_eq c.id id then Some c.cell else stands cs id

abbrev pub same_cell : CellView → CellView → Bool
same_cell a b = (a.bay == b.bay) && (a.row == b.row) && (a.tier == b.tier)

abbrev pub is_at : CellView → Option CellView → Bool
is_at cell None = false
is_at cell (Some other) = same_cell cell other

-- a container stands in the other plan too, at the same cell
abbrev pub is_still : List Container → Container → Bool
is_still other c = is_at c.cell (stands other c.id)

-- the containers of a plan that don't
abbrev pub changed : (plan other : List Container) → List Container
changed plan other = filter (λ c. not (is_still other c)) plan

abbrev pub cells_of : List Container → List CellView
cells_of containers = map (λ c. c.cell) containers

-- the cells at which a container goes or comes, where these still ones are lifted and put back
abbrev pub worked : (first second lifted : List Container) → List CellView
worked first second lifted = cells_of (changed first second ++ changed second first ++ lifted)

-- the containers of a plan that stand still and are over one of these cells
abbrev pub chosen : (plan other : List Container) → List CellView → List Container
chosen plan other cells = filter (λ c. is_still other c && is_over_any c.cell cells) plan

-- what must be lifted: just the still containers that are over a cell at which one goes or comes, those that are
-- lifted themselves counted
pub record AreLifted (first second lifted : List Container) : Type 0 where
  pub are : lifted ≡ chosen first second (worked first second lifted)

-- the class of a container by where it stands in either plan, and whether it is lifted
abbrev pub class_by : Option CellView → Option CellView → Bool → Option Class
class_by None None lifted = None
class_by (Some cell) None lifted = Some Discharged
class_by None (Some cell) lifted = Some Loaded
class_by (Some cell) (Some other) lifted =
    Some (if same_cell cell other then (if lifted then Lifted else Staying) else Restowed)

-- the class of an id: exactly one where a plan has it, and else none
abbrev pub class_of : (first second lifted : List Container) → List ℕ → Option Class
class_of first second lifted id = class_by (stands first id) (stands second id) (is_some (stands lifted id))
