-- inner: where the containers of a plan stand, as the code holds it.
use Rattle.std.specs.Prelude.{◌≡◌, ℕ, Bool, false, List, Option, Some, None, bytes_eq}
use Rattle.std.specs.Borrow.{Bor}
use Rattle.std.specs.Option.{option_map}
use Rattle.indexmap.specs.IndexMap.{IndexMap, get_by}
use Rattle.qc_ship.specs.Cells.{CellView}
use Rattle.qc_bayplan.specs.declared.plan.Container.{Container}
use Rattle.qc_changes.specs.declared.plan.Place.{Place}
use Rattle.qc_changes.specs.Classes.{same_cell, stands}

-- the numbers of a cell, and the cell of these numbers
abbrev pub place_of : CellView → Place
place_of cell = record { bay = cell.bay; row = cell.row; tier = cell.tier }

abbrev pub cell_at : Place → CellView
cell_at place = record { bay = place.bay; row = place.row; tier = place.tier }

abbrev pub is_in : CellView → Option Place → Bool
is_in cell None = false
is_in cell (Some place) = same_cell cell (cell_at place)

-- the map tells where each container stands
abbrev pub Tells : {S : Type 0} → IndexMap (Bor (List ℕ)) Place S → List Container → Type 0
Tells places containers = (id : List ℕ)
    → get_by (λ key. bytes_eq id key.now) places ≡ option_map place_of (stands containers id)
