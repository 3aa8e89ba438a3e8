-- public: which cells are over which.
use Rattle.std.specs.Prelude.{ℕ, Bool, ◌&&◌, ◌==◌, nat_lt, List, map}
use Rattle.std.specs.Bool.{beq}
use Rattle.std.specs.List.{list_any}
use Rattle.qc_ship.specs.Cells.{CellView, is_on_deck, slots}
use Rattle.qc_changes.specs.declared.column.Column.{Column}

-- the column of a cell at one of its bays of 20 feet, and all of its columns
abbrev pub column_at : CellView → ℕ → Column
column_at cell bay = record { bay = bay; row = cell.row; on_deck = is_on_deck cell }

abbrev pub columns : CellView → List Column
columns cell = map (column_at cell) (slots cell.bay)

abbrev pub same_column : Column → Column → Bool
same_column a b = (a.bay == b.bay) && (a.row == b.row) && beq a.on_deck b.on_deck

-- a cell stands in a column
abbrev pub is_in_column : Column → CellView → Bool
is_in_column column cell = list_any (same_column column) (columns cell)

-- a cell is over another: they have a column in common, and its tier is higher. So what stands on deck is over
-- nothing in the hold: no plan says which covers lie between
abbrev pub is_over : CellView → CellView → Bool
is_over cell below = nat_lt below.tier cell.tier
    && list_any (λ column. is_in_column column below) (columns cell)

-- a cell is over one of these
abbrev pub is_over_any : CellView → List CellView → Bool
is_over_any cell cells = list_any (is_over cell) cells
