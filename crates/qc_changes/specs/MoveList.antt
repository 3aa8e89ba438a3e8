-- public: the list of moves that leads from one plan to the other.
use Rattle.std.specs.Prelude.{◌≡◌, List, ◌++◌, map}
use Rattle.std.specs.List.Sorted.{IsPermutation, IsSorted}
use Rattle.std.specs.declared.cmp.Ordering.{Ordering}
use Rattle.std.specs.Ordering.{nat_cmp, ordering_then}
use Rattle.qc_ship.specs.Cells.{CellView}
use Rattle.qc_stow.specs.declared.row.Move.{Move}
use Rattle.qc_stow.specs.declared.row.Move.TheVariants.{Discharge, Load}
use Rattle.qc_stow.specs.declared.row.Row.{Row}
use Rattle.qc_bayplan.specs.declared.plan.Container.{Container}
use Rattle.qc_changes.specs.Classes.{changed}

-- the move of a container at its cell
abbrev pub row_of : Move → Container → Row
row_of kind c = record { id = c.id; kind = kind; cell = c.cell }

-- by rising bay, then by rising row
abbrev pub place_cmp : CellView → CellView → Ordering
place_cmp a b = ordering_then (nat_cmp a.bay b.bay) (nat_cmp a.row b.row)

-- discharges stand by falling tier, loads by rising tier
abbrev pub off_cmp : Row → Row → Ordering
off_cmp a b = ordering_then (nat_cmp b.cell.tier a.cell.tier) (place_cmp a.cell b.cell)

abbrev pub on_cmp : Row → Row → Ordering
on_cmp a b = ordering_then (nat_cmp a.cell.tier b.cell.tier) (place_cmp a.cell b.cell)

-- the two parts of the list: what goes, which is all that the second plan hasn't at the same cell and all that is
-- lifted, and what comes, in the same way
pub record AreParts (first second lifted : List Container) (off on : List Row) : Type 0 where
  pub off_are : IsPermutation (map (row_of Discharge) (changed first second ++ lifted)) off
  pub off_order : IsSorted off_cmp off
  pub on_are : IsPermutation (map (row_of Load) (changed second first ++ lifted)) on
  pub on_order : IsSorted on_cmp on

-- the list: first what goes, then what comes
pub record IsMoveList (first second lifted : List Container) (rows : List Row) : Type 0 where
  pub off : List Row
  pub on : List Row
  pub rows_are : rows ≡ off ++ on
  pub parts : AreParts first second lifted off on
