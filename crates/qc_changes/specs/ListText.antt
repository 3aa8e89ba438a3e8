-- public: the text of a list of moves, as the reader of stowage lists takes it.
use Rattle.std.specs.Prelude.{◌≡◌, ℕ, Bool, true, List, [], ◌++◌, ◌+◌, length, Result, codes, if◌then◌else◌}
use Rattle.std.specs.List.{flat_map}
use Rattle.qc_num.specs.Reading.{each}
use Rattle.qc_ship.specs.Cells.{IsCell, cell_text, is_forty}
use Rattle.qc_ship.specs.Ship.{ShipView}
use Rattle.qc_stow.specs.Fields.{is_id}
use Rattle.qc_stow.specs.declared.row.Move.{Move}
use Rattle.qc_stow.specs.declared.row.Move.TheVariants.{Discharge, Load}
use Rattle.qc_stow.specs.declared.row.Row.{Row}
use Rattle.qc_stow.specs.declared.fault.StowFault.{StowFault}
use Rattle.qc_stow.specs.Stow.{numbered, over_hatch}

abbrev pub header : List ℕ
header = codes "id,move,cell,length\n"

abbrev pub move_text : Move → List ℕ
move_text Discharge = codes ",D,"
move_text Load = codes ",L,"

-- the length of a container in feet, at the end of its line
abbrev pub length_text : Bool → List ℕ
length_text forty = if forty then codes ",40\n" else codes ",20\n"

-- the line of a move: the container, which way it goes, its cell, and its length in feet
abbrev pub row_line : Row → List ℕ
row_line row =
    row.id ++ move_text row.kind ++ cell_text row.cell ++ length_text (is_forty row.cell)

-- the names of the columns, and a line for each move
abbrev pub list_text : List Row → List ℕ
list_text rows = header ++ flat_map row_line rows

-- what the reader of stowage lists makes of this text for a ship: these moves, or `NoHatch` at the record of the first
-- one whose bay no hatch of the ship takes
abbrev pub read_for : ShipView → List Row → Result (List Row) StowFault
read_for ship rows = each (λ earlier row. numbered (length earlier + 2) (over_hatch ship row)) [] rows

-- what is known of every row: its id and its cell are such
pub record IsPlain (row : Row) : Type 0 where
  pub id : is_id row.id ≡ true
  pub cell : IsCell row.cell
