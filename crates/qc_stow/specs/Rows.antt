-- public: one record of a stowage list, read by itself.
use Rattle.std.specs.Prelude.{ℕ, List, length, ◌==◌, if◌then◌else◌, Result, Ok, Err, codes}
use Rattle.std.specs.Str.{bytes_eq}
use Rattle.qc_num.specs.Reading.{◌>>=◌, require, with_fault}
use Rattle.qc_ship.specs.Cells.{CellView, cell_in}
use Rattle.qc_lines.specs.Records.{field_of}
use Rattle.qc_stow.specs.Fields.{is_id, length_text}
use Rattle.qc_stow.specs.declared.columns.Columns.{Columns}
use Rattle.qc_stow.specs.declared.row.Move.{Move}
use Rattle.qc_stow.specs.declared.row.Move.TheVariants.{Discharge, Load}
use Rattle.qc_stow.specs.declared.row.Row.{Row}
use Rattle.qc_stow.specs.declared.fault.StowKind.{StowKind}
use Rattle.qc_stow.specs.declared.fault.StowKind.TheVariants as kind

-- what the field of the move says
abbrev pub move_in : List ℕ → Result Move StowKind
move_in field = if bytes_eq field (codes "D") then Ok Discharge
    else (if bytes_eq field (codes "L") then Ok Load else Err kind.MoveKind)

-- the row of an id, a move and a cell, where the length is that of the cell's bay
abbrev pub row_of : List ℕ → List ℕ → Move → CellView → Result Row StowKind
row_of id size move cell = do
  _ ← require (bytes_eq size (length_text cell.bay)) kind.LengthMismatch
  Ok (record { id = id; kind = move; cell = cell })

-- the row that the fields of a record write in these columns, or the first fault of them
abbrev pub row_in : Columns → List (List ℕ) → Result Row StowKind
row_in at fields = do
  _ ← require (length fields == at.all) kind.Fields
  _ ← require (is_id (field_of fields at.id)) kind.Id
  move ← move_in (field_of fields at.kind)
  cell ← with_fault kind.Cell (cell_in (field_of fields at.cell))
  row_of (field_of fields at.id) (field_of fields at.length) move cell
