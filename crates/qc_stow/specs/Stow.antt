-- public: a stowage list: the moves that its records write, or the fault of the first faulty record.
use Rattle.std.specs.Prelude.{◌+◌, ℕ, List, [], ◌∷◌, length, take, not, nat_lt, is_some, Result, Ok, Err}
use Rattle.qc_num.specs.Reading.{◌>>=◌, each, require, with_fault}
use Rattle.qc_lines.specs.Records.{records_of}
use Rattle.qc_ship.specs.Ship.{ShipView, place_of_bay}
use Rattle.qc_stow.specs.Columns.{columns_in}
use Rattle.qc_stow.specs.Moves.{has_id, is_taken, most_moves}
use Rattle.qc_stow.specs.Rows.{row_in}
use Rattle.qc_stow.specs.declared.columns.Columns.{Columns}
use Rattle.qc_stow.specs.declared.row.Row.{Row}
use Rattle.qc_stow.specs.declared.fault.StowFault.{StowFault}
use Rattle.qc_stow.specs.declared.fault.StowKind.{StowKind}
use Rattle.qc_stow.specs.declared.fault.StowKind.TheVariants as kind

-- a row whose bay a hatch of the ship takes
abbrev pub over_hatch : ShipView → Row → Result Row StowKind
over_hatch ship row = do
  _ ← require (is_some (place_of_bay ship row.cell.bay)) kind.NoHatch
  Ok row

-- the row of a record that is a move of this ship
abbrev pub row_on : ShipView → Columns → List (List ℕ) → Result Row StowKind
row_on ship at fields = row_in at fields >>= over_hatch ship

-- a row whose id and slots the earlier ones of its kind leave
abbrev pub apart_from : List Row → Row → Result Row StowKind
apart_from earlier row = do
  _ ← require (not (has_id earlier row)) kind.IdTwice
  _ ← require (not (is_taken earlier row)) kind.CellTaken
  Ok row

-- the row of a record after the rows of all records before it
abbrev pub row_after : ShipView → Columns → List Row → List (List ℕ) → Result Row StowKind
row_after ship at earlier fields = do
  _ ← require (nat_lt (length earlier) most_moves) kind.TooMany
  row_on ship at fields >>= apart_from earlier

-- a fault with the number of its record, from 1: the header is the first
abbrev pub numbered : {A : Type 0} → ℕ → Result A StowKind → Result A StowFault
numbered number = with_fault (λ why. record { number = number; kind = why })

-- the row of the record behind the header and those of these rows
abbrev pub next_row : ShipView → Columns → List Row → List (List ℕ) → Result Row StowFault
next_row ship at earlier fields = numbered (length earlier + 2) (row_after ship at earlier fields)

-- the moves of a list of records, of which the first is the header
abbrev pub moves_of : ShipView → List (List (List ℕ)) → Result (List Row) StowFault
moves_of ship [] = Err (record { number = 1; kind = kind.Header })
moves_of ship (header ∷ records) =
    numbered 1 (columns_in header) >>= λ at. each (next_row ship at) [] records

-- the moves of a stowage list; the record after the 50,000th move is a fault, so none behind it counts
abbrev pub moves_in : ShipView → List ℕ → Result (List Row) StowFault
moves_in ship text = moves_of ship (take (most_moves + 2) (records_of text))
