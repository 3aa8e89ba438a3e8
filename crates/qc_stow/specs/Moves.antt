-- public: the moves of a stowage list.
use Rattle.std.specs.Prelude.{◌≡◌, ◌≢◌, ℕ, ◌≤◌, List, length, AllPairs, Bool, true, false, ◌&&◌}
use Rattle.std.specs.List.{list_any}
use Rattle.std.specs.Str.{bytes_eq}
use Rattle.qc_ship.specs.Cells.{overlap}
use Rattle.qc_stow.specs.declared.row.Move.{Move}
use Rattle.qc_stow.specs.declared.row.Move.TheVariants.{Discharge, Load}
use Rattle.qc_stow.specs.declared.row.Row.{Row}

-- the most moves of a list
abbrev pub most_moves : ℕ
most_moves = 50000

abbrev pub is_discharge : Move → Bool
is_discharge Discharge = true
is_discharge Load = false

abbrev pub is_load : Move → Bool
is_load Discharge = false
is_load Load = true

abbrev pub same_move : Move → Move → Bool
same_move Discharge other = is_discharge other
same_move Load other = is_load other

-- a row of the same kind has the id of this one
abbrev pub has_id : List Row → Row → Bool
has_id rows row = list_any (λ earlier. same_move row.kind earlier.kind && bytes_eq row.id earlier.id) rows

-- the cell of a row of the same kind overlaps the cell of this one
abbrev pub is_taken : List Row → Row → Bool
is_taken rows row = list_any
    (λ earlier. same_move row.kind earlier.kind && overlap row.cell earlier.cell) rows

-- what a list of moves keeps: of moves of one kind, no two have one id, and no two cells overlap
pub record AreMoves (rows : List Row) : Type 0 where
  pub count : length rows ≤ most_moves
  pub ids : AllPairs (λ a b. a.kind ≡ b.kind → a.id ≢ b.id) rows
  pub apart : AllPairs (λ a b. a.kind ≡ b.kind → overlap b.cell a.cell ≡ false) rows
