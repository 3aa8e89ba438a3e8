-- public: what a list of moves makes of a loaded ship.
use Rattle.std.specs.Prelude.{◌≡◌, ℕ, false, if◌then◌else◌, List, [], ◌∷◌, Option, Some, None, bytes_eq, ⊤}
use Rattle.qc_ship.specs.Cells.{CellView, overlap}
use Rattle.qc_stow.specs.declared.row.Move.{Move}
use Rattle.qc_stow.specs.declared.row.Move.TheVariants.{Discharge, Load}
use Rattle.qc_stow.specs.declared.row.Row.{Row}
use Rattle.qc_changes.specs.Over.{is_over}

-- a load state: in which cell the container of an id stands, if it is on board
abbrev pub State : Type 0
State = List ℕ → Option CellView

-- nothing on board is over a cell
abbrev pub IsOpen : State → CellView → Type 0
IsOpen state cell = (id : List ℕ) (other : CellView) → state id ≡ Some other → is_over other cell ≡ false

-- nothing on board overlaps a cell
abbrev pub IsFree : State → CellView → Type 0
IsFree state cell = (id : List ℕ) (other : CellView) → state id ≡ Some other → overlap other cell ≡ false

-- a discharge is legal where the container stands in the cell and nothing is over it
pub record CanGo (state : State) (id : List ℕ) (cell : CellView) : Type 0 where
  pub stands : state id ≡ Some cell
  pub opened : IsOpen state cell

-- a load is legal where the container isn't on board, and nothing overlaps the cell or is over it
pub record CanCome (state : State) (id : List ℕ) (cell : CellView) : Type 0 where
  pub absent : state id ≡ None
  pub free : IsFree state cell
  pub opened : IsOpen state cell

abbrev pub IsLegalMove : Move → State → List ℕ → CellView → Type 0
IsLegalMove Discharge state id cell = CanGo state id cell
IsLegalMove Load state id cell = CanCome state id cell

abbrev pub IsLegal : State → Row → Type 0
IsLegal state row = IsLegalMove row.kind state row.id row.cell

-- where the container of a move is behind it
abbrev pub cell_behind : Move → CellView → Option CellView
cell_behind Discharge cell = None
cell_behind Load cell = Some cell

-- the state behind a move, and behind a list of moves
abbrev pub after : State → Row → State
after state row = λ id. if bytes_eq row.id id then cell_behind row.kind row.cell else state id

abbrev pub after_all : State → List Row → State
after_all state [] = state
after_all state (row ∷ rows) = after_all (after state row) rows

-- each move is legal in the state before it
abbrev pub AreLegal : State → List Row → Type 0
AreLegal state [] = ⊤
AreLegal state (row ∷ rows) = IsLegal state row × AreLegal (after state row) rows

-- the moves, made one after the other, turn a state into another
pub record Leads (from : State) (rows : List Row) (to : State) : Type 0 where
  pub legal : AreLegal from rows
  pub ends : (id : List ℕ) → after_all from rows id ≡ to id
