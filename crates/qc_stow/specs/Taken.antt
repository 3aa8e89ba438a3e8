-- public: what the moves so far have taken.
use Rattle.std.specs.Prelude.{ℕ, List, map, flat_map, Bool, ◌&&◌, ◌==◌}
use Rattle.std.specs.List.{list_any}
use Rattle.std.specs.Str.{bytes_eq}
use Rattle.qc_ship.specs.Cells.{CellView, slots}
use Rattle.qc_stow.specs.Moves.{same_move}
use Rattle.qc_stow.specs.declared.row.Move.{Move}
use Rattle.qc_stow.specs.declared.row.Row.{Row}
use Rattle.qc_stow.specs.declared.taken.Slot.{Slot}

-- ids and slots of 20 feet, each with the kind of the move that took it
pub record TakenView : Type 0 where
  pub ids : List (Move × List ℕ)
  pub slots : List (Move × Slot)

-- the slot of a cell at one of its bays of 20 feet, and all of its slots
abbrev pub slot_at : CellView → ℕ → Slot
slot_at cell bay = record { bay = bay; row = cell.row; tier = cell.tier }

abbrev pub slots_of : CellView → List Slot
slots_of cell = map (slot_at cell) (slots cell.bay)

abbrev pub same_slot : Slot → Slot → Bool
same_slot a b = (a.bay == b.bay) && (a.row == b.row) && (a.tier == b.tier)

-- a move of the same kind has taken an id, a slot, or one of the slots of a cell
abbrev pub has_taken_id : List (Move × List ℕ) → Move → List ℕ → Bool
has_taken_id ids kind id = list_any (λ taken. same_move kind taken.0 && bytes_eq id taken.1) ids

abbrev pub has_taken_slot : List (Move × Slot) → Move → Slot → Bool
has_taken_slot taken kind slot = list_any
    (λ earlier. same_move kind earlier.0 && same_slot slot earlier.1) taken

abbrev pub has_taken_cell : List (Move × Slot) → Move → CellView → Bool
has_taken_cell taken kind cell = list_any (has_taken_slot taken kind) (slots_of cell)

-- what rows take
abbrev pub ids_of : List Row → List (Move × List ℕ)
ids_of rows = map (λ row. (row.kind, row.id)) rows

abbrev pub slots_taken : List Row → List (Move × Slot)
slots_taken rows = flat_map (λ row. map (λ slot. (row.kind, slot)) (slots_of row.cell)) rows
