-- public: the stowage list that is made from a number.
use Rattle.std.specs.Prelude.{ℕ, ◌+◌, ◌*◌, ◌/◌, ◌%◌, List, ◌++◌, map, codes, decimal}
use Rattle.std.specs.List.{flat_map, range_with_len}
use Rattle.qc_ship.specs.Cells.{cell_text}
use Rattle.qc_model.specs.Tasks.{phase_rank, phase_text}
use Rattle.qc_model.specs.declared.task.Phase.{Phase}
use Rattle.qc_model.specs.declared.task.Phase.TheVariants.{DeckOut, HoldOut, HoldIn, DeckIn}
use Rattle.qc_stow.specs.declared.row.Move.{Move}
use Rattle.qc_stow.specs.declared.row.Move.TheVariants.{Discharge, Load}
use Rattle.qc_stow.specs.declared.row.Row.{Row}
use Rattle.qc_tasks.specs.InstanceOf.{phases}
use Rattle.qc_make.specs.Draws.{drawn, state_after}
use Rattle.qc_make.specs.MadeTable.{hatch_number}

-- which way the containers of a phase go
abbrev pub move_of : Phase → Move
move_of DeckOut = Discharge
move_of HoldOut = Discharge
move_of HoldIn = Load
move_of DeckIn = Load

-- the lowest tier of a phase
abbrev pub lowest_tier : Phase → ℕ
lowest_tier DeckOut = 82
lowest_tier HoldOut = 2
lowest_tier HoldIn = 2
lowest_tier DeckIn = 82

-- row i, from 0, of a hatch in a phase: ten containers side by side, and those behind on top
abbrev pub made_row : ℕ → Phase → ℕ → Row
made_row hatch phase i = record {
  id = decimal hatch ++ codes "-" ++ phase_text phase ++ codes "-" ++ decimal i;
  kind = move_of phase;
  cell = record { bay = hatch; row = i % 10; tier = lowest_tier phase + 2 * (i / 10) };
}

-- the rows of a hatch in a phase, where the draws of the hatch begin at this state
abbrev pub phase_rows : ℕ → ℕ → Phase → List Row
phase_rows state hatch phase =
    map (made_row hatch phase) (range_with_len 0 (drawn (state_after state (phase_rank phase + 1))))

-- the rows of a hatch, with a draw for each phase
abbrev pub hatch_rows : ℕ → ℕ → List Row
hatch_rows state hatch = flat_map (phase_rows state hatch) phases

-- the rows of so many hatches, with the first four draws for the first hatch, and so on
abbrev pub made_rows : ℕ → ℕ → List Row
made_rows number hatches = flat_map (λ k. hatch_rows (state_after number (4 * k)) (hatch_number k))
    (range_with_len 0 hatches)

-- how a row says which way its container goes
abbrev pub move_text : Move → List ℕ
move_text Discharge = codes "D"
move_text Load = codes "L"

-- the line of a row of 40 feet
abbrev pub row_line : Row → List ℕ
row_line row = row.id ++ codes "," ++ move_text row.kind ++ codes "," ++ cell_text row.cell
    ++ codes ",40\n"

-- the lines of rows
abbrev pub row_lines : List Row → List ℕ
row_lines rows = flat_map row_line rows

-- the list of a number and so many hatches
abbrev pub list_text : ℕ → ℕ → List ℕ
list_text number hatches = codes "id,move,cell,length\n" ++ row_lines (made_rows number hatches)
