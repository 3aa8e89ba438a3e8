use Rattle.std.proofs.Common.{◌≡◌, ◌++◌, List, map, take}
use Rattle.qc_ship.specs.Cells.{CellView}
use Rattle.qc_changes.specs.Classes.{chosen}
use Rattle.qc_changes.specs.Floors.{IsFloor, known}
use Rattle.qc_changes.specs.MoveList.{row_of}
use Rattle.qc_changes.proofs.rows.push_lifted.Given as goal

abbrev pub invariant-loop-container : goal.invariant-loop-container
invariant-loop-container l = (cells : List CellView) → IsFloor (known l.floors) cells
    → l.rows.items ≡ l.initial.rows.items ++ map (row_of l.kind) (chosen (take l.container-index l.plan) l.other cells)
