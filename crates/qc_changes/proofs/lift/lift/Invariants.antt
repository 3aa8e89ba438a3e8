use Rattle.std.proofs.Common.{◌++◌, List, take}
use Rattle.qc_ship.specs.Cells.{CellView}
use Rattle.qc_changes.specs.Floors.{IsFloor, known}
use Rattle.qc_changes.specs.Lifts.{Lifts}
use Rattle.qc_changes.proofs.lift.lift.Given as goal

abbrev pub invariant-loop-cell : goal.invariant-loop-cell
invariant-loop-cell l = (worked : List CellView) → IsFloor (known l.initial.floors) worked
    → (lifted : List CellView) × (IsFloor (known l.floors) (worked ++ lifted) × Lifts worked (take l.cell-index l.cells) lifted)
