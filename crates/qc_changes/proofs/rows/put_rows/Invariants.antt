use Rattle.std.proofs.Common.{◌++◌, List, map, take}
use Rattle.qc_ship.specs.Cells.{CellView}
use Rattle.qc_changes.specs.Floors.{IsFloor, known}
use Rattle.qc_changes.proofs.rows.put_rows.Given as goal

abbrev pub invariant-loop-row : goal.invariant-loop-row
invariant-loop-row l = (cells : List CellView) → IsFloor (known l.initial.floors) cells
    → IsFloor (known l.floors) (cells ++ map (λ row. row.cell) (take l.row-index l.rows))
