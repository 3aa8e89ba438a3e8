use Rattle.std.proofs.Common.{◌++◌, List, map, subst, take}
use Rattle.qc_ship.specs.Cells.{CellView}
use Rattle.qc_stow.specs.declared.row.Row.{Row}
use Rattle.qc_changes.specs.Floors.{IsFloor, known}
use Rattle.qc_changes.proofs.Turns.{cells_more}
use Rattle.qc_changes.proofs.rows.put_rows.Goals as goal

pub loop-row-preserved : goal.loop-row-preserved
loop-row-preserved c = λ cells floor.
    let rows = c.args.rows.now in
    let i = c.loop-row.row-index in
    subst (λ (cs : List CellView). IsFloor (known c.put.new.floors) cs) (cells_more cells rows i c.row-item.result c.loop-row-test.true c.row-item.is)
    (c.in_ok-put.ensures (cells ++ map (λ (r : Row). r.cell) (take i rows)) (c.loop-row.invariant cells floor))
