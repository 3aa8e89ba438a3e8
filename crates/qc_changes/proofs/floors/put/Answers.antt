use Rattle.std.proofs.Common.{subst}
use Rattle.qc_ship.specs.Cells.{CellView}
use Rattle.qc_changes.specs.Floors.{KnowsMore, known}
use Rattle.qc_changes.proofs.FloorLemmas.{floor_put}
use Rattle.qc_changes.proofs.floors.put.Goals as goal

pub returns : goal.returns
returns c = λ cells floor.
    floor_put c.args.cell.now c.slots-first.result.0 c.slots-first.result.1 c.column_at-fore.result c.column_at-aft.result c.column_at-fore.ensures c.column_at-aft.ensures
    (record { even = c.slots-first.ensures.even; odd = c.slots-first.ensures.odd })
    (known c.args.floors.now) (known c.put_in_column.new.floors) (known c.put_in_column-2.new.floors)
    (subst (λ (x : CellView). KnowsMore (known c.args.floors.now) (known c.put_in_column.new.floors) c.column_at-fore.result x.tier) c.cell.view_is c.in_ok-put_in_column.ensures)
    (subst (λ (x : CellView). KnowsMore (known c.put_in_column.new.floors) (known c.put_in_column-2.new.floors) c.column_at-aft.result x.tier) c.cell.view_is c.in_ok-put_in_column-2.ensures)
    cells floor
