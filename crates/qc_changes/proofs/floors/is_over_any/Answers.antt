use Rattle.std.proofs.Common.{◌≡◌, subst}
use Rattle.qc_ship.specs.Cells.{CellView}
use Rattle.qc_changes.specs.Floors.{is_lower, known}
use Rattle.qc_changes.proofs.FloorLemmas.{over_aft, over_fore}
use Rattle.qc_changes.proofs.floors.is_over_any.Goals as goal

pub returns-then-is_over_work : goal.returns-then-is_over_work
returns-then-is_over_work c = λ cells floor.
    over_fore c.args.cell.now c.slots-first.result.0 c.slots-first.result.1 (record { even = c.slots-first.ensures.even; odd = c.slots-first.ensures.odd })
    (known c.args.floors.now) cells floor c.column_at.result c.is_over_work.result c.column_at.ensures
    (subst (λ (x : CellView). c.is_over_work.result ≡ is_lower (known c.args.floors.now c.column_at.result) x.tier) c.cell.view_is c.is_over_work.ensures)
    c.if-is_over_work.true

pub returns-else-is_over_work : goal.returns-else-is_over_work
returns-else-is_over_work c = λ cells floor.
    over_aft c.args.cell.now c.slots-first.result.0 c.slots-first.result.1 (record { even = c.slots-first.ensures.even; odd = c.slots-first.ensures.odd })
    (known c.args.floors.now) cells floor c.column_at.result c.column_at-else-is_over_work.result c.is_over_work.result c.is_over_work-else-is_over_work.result
    c.column_at.ensures c.column_at-else-is_over_work.ensures
    (subst (λ (x : CellView). c.is_over_work.result ≡ is_lower (known c.args.floors.now c.column_at.result) x.tier) c.cell.view_is c.is_over_work.ensures)
    c.if-is_over_work.false
    (subst (λ (x : CellView). c.is_over_work-else-is_over_work.result ≡ is_lower (known c.args.floors.now c.column_at-else-is_over_work.result) x.tier) c.cell.view_is c.is_over_work-else-is_over_work.ensures)
