use Rattle.std.proofs.Common.{◌∙◌, ◌++◌, ◌∷◌, [], List, append_assoc, subst, sym}
use Rattle.qc_ship.specs.Cells.{CellView}
use Rattle.qc_changes.specs.Floors.{IsFloor, known}
use Rattle.qc_changes.proofs.Turns.{lift_turn, skip_turn}
use Rattle.qc_changes.proofs.lift.lift.Goals as goal
use Rattle.qc_changes.proofs.lift.lift.Goals.{then-is_over_any+in_ok-put, else-is_over_any}

pub loop-cell-preserved : goal.loop-cell-preserved
loop-cell-preserved c = λ worked floor.
    let (lifted, (now, lifts)) = c.loop-cell.invariant worked floor in
    let cell = c.cell-item.result in
    elim c.if-is_over_any.branch [
      | then-is_over_any+in_ok-put w ↦ (
        lifted ++ cell ∷ [],
        (
          rw w.floors-is (subst (λ (cs : List CellView). IsFloor (known w.put.new.floors) cs) (append_assoc worked lifted (cell ∷ [])) (w.in_ok-put.ensures (worked ++ lifted) now)),
          lift_turn c.args.cells.now c.loop-cell.cell-index cell c.loop-cell-test.true c.cell-item.is c.requires worked lifted lifts (sym (c.is_over_any.ensures (worked ++ lifted) now) ∙ w.if-is_over_any.true),
        ),
      )
      | else-is_over_any w ↦ (
        lifted,
        (
          rw w.floors-is now,
          skip_turn c.args.cells.now c.loop-cell.cell-index cell c.loop-cell-test.true c.cell-item.is c.requires worked lifted lifts (sym (c.is_over_any.ensures (worked ++ lifted) now) ∙ w.if-is_over_any.false),
        ),
      )
    ]
