use Rattle.std.proofs.Common.{◌≡◌, ◌∙◌, ◌<◌, ◌&&◌, List, get_or, length, subst, sym}
use Rattle.qc_bayplan.specs.declared.plan.Container.{Container}
use Rattle.qc_changes.specs.Classes.{is_still}
use Rattle.qc_changes.specs.MoveList.{row_of}
use Rattle.qc_changes.specs.Over.{is_over_any}
use Rattle.qc_changes.proofs.Turns.{none_more, one_more}
use Rattle.qc_changes.proofs.rows.push_lifted.Goals as goal
use Rattle.qc_changes.proofs.rows.push_lifted.Goals.{then-is_lifted+in_ok-push, else-is_lifted}

pub loop-container-preserved : goal.loop-container-preserved
loop-container-preserved c = λ cells floor.
    let plan = c.args.plan.now in
    let i = c.loop-container.container-index in
    let x = c.container-item.result in
    let picks = λ (d : Container). is_still c.args.other.now d && is_over_any d.cell cells in
    let low : i < length plan = subst (λ (cs : List Container). i < length cs) c.containers-container-items.ensures c.loop-container-test.true in
    let at : x ≡ get_or plan i x = subst (λ (cs : List Container). x ≡ get_or cs i x) c.containers-container-items.ensures c.container-item.is in
    elim c.if-is_lifted.branch [
      | then-is_lifted+in_ok-push w ↦ rw w.rows-is
          (one_more picks (row_of c.args.kind) plan i x low at c.args.rows.now.items c.loop-container.rows.items _ (sym (c.is_lifted.ensures cells floor) ∙ w.if-is_lifted.true)
          (c.loop-container.invariant cells floor) (rw w.row_of.ensures at w.in_ok-push.ensures.items))
      | else-is_lifted w ↦ rw w.rows-is
          (none_more picks (row_of c.args.kind) plan i x low at c.args.rows.now.items c.loop-container.rows.items (sym (c.is_lifted.ensures cells floor) ∙ w.if-is_lifted.false)
          (c.loop-container.invariant cells floor))
    ]
