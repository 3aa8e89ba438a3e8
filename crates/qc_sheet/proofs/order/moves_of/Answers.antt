use Rattle.std.proofs.Common.{◌≡◌, ◌∙◌, sym, ap, arith}
use Rattle.std.proofs.lemmas.List.{get_or_read}
use Rattle.qc_stow.specs.declared.row.Row.{Row}
use Rattle.qc_tasks.specs.InstanceOf.{is_move_of}
use Rattle.qc_sheet.specs.Order.{no_row, row_at}
use Rattle.qc_sheet.proofs.CountLemmas.{numbers_no, numbers_yes}
use Rattle.qc_sheet.proofs.order.moves_of.Goals as goal
use Rattle.qc_sheet.proofs.order.moves_of.Goals.{then-is_move_of+in_ok-push, else-is_move_of}

pub loop-number-preserved : goal.loop-number-preserved
loop-number-preserved c =
    let n = c.loop-number.number in
    let rows = c.args.rows.now in
    let t = c.args.task.now in
    let row : c.index-rows-number.result ≡ row_at rows n = get_or_read rows n c.index-rows-number.result (omega arith) c.index-rows-number.is no_row in
    let is : c.is_move_of.result ≡ is_move_of t (row_at rows n) = c.is_move_of.ensures ∙ ap (λ (r : Row). is_move_of t r) row in
    elim c.if-is_move_of.branch [
      | then-is_move_of+in_ok-push w ↦
          rw w.numbers-is (numbers_yes (λ k. is_move_of t (row_at rows k)) n c.loop-number.numbers.items w.push.new.self.items (sym is ∙ w.if-is_move_of.true) c.loop-number.invariant w.in_ok-push.ensures.items)
      | else-is_move_of w ↦
          rw w.numbers-is (numbers_no (λ k. is_move_of t (row_at rows k)) n c.loop-number.numbers.items (sym is ∙ w.if-is_move_of.false) c.loop-number.invariant)
    ]
