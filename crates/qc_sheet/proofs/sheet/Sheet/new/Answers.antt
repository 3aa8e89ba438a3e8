use Rattle.std.proofs.Common.{◌≡◌, ◌+◌, ◌∙◌, ℕ, List, length, get_or, sym, ap, subst}
use Rattle.std.proofs.lemmas.List.{length_push}
use Rattle.qc_model.specs.declared.task.Task.{Task}
use Rattle.qc_model.specs.Instance.{no_task}
use Rattle.qc_stow.specs.declared.row.Row.{Row}
use Rattle.qc_sheet.specs.Order.{IsOrder, order_of}
use Rattle.qc_sheet.proofs.OrderLemmas.{orders_more}
use Rattle.qc_sheet.proofs.sheet.Sheet.new.Goals as goal

pub loop-task-preserved : goal.loop-task-preserved
loop-task-preserved c =
    let rows = c.args.moves.now in
    let tasks = c.args.inst.now.tasks in
    let orders = c.loop-task.orders.items in
    let i = c.loop-task.task-index in
    let order = c.in_ok-order_of.field-0 in
    let task = get_or c.tasks-task-items.result.now i no_task in
    let at : task ≡ get_or tasks i no_task = ap (λ (ts : List Task). get_or ts i no_task) c.tasks-task-items.ensures.tasks in
    record {
      count = ap (λ (os : List (List ℕ)). length os) c.in_ok-push.ensures.items ∙ length_push orders order ∙ ap (λ (n : ℕ). n + 1) c.loop-task.invariant.count;
      each = λ j lt. subst (λ (os : List (List ℕ)). IsOrder rows (get_or tasks j no_task) (order_of os j)) (sym c.in_ok-push.ensures.items)
          (orders_more rows tasks orders i order task c.loop-task.invariant.count at c.loop-task.invariant.each
          (subst (λ (rs : List Row). IsOrder rs task order) c.rows-rows.ensures.rows c.in_ok-order_of.ensures) j lt);
    }
