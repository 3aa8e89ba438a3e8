use Rattle.std.proofs.Common.{◌≡◌, ◌/◌, ◌%◌, arith}
use Rattle.qc_dispatch.proofs.order.mark_at.Goals as goal

pub returns-then-j-task_count : goal.returns-then-j-task_count
returns-then-j-task_count c = λ i j first second e.
    let row : c.args.at / 240 ≡ i = omega (arith, first, second, e, c.task_count.ensures.bound, c.task_count.ensures.count) in
    let place : c.args.at % 240 ≡ j = omega (arith, first, second, e, c.task_count.ensures.bound, c.task_count.ensures.count) in
    rw (row, place) at c.leads.ensures
