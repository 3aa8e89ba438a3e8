use Rattle.std.proofs.Common.{◌≡◌}
use Rattle.std.specs.List.{filter, range_with_len}
use Rattle.qc_tasks.specs.InstanceOf.{is_move_of}
use Rattle.qc_sheet.specs.Order.{row_at}
use Rattle.qc_sheet.proofs.order.moves_of.Given as goal

-- the task's moves among those so far
abbrev pub invariant-loop-number : goal.invariant-loop-number
invariant-loop-number l = l.numbers.items ≡ filter (λ n. is_move_of l.task (row_at l.rows n)) (range_with_len 0 l.number)
