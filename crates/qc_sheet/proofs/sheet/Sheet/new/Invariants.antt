use Rattle.std.proofs.Common.{◌≡◌, ℕ, ◌<◌, length, slice_index_or}
use Rattle.qc_model.specs.Instance.{no_task}
use Rattle.qc_sheet.specs.Order.{IsOrder, order_of}
use Rattle.qc_sheet.proofs.sheet.Sheet.new.Given as goal

-- the orders of the tasks so far
abbrev pub invariant-loop-task : goal.invariant-loop-task
invariant-loop-task l = record {
  count : length l.orders.items ≡ l.task-index;
  each : (j : ℕ) → j < l.task-index → IsOrder l.moves (slice_index_or l.inst.tasks j no_task) (order_of l.orders.items j);
}
