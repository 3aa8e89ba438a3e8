use Rattle.std.proofs.Common.{◌≡◌, ◌+◌, map}
use Rattle.std.specs.List.{range_with_len}
use Rattle.qc_model.specs.Numbers.{most_distance, most_ready}
use Rattle.qc_rest.specs.Following.{first_start}
use Rattle.qc_rest.specs.Passing.{StartBy}
use Rattle.qc_rest.proofs.order.first_starts.Given as goal

abbrev pub invariant-loop-task : goal.invariant-loop-task
invariant-loop-task l = record {
  items : l.firsts.items ≡ map (first_start l.journal.dispatch l.rest) (range_with_len 0 l.task);
  soon : StartBy l.firsts.items (most_ready + most_distance);
}
