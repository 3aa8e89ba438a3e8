use Rattle.std.proofs.Common.{◌≡◌, map}
use Rattle.std.specs.List.{range_with_len}
use Rattle.qc_odds.specs.Order.{turn_of}
use Rattle.qc_odds.proofs.order.turns_by_number.Given as goal

abbrev pub invariant-loop-task : goal.invariant-loop-task
invariant-loop-task l = l.turns.items ≡ map (turn_of l.slots) (range_with_len 0 l.task)
