use Rattle.std.proofs.Common.{◌≡◌, length}
use Rattle.std.specs.List.{flat_map, range_with_len}
use Rattle.qc_tasks.specs.InstanceOf.{is_apart, pairs_from}
use Rattle.qc_tasks.proofs.apart.pairs_apart.Given as goal

abbrev pub invariant-loop-first : goal.invariant-loop-first
invariant-loop-first l = l.pairs.items ≡ flat_map (pairs_from (length l.tasks) (is_apart l.entries l.tasks)) (range_with_len 0 l.first)
