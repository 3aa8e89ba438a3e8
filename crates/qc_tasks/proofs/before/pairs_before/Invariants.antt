use Rattle.std.proofs.Common.{◌≡◌, length}
use Rattle.std.specs.List.{flat_map, range_with_len}
use Rattle.qc_tasks.specs.InstanceOf.{is_before, pairs_from}
use Rattle.qc_tasks.specs.Restows.{is_in}
use Rattle.qc_tasks.proofs.before.pairs_before.Given as goal

abbrev pub invariant-loop-first : goal.invariant-loop-first
invariant-loop-first l =
    l.pairs.items ≡ flat_map (pairs_from (length l.tasks) (is_before (is_in l.restows) l.tasks)) (range_with_len 0 l.first)
