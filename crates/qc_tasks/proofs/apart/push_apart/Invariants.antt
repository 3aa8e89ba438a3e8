use Rattle.std.proofs.Common.{◌≡◌, ◌++◌}
use Rattle.qc_tasks.specs.InstanceOf.{is_apart, pairs_from}
use Rattle.qc_tasks.proofs.apart.push_apart.Given as goal

abbrev pub invariant-loop-second : goal.invariant-loop-second
invariant-loop-second l = l.pairs.items ≡ l.initial.pairs.items ++ pairs_from l.second (is_apart l.entries l.tasks) l.first
