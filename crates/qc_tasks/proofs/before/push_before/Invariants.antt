use Rattle.std.proofs.Common.{◌≡◌, ◌++◌}
use Rattle.qc_tasks.specs.InstanceOf.{is_before, pairs_from}
use Rattle.qc_tasks.specs.Restows.{is_in}
use Rattle.qc_tasks.proofs.before.push_before.Given as goal

abbrev pub invariant-loop-second : goal.invariant-loop-second
invariant-loop-second l =
    l.pairs.items ≡ l.initial.pairs.items ++ pairs_from l.second (is_before (is_in l.restows) l.tasks) l.first
