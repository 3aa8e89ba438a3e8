use Rattle.std.proofs.Common.{◌≡◌, map, filter}
use Rattle.std.specs.List.{range_with_len}
use Rattle.qc_dispatch.specs.Course.{is_waiting, stage_of}
use Rattle.qc_dispatch.specs.Following.{journal_of}
use Rattle.qc_rest.specs.Remaining.{over_at}
use Rattle.qc_rest.specs.RestOf.{task_in}
use Rattle.qc_rest.proofs.instance.tasks_in.Given as goal

abbrev pub invariant-loop-j : goal.invariant-loop-j
invariant-loop-j l =
    l.tasks.items ≡ map (task_in l.journal.dispatch (over_at (journal_of l.journal))) (filter (λ i. is_waiting (stage_of l.journal.dispatch i)) (range_with_len 0 l.j))
