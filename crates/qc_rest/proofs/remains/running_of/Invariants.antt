use Rattle.std.proofs.Common.{◌≡◌, map, filter}
use Rattle.std.specs.List.{range_with_len}
use Rattle.qc_dispatch.specs.Course.{is_running, stage_of}
use Rattle.qc_dispatch.specs.Following.{journal_of}
use Rattle.qc_rest.specs.Remaining.{still_runs}
use Rattle.qc_rest.proofs.remains.running_of.Given as goal

abbrev pub invariant-loop-task : goal.invariant-loop-task
invariant-loop-task l =
    l.running.items ≡ map (still_runs (journal_of l.journal)) (filter (λ i. is_running (stage_of l.journal.dispatch i)) (range_with_len 0 l.task))
