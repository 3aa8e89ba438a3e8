use Rattle.std.proofs.Common.{slice_index_or}
use Rattle.qc_dispatch.specs.declared.stage.Stage.TheVariants.{Waiting}
use Rattle.qc_dispatch.specs.Waits.{IsNext, moment_of, wait_of}
use Rattle.qc_dispatch.proofs.next.next_start.Given as goal

abbrev pub invariant-loop-task : goal.invariant-loop-task
invariant-loop-task l = IsNext (λ j. moment_of l.now (slice_index_or l.stages j Waiting) (wait_of l.waits j)) l.task l.best
