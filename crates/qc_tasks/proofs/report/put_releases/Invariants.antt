use Rattle.std.proofs.Common.{Ok, take}
use Rattle.std.specs.List.{flat_map}
use Rattle.qc_io.specs.Writes.{Writes}
use Rattle.qc_tasks.specs.TasksText.{release_line}
use Rattle.qc_tasks.proofs.report.put_releases.Given as goal

abbrev pub invariant-loop-task : goal.invariant-loop-task
invariant-loop-task g l =
    Writes (g.K.Sink.view l.fn.sink) (g.K.Sink.view l.sink) (flat_map release_line (take l.task-index l.tasks)) (Ok tt)
