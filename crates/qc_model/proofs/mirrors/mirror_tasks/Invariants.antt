use Rattle.std.proofs.Common.{◌≡◌, map, take}
use Rattle.qc_model.specs.OneWay.{mirror_task}
use Rattle.qc_model.proofs.mirrors.mirror_tasks.Given as goal

abbrev pub invariant-loop-task : goal.invariant-loop-task
invariant-loop-task l = l.tasks.items ≡ map (mirror_task l.inst) (take l.task-index l.task-items)
