use Rattle.std.proofs.Common.{◌≡◌, map, take}
use Rattle.qc_model.specs.Tasks.{task_text}
use Rattle.qc_gantt.proofs.names.task_texts.Given as goal

abbrev pub invariant-loop-task : goal.invariant-loop-task
invariant-loop-task l = l.texts.items ≡ map task_text (take l.task-index l.tasks)
