use Rattle.std.proofs.Common.{get_or}
use Rattle.qc_model.specs.Instance.{no_task}
use Rattle.qc_close.specs.Grains.{IsGrainOf}
use Rattle.qc_close.proofs.grain.with_releases.Given as goal

abbrev pub invariant-loop-task : goal.invariant-loop-task
invariant-loop-task l = IsGrainOf l.start (λ i. (get_or l.tasks i no_task).release) l.task-index l.grain
