use Rattle.std.proofs.Common.{get_or}
use Rattle.qc_model.specs.Instance.{no_task}
use Rattle.qc_close.proofs.GrainLemmas.{grain_more}
use Rattle.qc_close.proofs.grain.with_releases.Goals as goal

pub loop-task-preserved : goal.loop-task-preserved
loop-task-preserved c =
    grain_more c.args.start (λ i. (get_or c.args.tasks.now i no_task).release) c.loop-task.task-index c.loop-task.grain
    c.gcd-grain.result c.loop-task.invariant c.gcd-grain.ensures
