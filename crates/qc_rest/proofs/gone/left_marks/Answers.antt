use Rattle.qc_dispatch.specs.Course.{is_waiting, stage_of}
use Rattle.qc_rest.proofs.KeptLemmas.{made_step}
use Rattle.qc_rest.proofs.gone.left_marks.Goals as goal

pub loop-task-preserved : goal.loop-task-preserved
loop-task-preserved c =
    made_step (λ j. is_waiting (stage_of c.args.work.now j)) c.loop-task.task c.is_left.result c.loop-task.left.items _ c.is_left.ensures c.loop-task.invariant
    c.in_ok-push.ensures.items
