use Rattle.std.proofs.Common.{ap, get_or}
use Rattle.qc_model.specs.declared.direction.Direction.TheVariants.{Up}
use Rattle.qc_model.specs.Instance.{no_task}
use Rattle.qc_model.proofs.OnRail.{task_on_rail}
use Rattle.qc_model.proofs.mirrors.mirror_tasks.Goals as goal

pub mirror_task-requires : goal.mirror_task-requires
mirror_task-requires c =
    let e = c.tasks-task-items.ensures.tasks in
    let h = task_on_rail c.args.inst.now c.tasks-task-items.ensures.valid Up c.loop-task.task-index (rw e at c.loop-task-test.true) in
    rw (ap (λ ts. (get_or ts c.loop-task.task-index no_task).bay) e) h
