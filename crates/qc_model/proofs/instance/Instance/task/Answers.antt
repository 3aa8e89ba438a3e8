use Rattle.qc_model.specs.declared.direction.Direction.TheVariants.{Up}
use Rattle.qc_model.proofs.OnRail.{task_on_rail, ticks_bounded}
use Rattle.qc_model.proofs.instance.Instance.task.Goals as goal

pub returns-clause-on_rail : goal.returns-clause-on_rail
returns-clause-on_rail c =
    rw c.tasks.ensures.tasks (task_on_rail c.args.self.now c.tasks.ensures.valid Up c.args.number c.requires)

pub returns-clause-bound : goal.returns-clause-bound
returns-clause-bound c =
    rw c.tasks.ensures.tasks (ticks_bounded c.args.self.now c.tasks.ensures.valid c.args.number c.requires)
