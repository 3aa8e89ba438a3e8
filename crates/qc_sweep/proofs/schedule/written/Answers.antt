use Rattle.std.proofs.Common.{ap, arith, length}
use Rattle.qc_model.specs.Instance.{InstanceView}
use Rattle.qc_model.proofs.SeenLemmas.{seen-task_count}
use Rattle.qc_sweep.proofs.schedule.written.Goals as goal

pub crane_of-requires : goal.crane_of-requires
crane_of-requires c =
    let tasks = ap (λ (inst : InstanceView). length inst.tasks) c.requires.seen in
    omega (arith, tasks, seen-task_count c.args.inst.now c.args.way)

pub start-requires-clause-task : goal.start-requires-clause-task
start-requires-clause-task c =
    let tasks = ap (λ (inst : InstanceView). length inst.tasks) c.requires.seen in
    omega (arith, tasks, seen-task_count c.args.inst.now c.args.way)
