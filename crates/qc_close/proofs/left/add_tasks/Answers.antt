use Rattle.std.proofs.Common.{arith, of_z, to_z, w32}
use Rattle.std.proofs.Math.IntN.{nat_abs}
use Rattle.qc_close.proofs.CrewLemmas.{all_opened, none_opened, one_opened, opened, work_within}
use Rattle.qc_close.proofs.left.add_tasks.Goals as goal

pub loop-number-init : goal.loop-number-init
loop-number-init c = none_opened c.args.inst.now _ c.requires

pub overflow_add-left : goal.overflow_add-left
overflow_add-left c =
    let x = nat_abs (to_z w32 (of_z w32 c.task-task.result.bay)) in
    let within = work_within c.args.inst.now c.task-task.ensures.valid (opened c.args.inst.now c.loop-number.number) x in
    omega (arith, c.loop-number.invariant.work x, within, c.task-task.ensures.bound)

pub loop-number-preserved : goal.loop-number-preserved
loop-number-preserved c =
    one_opened c.args.inst.now c.task-task.ensures.valid c.loop-number.number c.loop-number.left c.task-task.result
    (omega (arith, c.loop-number-test.true, c.task_count-number-end.ensures.count)) c.task-task.ensures.task c.loop-number.invariant

pub returns : goal.returns
returns c =
    all_opened c.args.inst.now c.loop-number.left c.loop-number.number
    (omega (arith, c.loop-number-test.false, c.loop-number.auto.number-end, c.task_count-number-end.ensures.count))
    c.loop-number.invariant
