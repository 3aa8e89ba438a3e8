use Rattle.std.proofs.Common.{arith, sym}
use Rattle.qc_gantt.proofs.PlanLemmas.{given_by, missing}
use Rattle.qc_gantt.proofs.reader.all_given.Goals as goal

pub returns-in_default : goal.returns-in_default
returns-in_default c = sym (missing c.args.slots.now c.loop-task.task c.loop-task-test.true c.in_default.is)

pub returns : goal.returns
returns c =
    sym (given_by c.args.slots.now c.loop-task.sched c.loop-task.invariant.all
    (λ i lt. c.loop-task.invariant.same i (omega (arith, lt, c.loop-task-test.false))))
