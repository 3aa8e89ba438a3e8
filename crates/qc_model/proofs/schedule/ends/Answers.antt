use Rattle.std.proofs.Common.{rules, arith, length, ap}
use Rattle.std.proofs.lemmas.Slice.Zip.{zip_turn}
use Rattle.qc_model.specs.declared.task.Task.{Task}
use Rattle.qc_model.specs.declared.schedule.Slot.{Slot}
use Rattle.qc_model.proofs.Bounded.{ends_bounded}
use Rattle.qc_model.proofs.OnRail.{ticks_bounded}
use Rattle.qc_model.specs.Instance.{no_task}
use Rattle.qc_model.specs.Rules.{no_slot}
use Rattle.qc_model.proofs.schedule.ends.Goals as goal

pub overflow_add-slot : goal.overflow_add-slot
overflow_add-slot c =
    let tasks = c.args.inst.now.tasks in
    let slots = c.args.sched.now in
    let turn = zip_turn tasks slots c.loop-task.yielded _ c.loop-task.task-iterator c.next.new.self c.next.result (search rules) (search rules) c.loop-task.yielded_by (c.in-Some.task, c.in-Some.slot) c.in-Some.is c.next.ensures.steps in
    let i = length c.loop-task.yielded in
    omega (arith, ap (λ (s : Slot). s.start) (turn.3 no_slot), ap (λ (t : Task). t.ticks) (turn.2 no_task), c.requires.start_range i turn.0, ticks_bounded c.args.inst.now c.tasks.ensures.valid i turn.0)

pub returns-clause-bound : goal.returns-clause-bound
returns-clause-bound c =
    omega (arith, c.loop-task.invariant, ends_bounded c.args.inst.now c.args.sched.now c.tasks.ensures.valid c.requires)
