use Rattle.std.proofs.Common.{length, ap, arith}
use Rattle.std.proofs.lemmas.List.FromFn.{fill_by_all}
use Rattle.qc_close.specs.Model.{InstanceView, slot_with, no_slot}
use Rattle.qc_search.proofs.best.keep.Goals as goal

pub returns : goal.returns
returns c = λ begins least.
    let count = ap (λ (i : InstanceView). length i.tasks) c.instance.ensures.same in
    fill_by_all (slot_with c.args.starts.now.decisions begins) c.loop-task.incumbent (length c.args.starts.now.inst.tasks) no_slot
    c.loop-task.invariant.count
    (λ j low. c.loop-task.invariant.slots begins least j
    (omega (arith, low, count, c.task_count-task-end.ensures.count, c.loop-task-test.false)))
