use Rattle.std.proofs.Common.{length, ap, sym, ◌∙◌, arith}
use Rattle.qc_model.specs.Instance.{InstanceView}
use Rattle.qc_close.proofs.LoopLemmas.{doable_reached}
use Rattle.qc_close.proofs.crew.Crew.is_doable.Goals as goal

pub returns-else-is_some : goal.returns-else-is_some
returns-else-is_some c =
    let same = ap (λ (i : InstanceView). length i.tasks) c.instance.ensures.same in
    c.is_in_reach.ensures
    ∙ doable_reached c.args.self.now.inst c.args.self.now.cranes c.args.task c.crane_of.result
    (omega (arith, same, c.if-task-task_count.true, c.task_count.ensures.count)) c.crane_of.ensures
    (sym c.is_some.ensures ∙ c.if-is_some.false)
