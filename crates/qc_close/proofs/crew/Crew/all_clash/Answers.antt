use Rattle.std.proofs.Common.{length, ap, ◌∙◌}
use Rattle.qc_model.specs.Instance.{InstanceView}
use Rattle.qc_close.proofs.LoopLemmas.{least_steps}
use Rattle.qc_close.proofs.SpanLemmas.{clash_is}
use Rattle.qc_close.proofs.crew.Crew.all_clash.Goals as goal

pub returns : goal.returns
returns c =
    let steps = least_steps c.args.self.now.inst c.instance.ensures.valid in
    let count = c.crane_count.ensures.count ∙ ap (λ (i : InstanceView). length i.cranes) c.instance.ensures.same in
    clash_is c.args.self.now.inst c.args.self.now.cranes c.args.tasks.now c.instance.ensures.range steps.0 steps.1
    c.are_stacked.result c.crane_count.result count c.are_stacked.ensures
