use Rattle.std.proofs.Common.{◌∙◌, List, Option, ℕ, ap}
use Rattle.qc_close.specs.Model.{Turn, is_closed, InstanceView}
use Rattle.qc_replay.proofs.leaf.is_work_over.Goals as goal

pub returns : goal.returns
returns c =
    let inst = c.args.node.now.inst in
    let crew = c.args.crew.now in
    let is = c.requires.crew in
    c.closed.ensures.closed ∙ ap (λ (i : InstanceView). is_closed i crew.turn crew.cranes c.args.end) is.same
    ∙ ap (λ (t : Turn). is_closed inst t crew.cranes c.args.end) is.turn
    ∙ ap (λ (cranes : List (Option ℕ)). is_closed inst inst.turn cranes c.args.end) is.cranes
