use Rattle.std.proofs.Common.{◌∙◌, ap, subst, sym}
use Rattle.qc_close.specs.Model.{Turn, no_cranes}
use Rattle.qc_dist.specs.Node.{Node}
use Rattle.qc_replay.specs.Crewed.{WereOpen}
use Rattle.qc_replay.specs.Earliest.{HasEarly}
use Rattle.qc_replay.proofs.CrewFacts.{crew_none}
use Rattle.qc_replay.proofs.crewed_node.CrewedNode.new.Goals as goal

pub invariant_of-result : goal.invariant_of-result
invariant_of-result c = record {
  were_open = subst (λ (n : Node). WereOpen n.inst n.decisions) (sym c.in_ok-node.ensures) tt;
  begun =
      subst (λ (n : Node). HasEarly n.inst.turn n.inst n.decisions c.in-Ok-early_first.begun) (sym c.in_ok-node.ensures)
      c.in-Ok-early_first.ensures;
  crew = crew_none c.args.inst.now c.in-Ok.crew c.in_ok-node.node c.in_ok-node.ensures
      (c.in-Ok.ensures ∙ ap (λ (t : Turn). record { inst = c.args.inst.now; turn = t; cranes = no_cranes c.args.inst.now }) c.turn.ensures);
}
