use Rattle.std.proofs.Common.{◌∙◌, ap, refl, subst, sym}
use Rattle.qc_dist.specs.Node.{Node}
use Rattle.qc_replay.specs.Earliest.{HasEarly}
use Rattle.qc_model.specs.declared.decision.Decision.TheVariants.{Assign}
use Rattle.qc_close.proofs.DecidedCranes.{crew_at, crew_put}
use Rattle.qc_replay.proofs.CrewFacts.{IsCrew, opens, were_open_more, with}
use Rattle.qc_replay.proofs.crewed_node.CrewedNode.add.Goals as goal

pub put-requires-clause-none : goal.put-requires-clause-none
put-requires-clause-none c =
    let node = c.self.inside.node in
    let one = opens node c.args.self.now c.args.decision (Assign c.in-Assign.task c.in-Assign.crane) c.self.view_is
    c.in-Assign.is c.requires in
    crew_at node.inst node.decisions c.self.inside.crew c.in-Assign.task c.self.invariant.crew one.0 ∙ one.2

pub invariant_of-self : goal.invariant_of-self
invariant_of-self c =
    let node = c.self.inside.node in
    let one = opens node c.args.self.now c.args.decision (Assign c.in-Assign.task c.in-Assign.crane) c.self.view_is
    c.in-Assign.is c.requires in
    let added = c.add.ensures.added in
    record {
      were_open =
          were_open_more node c.add.new.self c.args.decision added
          (opens node c.args.self.now c.args.decision c.args.decision c.self.view_is refl c.requires)
          c.self.invariant.were_open;
      begun =
          subst (λ (n : Node). HasEarly n.inst.turn n.inst n.decisions c.begun_more.new.begun) (sym added)
          c.begun_more.ensures;
      crew =
          subst (IsCrew c.put.new.self) (sym (added ∙ ap (with node) c.in-Assign.is))
          (crew_put node.inst node.decisions c.self.inside.crew c.put.new.self c.in-Assign.task c.in-Assign.crane
          c.self.invariant.crew one.0 c.put.ensures);
    }
