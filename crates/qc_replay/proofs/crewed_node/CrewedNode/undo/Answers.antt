use Rattle.std.proofs.Common.{◌∙◌, ap, subst}
use Rattle.qc_model.specs.declared.decision.Decision.TheVariants.{Assign}
use Rattle.qc_close.proofs.DecidedCranes.{crew_some, crew_taken}
use Rattle.qc_replay.proofs.CrewFacts.{IsCrew, begun_apart, was_open, were_open_less, with}
use Rattle.qc_replay.proofs.crewed_node.CrewedNode.undo.Goals as goal

pub take-requires-clause-some : goal.take-requires-clause-some
take-requires-clause-some c =
    let node = c.self.inside.node in
    let next = c.undo.new.self in
    let more = c.in_ok-decision.ensures.undone ∙ ap (with next) c.in-Assign.is in
    let one = was_open node next (Assign c.in-Assign.task c.in-Assign.field-1) more c.self.invariant.were_open in
    crew_some next.inst next.decisions c.self.inside.crew c.in-Assign.task c.in-Assign.field-1
    (subst (IsCrew c.self.inside.crew) more c.self.invariant.crew) one.0

pub invariant_of-self-in-Assign : goal.invariant_of-self-in-Assign
invariant_of-self-in-Assign c =
    let node = c.self.inside.node in
    let next = c.undo.new.self in
    let more = c.in_ok-decision.ensures.undone ∙ ap (with next) c.in-Assign.is in
    let d = Assign c.in-Assign.task c.in-Assign.field-1 in
    let one = was_open node next d more c.self.invariant.were_open in
    record {
      were_open = were_open_less node next d more c.self.invariant.were_open;
      begun =
          c.begun_less.ensures d (begun_apart node next d more c.self.inside.begun c.self.invariant.begun);
      crew =
          crew_taken next.inst next.decisions c.self.inside.crew c.take.new.self c.in-Assign.task c.in-Assign.field-1
          (subst (IsCrew c.self.inside.crew) more c.self.invariant.crew) one.0 one.2 c.take.ensures;
    }
