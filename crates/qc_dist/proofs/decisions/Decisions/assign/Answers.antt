use Rattle.std.proofs.Common.{arith}
use Rattle.std.proofs.lemmas.Grind.{common_steps}
use Rattle.qc_model.specs.declared.decision.Decision.TheVariants.{Assign}
use Rattle.qc_dist.specs.Fields.{beside}
use Rattle.qc_dist.proofs.Changes.{after_assign, can_assign, made_room}
use Rattle.qc_dist.proofs.decisions.Decisions.assign.Goals as goal

pub push_reserved-requires : goal.push_reserved-requires
push_reserved-requires c =
    let f = c.self.inside in
    let kept = c.self.invariant in
    let can = can_assign f _ c.args.task c.args.crane c.self.view_is (record { task = c.requires.task; crane = c.requires.crane; none = c.requires.none }) in
    let room = made_room f.inst kept.valid f.made.items _ (Assign c.args.task c.args.crane) (can.task, can.crane, can.none, kept.fits) kept.room in
    omega (arith, f.made.ok.0, room)

pub invariant_of-self : goal.invariant_of-self
invariant_of-self c =
    let f = c.self.inside in
    let can = can_assign f _ c.args.task c.args.crane c.self.view_is (record { task = c.requires.task; crane = c.requires.crane; none = c.requires.none }) in
    after_assign f.inst f.made.items c.push_reserved.new.self.items _ (beside f) c.args.task c.args.crane
    c.self.invariant can c.push_reserved.ensures.items c.push_reserved.ensures.capacity

pub returns-clause-added : goal.returns-clause-added
returns-clause-added c = grind (arith, common_steps)

pub returns-clause-fits : goal.returns-clause-fits
returns-clause-fits c = grind (arith, common_steps)
