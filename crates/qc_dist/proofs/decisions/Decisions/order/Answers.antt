use Rattle.std.proofs.Common.{[], ◌∷◌, arith}
use Rattle.std.proofs.lemmas.Grind.{common_steps}
use Rattle.std.proofs.lemmas.List.{reverse-append}
use Rattle.qc_model.specs.declared.decision.Decision.TheVariants.{Order}
use Rattle.qc_dist.specs.Fields.{beside}
use Rattle.qc_dist.proofs.Changes.{after_order, can_order, made_room}
use Rattle.qc_dist.proofs.decisions.Decisions.order.Goals as goal

pub push_reserved-requires : goal.push_reserved-requires
push_reserved-requires c =
    let f = c.self.inside in
    let kept = c.self.invariant in
    let can = can_order f kept _ c.args.first c.args.second c.self.view_is c.requires.conflict c.requires.unsettled in
    let room = made_room f.inst kept.valid f.made.items _ (Order c.args.first c.args.second) (can.conflict, can.one, can.other, kept.fits) kept.room in
    omega (arith, f.made.ok.0, room)

pub cell-requires-clause-first : goal.cell-requires-clause-first
cell-requires-clause-first c =
    let kept = c.self.invariant in
    let can = can_order c.self.inside kept _ c.args.first c.args.second c.self.view_is c.requires.conflict c.requires.unsettled in
    omega (arith, kept.valid.tasks.count, can.first)

pub cell-requires-clause-second : goal.cell-requires-clause-second
cell-requires-clause-second c =
    let kept = c.self.invariant in
    let can = can_order c.self.inside kept _ c.args.first c.args.second c.self.view_is c.requires.conflict c.requires.unsettled in
    omega (arith, kept.valid.tasks.count, can.second)

pub index_mut-requires : goal.index_mut-requires
index_mut-requires c =
    let f = c.self.inside in
    let kept = c.self.invariant in
    let can = can_order f kept _ c.args.first c.args.second c.self.view_is c.requires.conflict c.requires.unsettled in
    omega (arith, kept.valid.tasks.count, kept.ordered.count, f.ordered.ok.0, can.first, can.second)

pub invariant_of-self : goal.invariant_of-self
invariant_of-self c =
    let f = c.self.inside in
    let can = can_order f c.self.invariant _ c.args.first c.args.second c.self.view_is c.requires.conflict c.requires.unsettled in
    after_order f.inst f.made.items c.push_reserved.new.self.items _ (beside f) c.args.first c.args.second c.cell.result
    c.self.invariant can c.cell.ensures c.push_reserved.ensures.items c.push_reserved.ensures.capacity

pub returns-clause-added : goal.returns-clause-added
returns-clause-added c = grind (arith, common_steps)

pub returns-clause-fits : goal.returns-clause-fits
returns-clause-fits c =
    let f = c.self.inside in
    let kept = c.self.invariant in
    let can = can_order f kept _ c.args.first c.args.second c.self.view_is c.requires.conflict c.requires.unsettled in
    rw (c.push_reserved.ensures.items, reverse-append f.made.items (Order c.args.first c.args.second ∷ []))
    (can.conflict, can.one, can.other, kept.fits)
