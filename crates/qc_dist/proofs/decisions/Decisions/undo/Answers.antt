use Rattle.std.proofs.Common.{arith}
use Rattle.qc_dist.specs.Fields.{beside}
use Rattle.qc_dist.proofs.Changes.{after_unassign, after_unorder, left_fits, newest_assigned, newest_range, undone}
use Rattle.qc_dist.proofs.decisions.Decisions.undo.Goals as goal

pub invariant_of-self-in-Assign : goal.invariant_of-self-in-Assign
invariant_of-self-in-Assign c =
    let f = c.self.inside in
    after_unassign f.inst f.made.items c.pop.new.self.items c.in_ok-decision.decision _ (beside f) c.in-Assign.task _
    c.self.invariant c.in_ok-decision.ensures.items c.in-Assign.is c.in_ok-decision.ensures.capacity

pub returns-in-Assign-clause-undone : goal.returns-in-Assign-clause-undone
returns-in-Assign-clause-undone c =
    undone c.self.inside c.pop.new.self.items c.in_ok-decision.decision _ _ c.self.view_is c.in_ok-decision.ensures.items
    c.in-Assign.is

pub returns-in-Assign-clause-fits : goal.returns-in-Assign-clause-fits
returns-in-Assign-clause-fits c =
    left_fits c.self.inside.inst c.self.inside.made.items c.pop.new.self.items c.in_ok-decision.decision (beside c.self.inside)
    c.self.invariant c.in_ok-decision.ensures.items

pub cell-requires-clause-first : goal.cell-requires-clause-first
cell-requires-clause-first c =
    let f = c.self.inside in
    let range = newest_range f.inst f.made.items c.pop.new.self.items c.in_ok-decision.decision (beside f)
    c.in-Order.first c.in-Order.second c.self.invariant c.in_ok-decision.ensures.items c.in-Order.is in
    omega (arith, c.self.invariant.valid.tasks.count, range)

pub cell-requires-clause-second : goal.cell-requires-clause-second
cell-requires-clause-second c =
    let f = c.self.inside in
    let range = newest_range f.inst f.made.items c.pop.new.self.items c.in_ok-decision.decision (beside f)
    c.in-Order.first c.in-Order.second c.self.invariant c.in_ok-decision.ensures.items c.in-Order.is in
    omega (arith, c.self.invariant.valid.tasks.count, range)

pub index_mut-requires-in-Order : goal.index_mut-requires-in-Order
index_mut-requires-in-Order c =
    let f = c.self.inside in
    let range = newest_range f.inst f.made.items c.pop.new.self.items c.in_ok-decision.decision (beside f)
    c.in-Order.first c.in-Order.second c.self.invariant c.in_ok-decision.ensures.items c.in-Order.is in
    omega (arith, c.self.invariant.valid.tasks.count, c.self.invariant.ordered.count, f.ordered.ok.0, range)

pub invariant_of-self-in-Order : goal.invariant_of-self-in-Order
invariant_of-self-in-Order c =
    let f = c.self.inside in
    after_unorder f.inst f.made.items c.pop.new.self.items c.in_ok-decision.decision _ (beside f) c.in-Order.first c.in-Order.second
    c.cell.result c.self.invariant c.in_ok-decision.ensures.items c.in-Order.is c.cell.ensures c.in_ok-decision.ensures.capacity

pub returns-in-Order-clause-undone : goal.returns-in-Order-clause-undone
returns-in-Order-clause-undone c =
    undone c.self.inside c.pop.new.self.items c.in_ok-decision.decision _ _ c.self.view_is c.in_ok-decision.ensures.items
    c.in-Order.is

pub returns-in-Order-clause-fits : goal.returns-in-Order-clause-fits
returns-in-Order-clause-fits c =
    left_fits c.self.inside.inst c.self.inside.made.items c.pop.new.self.items c.in_ok-decision.decision (beside c.self.inside)
    c.self.invariant c.in_ok-decision.ensures.items

pub index_mut-requires : goal.index_mut-requires
index_mut-requires c =
    let f = c.self.inside in
    let range = newest_assigned f.inst f.made.items c.pop.new.self.items c.in_ok-decision.decision (beside f)
    c.in-Assign.task _ c.self.invariant c.in_ok-decision.ensures.items c.in-Assign.is in
    omega (arith, c.self.invariant.cranes.count, range)
