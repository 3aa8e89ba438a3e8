use Rattle.std.proofs.Common.{sym, subst, ◌∙◌, arith}
use Rattle.qc_arena.specs.Chains.{IsAhead}
use Rattle.qc_arena.proofs.Threads.{next_cell, no_cell}
use Rattle.qc_arena.proofs.walks.WalkIterator.next.Goals as goal

pub returns-in_err-link-clause-steps : goal.returns-in_err-link-clause-steps
returns-in_err-link-clause-steps c =
    let none = sym c.self.view_is ∙ no_cell _ _ _ _ _ (subst (IsAhead _ _ _ _ _) c.in_err-link.was c.self.invariant) in
    rw c.from_residual.ensures (none, none)

pub get-cell-requires : goal.get-cell-requires
get-cell-requires c =
    let step = next_cell _ _ _ _ _ _ (subst (IsAhead _ _ _ _ _) c.in_ok-link.was c.self.invariant) in
    (step.number, step.inside, step.place)

pub invariant_of-self : goal.invariant_of-self
invariant_of-self c =
    let step = next_cell _ _ _ _ _ _ (subst (IsAhead _ _ _ _ _) c.in_ok-link.was c.self.invariant) in
    rw c.older-self-inside.ensures (step.after c.get-cell.result.now (c.get-cell.ensures step.number c.get-cell.result.now step.place)).ahead

pub returns-clause-steps : goal.returns-clause-steps
returns-clause-steps c =
    let step = next_cell _ _ _ _ _ _ (subst (IsAhead _ _ _ _ _) c.in_ok-link.was c.self.invariant) in
    rw c.arc.ensures (sym c.self.view_is ∙ (step.after c.get-cell.result.now (c.get-cell.ensures step.number c.get-cell.result.now step.place)).arcs)

pub returns-clause-goes : goal.returns-clause-goes
returns-clause-goes c = rw (returns-clause-steps c) (record { on = λ _. (tt, tt, omega arith); keeps = tt; rests = λ _. tt })
