use Rattle.std.proofs.Common.{◌<◌, length, reverse, sym, ap, subst, ◌∙◌}
use Rattle.qc_starts.specs.declared.network.Network.TheInside.{Inside}
use Rattle.qc_starts.specs.Network.{IsKept}
use Rattle.qc_starts.specs.NodeArcs.{NodeArcs}
use Rattle.qc_starts.proofs.LevelLemmas.{reverse_push, undone_is, undone_kept}
use Rattle.qc_starts.proofs.network.Network.undo.Goals as goal
use Rattle.qc_starts.proofs.network.Network.undo.Goals.{After-pop_to}

abbrev after : (c : After-pop_to) → Inside
after c = record c.self.inside { decisions = c.undo.new.self; arena = c.pop_to.new.arena; marks = c.pop.new.self }

kept : (c : After-pop_to) → IsKept (after c)
kept c =
    let f = c.self.inside in
    let some = subst (λ (n : NodeArcs). 0 < length n.decisions) (sym c.self.view_is) c.requires in
    let was = undone_is f.decisions c.undo.new.self c.undo.result some c.undo.ensures.undone in
    let marks = ap reverse c.in-Some.ensures.items ∙ reverse_push c.pop.new.self.items c.in-Some.mark in
    undone_kept f (after c) c.in-Some.mark was.0 c.self.invariant was.1 c.undo.ensures.fits marks c.in-Some.ensures.capacity
    c.pop_to.ensures.arcs c.pop_to.ensures.nodes c.pop_to.ensures.cap

pub invariant_of-self : goal.invariant_of-self
invariant_of-self c = kept c

pub returns-clause-sound : goal.returns-clause-sound
returns-clause-sound c =
    let is = kept c in
    record { valid = is.valid; fits = is.fits; all = is.arcs; low = is.low }
