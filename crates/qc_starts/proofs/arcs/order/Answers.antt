use Rattle.std.proofs.Common.{ℕ, ◌≤◌, ◌∙◌, None, length, reverse, ap, sym, subst, subst₂}
use Rattle.qc_dist.specs.Node.{Node}
use Rattle.qc_model.specs.Instance.{InstanceView}
use Rattle.qc_model.specs.Nodes.{forced}
use Rattle.qc_starts.specs.Arcs.{AreArcs, IsOver, with_added}
use Rattle.qc_starts.proofs.ArcLemmas.{order_after, over_added, roomy}
use Rattle.qc_starts.proofs.arcs.order.Goals as goal

pub push_forced-requires-clause-room : goal.push_forced-requires-clause-room
push_forced-requires-clause-room c =
    let inst = c.args.decisions.now.inst in
    let news = c.add.new.self.decisions in
    let arcs = reverse c.args.arena.now.arcs in
    let is = ap (λ (n : Node). n.decisions) c.add.ensures.added in
    let after = order_after inst c.args.decisions.now.decisions news c.requires.valid c.add.ensures.fits arcs
    c.args.first c.args.second is c.requires.open c.requires.first c.requires.second c.requires.arcs in
    let room = roomy inst c.args.decisions.now.decisions news c.requires.valid c.add.ensures.fits
    (with_added c.args.first c.args.second (forced inst news c.args.first c.args.second) None arcs) after in
    subst₂ (λ (i : InstanceView) (cap : ℕ).
    length (with_added c.args.first c.args.second (forced i news c.args.first c.args.second) None arcs) ≤ cap)
    (sym (ap (λ (n : Node). n.inst) c.add.ensures.added)) (sym c.requires.room.cap) room

pub returns-clause-arcs : goal.returns-clause-arcs
returns-clause-arcs c =
    let inst = c.args.decisions.now.inst in
    let news = c.add.new.self.decisions in
    let arcs = reverse c.args.arena.now.arcs in
    let is = ap (λ (n : Node). n.decisions) c.add.ensures.added in
    let pushed = c.push_forced.ensures.arcs ∙ ap (λ (n : Node).
    with_added c.args.first c.args.second (forced n.inst news c.args.first c.args.second) None arcs) c.add.ensures.added in
    subst (AreArcs inst news) (sym pushed)
    (order_after inst c.args.decisions.now.decisions news c.requires.valid c.add.ensures.fits arcs
    c.args.first c.args.second is c.requires.open c.requires.first c.requires.second c.requires.arcs)

pub returns-clause-over : goal.returns-clause-over
returns-clause-over c =
    let arcs = reverse c.args.arena.now.arcs in
    subst (IsOver arcs) (sym c.push_forced.ensures.arcs)
    (over_added c.args.first c.args.second
    (forced c.add.new.self.inst c.add.new.self.decisions c.args.first c.args.second) None arcs)
