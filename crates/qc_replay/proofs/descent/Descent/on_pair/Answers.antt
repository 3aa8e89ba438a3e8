use Rattle.std.proofs.Common.{◌∙◌, ◌∷◌, ap, subst, sym}
use Rattle.qc_dist.specs.Node.{IsOpen, Node}
use Rattle.qc_model.specs.declared.decision.Decision.TheVariants.{Order}
use Rattle.qc_replay.specs.Part.{Standing}
use Rattle.qc_replay.proofs.DescentFacts.{pair_nodes}
use Rattle.qc_replay.proofs.descent.Descent.on_pair.Goals as goal

pub returns-clause-nodes : goal.returns-clause-nodes
returns-clause-nodes c =
    pair_nodes c.args.self.now _ c.requires.live c.args.first c.args.second
    c.requires.low
    (ap (λ (n : Node). record { inst = n.inst; decisions = n.decisions; live = c.self.inside.live }) c.add.ensures
    ∙ ap (λ (s : Standing). record { inst = s.inst; decisions = Order c.args.first c.args.second ∷ s.decisions; live = s.live })
    c.self.view_is)

pub add-requires : goal.add-requires
add-requires c =
    subst (λ (s : Standing). IsOpen s.inst s.decisions (Order c.args.first c.args.second)) (sym c.self.view_is)
    (c.requires.conflict, c.requires.unsettled)
