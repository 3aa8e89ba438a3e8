use Rattle.std.proofs.Common.{◌∙◌, ◌∷◌, ap, subst, sym}
use Rattle.qc_dist.specs.Node.{IsOpen, Node}
use Rattle.qc_model.specs.declared.decision.Decision.TheVariants.{Assign}
use Rattle.qc_replay.specs.Part.{Standing}
use Rattle.qc_replay.proofs.DescentFacts.{task_nodes}
use Rattle.qc_replay.proofs.descent.Descent.on_task.Goals as goal

pub add-requires : goal.add-requires
add-requires c =
    subst (λ (s : Standing). IsOpen s.inst s.decisions (Assign c.args.task 0)) (sym c.self.view_is)
    (c.requires.task, c.requires.valid.cranes.count.0, c.requires.none)

pub returns-clause-nodes : goal.returns-clause-nodes
returns-clause-nodes c =
    task_nodes c.args.self.now _ c.requires.live c.args.task c.requires.valid.cranes.count.0
    (ap (λ (n : Node). record { inst = n.inst; decisions = n.decisions; live = c.self.inside.live }) c.add.ensures
    ∙ ap (λ (s : Standing). record { inst = s.inst; decisions = Assign c.args.task 0 ∷ s.decisions; live = s.live }) c.self.view_is)
