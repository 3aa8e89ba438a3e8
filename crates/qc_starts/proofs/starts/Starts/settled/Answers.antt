use Rattle.std.proofs.Common.{◌↔◌, ◌∙◌, IsTrue, subst}
use Rattle.qc_dist.specs.Node.{Node}
use Rattle.qc_model.specs.Nodes.{IsSettled}
use Rattle.qc_starts.proofs.starts.Starts.settled.Goals as goal

pub returns : goal.returns
returns c =
    subst (λ (n : Node). IsTrue c.settled.result ↔ IsSettled n.inst n.decisions c.args.i c.args.j)
    (c.decisions.ensures.node ∙ c.self.view_is) c.settled.ensures
