use Rattle.std.proofs.Common.{◌↔◌, ◌∙◌, IsTrue, subst}
use Rattle.qc_dist.specs.Node.{Node}
use Rattle.qc_model.specs.Nodes.{Conflicts}
use Rattle.qc_starts.proofs.starts.Starts.conflict.Goals as goal

pub returns : goal.returns
returns c =
    subst (λ (n : Node). IsTrue c.conflict.result ↔ Conflicts n.inst n.decisions c.args.i c.args.j)
    (c.decisions.ensures.node ∙ c.self.view_is) c.conflict.ensures
