use Rattle.std.proofs.Common.{◌≡◌, ◌↔◌, IsTrue, ap, sym, subst, ◌∙◌}
use Rattle.qc_dist.specs.Node.{Node}
use Rattle.qc_model.specs.declared.turn.Turn.TheVariants.{OneWay}
use Rattle.qc_model.specs.Instance.{InstanceView}
use Rattle.qc_starts.specs.Seen.{AreSettled}
use Rattle.qc_starts.proofs.OverlapLemmas.{complete_one_way}
use Rattle.qc_starts.proofs.starts.Starts.settles.Goals as goal

pub returns-in-OneWay : goal.returns-in-OneWay
returns-in-OneWay c =
    let inst = c.args.self.now.inst in
    let one : inst.turn ≡ OneWay =
    sym (ap (λ (i : InstanceView). i.turn) c.instance.ensures.same) ∙ sym c.turn.ensures ∙ c.in-OneWay.is in
    let node = c.decisions.ensures.node ∙ c.self.view_is in
    let settled = subst (λ (n : Node). IsTrue c.are_settled.result ↔ AreSettled n.inst n.decisions) node c.are_settled.ensures in
    (λ t. complete_one_way inst c.args.self.now.decisions one c.requires (settled.0 t), λ is. settled.1 (is.pairs one))
