use Rattle.std.proofs.Common.{◌↔◌, IsTrue, List, Contains, ap, subst, ◌∙◌}
use Rattle.qc_model.specs.declared.pair.Pair.{Pair}
use Rattle.qc_model.specs.Instance.{pair_of}
use Rattle.qc_model.proofs.NodeLemmas.{before_found, pair_listed}
use Rattle.qc_model.proofs.instance.Instance.is_apart.Goals as goal

pub returns : goal.returns
returns c =
    let first = c.args.first in
    let second = c.args.second in
    let pairs = c.args.self.now.apart in
    let there : IsTrue c.holds.result ↔ Contains pairs (pair_of first second) =
    subst (λ (ps : List Pair). IsTrue c.holds.result ↔ Contains ps (pair_of first second))
    (c.as_slice.ensures.value ∙ ap (λ i. i.apart) c.self.view_is) c.holds.ensures in
    (λ holds. pair_listed first second pairs (there.0 holds), λ apart. there.1 (before_found first second pairs apart))
