use Rattle.std.proofs.Common.{pos, ap, ◌∙◌, arith}
use Rattle.std.proofs.lemmas.Int.{ints}
use Rattle.qc_model.specs.Bays.{at_least_zero}
use Rattle.qc_model.specs.Instance.{IsOnRail}
use Rattle.qc_model.proofs.LimitsOf.{counted, limits_of}
use Rattle.qc_model.proofs.OnRail.{read_bay}
use Rattle.qc_model.proofs.instance.Instance.gap.Goals as goal

pub returns-clause-gap : goal.returns-clause-gap
returns-clause-gap c =
    let l = limits_of _ c.self.invariant in
    let on : IsOnRail (pos (at_least_zero c.self.inside.gap)) = (omega (arith, ints), omega (arith, ints, l.gap.1)) in
    read_bay _ _ (counted c.self.inside.gap l.gap.0) on ∙ ap (λ i. pos i.gap) c.self.view_is
