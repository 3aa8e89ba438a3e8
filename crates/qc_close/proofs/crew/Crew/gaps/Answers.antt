use Rattle.std.proofs.Common.{length, ap, arith}
use Rattle.std.proofs.lemmas.Nat.{mul-le}
use Rattle.qc_model.specs.Instance.{InstanceView}
use Rattle.qc_model.proofs.Bays.{bays}
use Rattle.qc_model.proofs.LimitsOf.{limits_of}
use Rattle.qc_close.proofs.crew.Crew.gaps.Goals as goal

pub returns-clause-bound : goal.returns-clause-bound
returns-clause-bound c =
    let limits = limits_of c.instance.result.now c.gap.ensures.valid in
    let same = ap (λ (i : InstanceView). length i.cranes) c.instance.ensures.same in
    mul-le c.bays_up-gap.result c.from.result 2000 8
    (omega (arith, bays, c.bays_up-gap.ensures, c.gap.ensures.gap, limits.gap.1))
    (omega (arith, same, c.requires, c.from.ensures, limits.cranes))
