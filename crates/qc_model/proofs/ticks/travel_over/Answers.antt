use Rattle.std.proofs.Common.{arith}
use Rattle.std.proofs.lemmas.Nat.{mul-le}
use Rattle.qc_model.proofs.LimitsOf.{limits_of}
use Rattle.qc_model.proofs.ticks.travel_over.Goals as goal

pub overflow_mul-result : goal.overflow_mul-result
overflow_mul-result c =
    let k = mul-le c.args.inst.now.travel c.args.bays 10000 60000 (limits_of _ c.travel.ensures.valid).travel c.requires in
    rw c.travel.ensures.travel (omega (arith, k))

pub returns-clause-bound : goal.returns-clause-bound
returns-clause-bound c =
    let k = mul-le c.args.inst.now.travel c.args.bays 10000 60000 (limits_of _ c.travel.ensures.valid).travel c.requires in
    rw c.travel.ensures.travel (omega (arith, k))
