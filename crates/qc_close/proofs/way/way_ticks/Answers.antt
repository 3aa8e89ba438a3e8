use Rattle.std.proofs.Common.{arith}
use Rattle.std.proofs.lemmas.Nat.{mul-le}
use Rattle.qc_close.proofs.way.way_ticks.Goals as goal
use Rattle.qc_model.proofs.LimitsOf.{travel_of}

pub overflow_mul-result : goal.overflow_mul-result
overflow_mul-result c =
    let travel = (travel_of c.args.inst.now c.travel.ensures.valid).1 in
    omega (arith, mul-le c.travel.result c.args.bays 10000 16592000 (omega (arith, travel, c.travel.ensures.travel)) c.requires)

pub returns-clause-few : goal.returns-clause-few
returns-clause-few c =
    let travel = (travel_of c.args.inst.now c.travel.ensures.valid).1 in
    omega (arith, mul-le c.travel.result c.args.bays 10000 16592000 (omega (arith, travel, c.travel.ensures.travel)) c.requires)
