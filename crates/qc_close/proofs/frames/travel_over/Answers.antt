use Rattle.std.proofs.Common.{◌≤◌, arith}
use Rattle.qc_model.proofs.LimitsOf.{travel_of}
use Rattle.qc_close.proofs.OwnLemmas.{travel_small}
use Rattle.qc_close.proofs.frames.travel_over.Goals as goal

pub overflow_mul-result : goal.overflow_mul-result
overflow_mul-result c =
    let few : c.travel.result ≤ 10000 = omega (arith, c.travel.ensures.travel, (travel_of c.args.inst.now c.travel.ensures.valid).1) in
    omega (arith, travel_small c.travel.result c.args.bays few c.requires)

pub returns-clause-bound : goal.returns-clause-bound
returns-clause-bound c =
    let few : c.travel.result ≤ 10000 = omega (arith, c.travel.ensures.travel, (travel_of c.args.inst.now c.travel.ensures.valid).1) in
    travel_small c.travel.result c.args.bays few c.requires
