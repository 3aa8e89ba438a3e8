use Rattle.std.proofs.Common.{arith, rules}
use Rattle.std.proofs.lemmas.Int.{ints}
use Rattle.qc_model.proofs.Bays.{bays}
use Rattle.qc_dist.proofs.travel.span.Goals as goal

pub travel_over-requires : goal.travel_over-requires
travel_over-requires c =
    let one = c.task-first.ensures.on_rail in
    let other = c.task.ensures.on_rail in
    omega (arith, ints, bays, c.bays_between.ensures, one.0, one.1, other.0, other.1)

pub overflow_add-result : goal.overflow_add-result
overflow_add-result c = search rules

pub returns-clause-ticks : goal.returns-clause-ticks
returns-clause-ticks c = search rules

pub returns-clause-bound : goal.returns-clause-bound
returns-clause-bound c = search rules
