use Rattle.std.proofs.Common.{arith, rules}
use Rattle.std.proofs.lemmas.Int.{ints}
use Rattle.qc_model.proofs.Bays.{bays}
use Rattle.qc_dist.proofs.travel.separation.Goals as goal

pub travel_over-requires : goal.travel_over-requires
travel_over-requires c =
    let one = c.task.ensures.on_rail in
    let other = c.task-then-v-w.ensures.on_rail in
    omega (arith, ints, bays, c.bays_between.ensures, one.0, one.1, other.0, other.1)

pub returns-then-v-w-clause-ticks : goal.returns-then-v-w-clause-ticks
returns-then-v-w-clause-ticks c = search rules

pub returns-then-v-w-clause-bound : goal.returns-then-v-w-clause-bound
returns-then-v-w-clause-bound c = search rules

pub returns-else-v-w-clause-ticks : goal.returns-else-v-w-clause-ticks
returns-else-v-w-clause-ticks c = search rules

pub returns-else-v-w-clause-bound : goal.returns-else-v-w-clause-bound
returns-else-v-w-clause-bound c = search rules
