use Rattle.std.proofs.Common.{◌≤◌, ap, arith, rules}
use Rattle.std.proofs.lemmas.Int.{ints}
use Rattle.std.proofs.lemmas.Nat.{mul-le}
use Rattle.qc_model.specs.declared.task.Task.{Task}
use Rattle.qc_model.proofs.Bays.{bays}
use Rattle.qc_model.proofs.LimitsOf.{travel_of}
use Rattle.qc_dist.proofs.travel.climb.Goals as goal

pub returns-then-first-second-clause-longer : goal.returns-then-first-second-clause-longer
returns-then-first-second-clause-longer c =
    let travel = (travel_of c.args.inst.now c.task-first.ensures.valid).0 in
    let low = c.task-first.ensures.on_rail.0 in
    let high = c.task-second.ensures.on_rail.1 in
    let some : 1 ≤ c.bays_up.result = omega (arith, ints, bays, c.bays_up.ensures, c.if-first-second.true, low, high, c.task-first.ensures.on_rail.1, c.task-second.ensures.on_rail.0) in
    let ticks = ap (λ (t : Task). t.ticks) c.task-first.ensures.task in
    omega (arith, ticks, c.travel_over.ensures.ticks, mul-le 1 1 c.args.inst.now.travel c.bays_up.result travel some)

pub travel_over-requires : goal.travel_over-requires
travel_over-requires c = search rules

pub overflow_add-result : goal.overflow_add-result
overflow_add-result c = search rules

pub returns-then-first-second-clause-ticks : goal.returns-then-first-second-clause-ticks
returns-then-first-second-clause-ticks c = search rules

pub returns-then-first-second-clause-bound : goal.returns-then-first-second-clause-bound
returns-then-first-second-clause-bound c = search rules

pub returns-else-first-second-clause-ticks : goal.returns-else-first-second-clause-ticks
returns-else-first-second-clause-ticks c = search rules

pub returns-else-first-second-clause-bound : goal.returns-else-first-second-clause-bound
returns-else-first-second-clause-bound c = search rules

pub returns-else-first-second-clause-longer : goal.returns-else-first-second-clause-longer
returns-else-first-second-clause-longer c = search rules
