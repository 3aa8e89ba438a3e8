use Rattle.std.proofs.Common.{rules}
use Rattle.qc_dist.proofs.travel.arrival.Goals as goal

pub travel_over-requires : goal.travel_over-requires
travel_over-requires c = search rules

pub overflow_add-result : goal.overflow_add-result
overflow_add-result c = search rules

pub returns-clause-ticks : goal.returns-clause-ticks
returns-clause-ticks c = search rules

pub returns-clause-bound : goal.returns-clause-bound
returns-clause-bound c = search rules
