use Rattle.std.proofs.Common.{rules}
use Rattle.qc_dist.proofs.travel.berth_wait.Goals as goal

pub overflow_add-result : goal.overflow_add-result
overflow_add-result c = search rules

pub returns-then-clear-eq0-clause-ticks : goal.returns-then-clear-eq0-clause-ticks
returns-then-clear-eq0-clause-ticks c = search rules

pub returns-then-clear-eq0-clause-bound : goal.returns-then-clear-eq0-clause-bound
returns-then-clear-eq0-clause-bound c = search rules

pub returns-else-clear-eq0-clause-ticks : goal.returns-else-clear-eq0-clause-ticks
returns-else-clear-eq0-clause-ticks c = search rules

pub returns-else-clear-eq0-clause-bound : goal.returns-else-clear-eq0-clause-bound
returns-else-clear-eq0-clause-bound c = search rules
