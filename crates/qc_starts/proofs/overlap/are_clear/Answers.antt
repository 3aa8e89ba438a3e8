use Rattle.std.proofs.Common.{arith}
use Rattle.std.proofs.lemmas.Grind.{common_steps}
use Rattle.qc_starts.proofs.overlap.are_clear.Goals as goal

pub returns-else-one-task : goal.returns-else-one-task
returns-else-one-task c = grind (arith, common_steps)

pub overflow_add-result : goal.overflow_add-result
overflow_add-result c = grind (arith, common_steps)

pub overflow_add-result-else-one-task : goal.overflow_add-result-else-one-task
overflow_add-result-else-one-task c = grind (arith, common_steps)
