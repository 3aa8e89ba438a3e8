use Rattle.std.proofs.Common.{arith}
use Rattle.std.proofs.lemmas.Grind.{common_steps}
use Rattle.qc_starts.proofs.overlap.are_far.Goals as goal

pub returns-then-one-task : goal.returns-then-one-task
returns-then-one-task c = grind (arith, common_steps)

pub returns-else-one-task : goal.returns-else-one-task
returns-else-one-task c = grind (arith, common_steps)
