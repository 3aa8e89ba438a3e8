use Rattle.std.proofs.Common.{arith}
use Rattle.std.proofs.lemmas.Grind.{common_steps}
use Rattle.qc_gantt.proofs.entry.read_entry.Goals as goal

pub overflow_add-start : goal.overflow_add-start
overflow_add-start c = grind (arith, common_steps)
