use Rattle.std.proofs.Common.{take}
use Rattle.qc_tasks.proofs.Restows.{Knows}
use Rattle.qc_tasks.proofs.before.number_discharges.Given as goal

abbrev pub invariant-loop-row : goal.invariant-loop-row
invariant-loop-row l = Knows l.tasks (take l.row-index l.rows) l.numbers.entries
