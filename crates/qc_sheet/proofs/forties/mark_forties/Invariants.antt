use Rattle.std.proofs.Common.{take}
use Rattle.qc_sheet.specs.Entries.{Marks}
use Rattle.qc_sheet.proofs.forties.mark_forties.Given as goal

-- the moves so far are marked
abbrev pub invariant-loop-number : goal.invariant-loop-number
invariant-loop-number l = Marks l.rows (take l.number-index l.numbers) l.table
