use Rattle.std.proofs.Common.{◌≡◌, ◌<◌, ◌≤◌, ℕ, false, slice_index_or}
use Rattle.qc_sheet.specs.Entries.{spot}
use Rattle.qc_sheet.proofs.forties.next_forty.Given as goal

-- none of those before it is marked
abbrev pub invariant-loop-next : goal.invariant-loop-next
invariant-loop-next l = (k : ℕ) → l.high ≤ k → k < l.next → slice_index_or l.table (spot l.row k) false ≡ false
