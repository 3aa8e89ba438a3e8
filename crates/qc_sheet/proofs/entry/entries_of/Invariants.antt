use Rattle.std.proofs.Common.{◌≡◌, map, take, All}
use Rattle.qc_sheet.specs.declared.entry.Entry.{Entry}
use Rattle.qc_sheet.specs.Entries.{IsEntry}
use Rattle.qc_sheet.proofs.entry.entries_of.Given as goal

-- the entries of the moves so far
abbrev pub invariant-loop-number : goal.invariant-loop-number
invariant-loop-number l = record {
  numbers : map (λ (e : Entry). e.number) l.entries.items ≡ take l.number-index l.numbers;
  entries : All (IsEntry l.rows l.table) l.entries.items;
}
