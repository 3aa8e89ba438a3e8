use Rattle.std.proofs.Common.{◌≡◌, ◌++◌, map}
use Rattle.std.specs.List.{range_with_len}
use Rattle.qc_make.specs.MadeList.{made_row, row_lines}
use Rattle.qc_make.proofs.list.push_phase.Given as goal

abbrev pub invariant-loop-i : goal.invariant-loop-i
invariant-loop-i l =
    l.text.items ≡ l.initial.text.items ++ row_lines (map (made_row l.hatch l.phase) (range_with_len 0 l.i))
