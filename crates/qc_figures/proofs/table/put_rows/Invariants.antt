use Rattle.std.proofs.Common.{◌≡◌, ◌++◌}
use Rattle.std.specs.List.{flat_map, range_with_len}
use Rattle.qc_figures.specs.FiguresText.{row_of}
use Rattle.qc_figures.specs.Views.{view_of}
use Rattle.qc_figures.proofs.table.put_rows.Given as goal

-- the rows so far
abbrev pub invariant-loop-crane : goal.invariant-loop-crane
invariant-loop-crane l = l.page ≡ l.initial.page ++ flat_map (row_of (view_of l.of)) (range_with_len 0 l.crane)
