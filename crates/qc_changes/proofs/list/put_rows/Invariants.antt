use Rattle.std.proofs.Common.{Ok, take}
use Rattle.std.specs.List.{flat_map}
use Rattle.qc_io.specs.Writes.{Writes}
use Rattle.qc_changes.specs.ListText.{row_line}
use Rattle.qc_changes.proofs.list.put_rows.Given as goal

-- the lines of the moves so far are written
abbrev pub invariant-loop-row : goal.invariant-loop-row
invariant-loop-row g l =
    Writes (g.K.Sink.view l.initial.sink) (g.K.Sink.view l.sink) (flat_map row_line (take l.row-index l.rows)) (Ok tt)
