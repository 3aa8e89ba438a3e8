use Rattle.std.proofs.Common.{All, Ok, take}
use Rattle.std.specs.List.{flat_map}
use Rattle.qc_io.specs.Writes.{Writes}
use Rattle.qc_rest_files.specs.LeftLines.{IsPlainIfLeft, left_line}
use Rattle.qc_rest_files.proofs.list.put_left.Given as goal

-- the lines of the moves so far are written, and those that are left are plain
abbrev pub invariant-loop-row : goal.invariant-loop-row
invariant-loop-row g l =
    Writes (g.K.Sink.view l.initial.sink) (g.K.Sink.view l.sink) (flat_map (left_line l.tasks) (take l.row-index l.rows)) (Ok tt)
    × All (IsPlainIfLeft l.tasks) (take l.row-index l.rows)
