use Rattle.std.proofs.Common.{length, take, Ok}
use Rattle.std.specs.List.{flat_map, range_with_len}
use Rattle.qc_io.specs.Writes.{Writes}
use Rattle.qc_gantt.specs.GanttText.{gantt_line}
use Rattle.qc_gantt.proofs.gantt.put_lines.Given as goal

abbrev pub invariant-loop-crane : goal.invariant-loop-crane
invariant-loop-crane g l =
    Writes (g.K.Sink.view l.initial.sink) (g.K.Sink.view l.sink)
    (flat_map (gantt_line l.inst l.sched) (take l.crane (range_with_len 0 (length l.inst.cranes)))) (Ok tt)
