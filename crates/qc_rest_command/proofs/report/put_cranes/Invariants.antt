use Rattle.std.proofs.Common.{Ok, take}
use Rattle.std.specs.List.{flat_map}
use Rattle.qc_io.specs.Writes.{Writes}
use Rattle.qc_rest_command.specs.Texts.{crane_line}
use Rattle.qc_rest_command.proofs.report.put_cranes.Given as goal

abbrev pub invariant-loop-crane : goal.invariant-loop-crane
invariant-loop-crane g l =
    Writes (g.K.Sink.view l.fn.sink) (g.K.Sink.view l.sink) (flat_map crane_line (take l.crane-index l.cranes)) (Ok tt)
