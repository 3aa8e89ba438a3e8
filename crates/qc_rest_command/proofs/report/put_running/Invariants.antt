use Rattle.std.proofs.Common.{Ok, take}
use Rattle.std.specs.List.{flat_map}
use Rattle.qc_io.specs.Writes.{Writes}
use Rattle.qc_rest_command.specs.Texts.{running_line}
use Rattle.qc_rest_command.proofs.report.put_running.Given as goal

abbrev pub invariant-loop-still : goal.invariant-loop-still
invariant-loop-still g l =
    Writes (g.K.Sink.view l.fn.sink) (g.K.Sink.view l.sink) (flat_map (running_line l.inst) (take l.still-index l.running)) (Ok tt)
