use Rattle.std.proofs.Common.{Ok, take}
use Rattle.std.specs.List.{flat_map}
use Rattle.qc_io.specs.Writes.{Writes}
use Rattle.qc_tasks.specs.TasksText.{pair_line}
use Rattle.qc_tasks.proofs.report.put_pairs.Given as goal

abbrev pub invariant-loop-pair : goal.invariant-loop-pair
invariant-loop-pair g l =
    Writes (g.K.Sink.view l.fn.sink) (g.K.Sink.view l.sink) (flat_map (pair_line l.inst l.title) (take l.pair-index l.pairs)) (Ok tt)
