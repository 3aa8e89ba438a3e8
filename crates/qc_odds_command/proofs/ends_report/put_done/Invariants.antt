use Rattle.std.proofs.Common.{Ok, take}
use Rattle.std.specs.List.{flat_map}
use Rattle.qc_io.specs.Writes.{Writes}
use Rattle.qc_odds_command.specs.Texts.{done_line}
use Rattle.qc_odds_command.proofs.ends_report.put_done.Given as goal

abbrev pub invariant-loop-percent : goal.invariant-loop-percent
invariant-loop-percent g l =
    Writes (g.K.Sink.view l.initial.sink) (g.K.Sink.view l.sink)
    (flat_map (done_line l.tally.ends) (take l.percent-index l.percents)) (Ok tt)
