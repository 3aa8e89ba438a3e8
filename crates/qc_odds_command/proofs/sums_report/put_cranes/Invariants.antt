use Rattle.std.proofs.Common.{length, take, Ok}
use Rattle.std.specs.List.{flat_map, range_with_len}
use Rattle.qc_io.specs.Writes.{Writes}
use Rattle.qc_odds_command.specs.Texts.{crane_line}
use Rattle.qc_odds_command.proofs.sums_report.put_cranes.Given as goal

abbrev pub invariant-loop-crane : goal.invariant-loop-crane
invariant-loop-crane g l =
    Writes (g.K.Sink.view l.initial.sink) (g.K.Sink.view l.sink)
    (flat_map (crane_line l.inst (length l.odds.tally.ends) l.odds.cranes.items) (take l.crane (range_with_len 0 (length l.inst.cranes)))) (Ok tt)
