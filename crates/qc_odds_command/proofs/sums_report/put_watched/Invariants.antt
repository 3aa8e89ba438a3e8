use Rattle.std.proofs.Common.{length, Ok, take}
use Rattle.std.specs.List.{flat_map}
use Rattle.qc_io.specs.Writes.{Writes}
use Rattle.qc_odds_command.specs.Texts.{task_line}
use Rattle.qc_odds_command.proofs.sums_report.put_watched.Given as goal

abbrev pub invariant-loop-task : goal.invariant-loop-task
invariant-loop-task g l =
    Writes (g.K.Sink.view l.initial.sink) (g.K.Sink.view l.sink)
    (flat_map (task_line l.inst l.plan (length l.odds.tally.ends) l.odds.tasks.items) (take l.task-index l.odds.watched.items)) (Ok tt)
