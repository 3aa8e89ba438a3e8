use Rattle.std.proofs.Common.{Ok, take}
use Rattle.std.specs.List.{flat_map}
use Rattle.qc_io.specs.Writes.{Writes}
use Rattle.qc_log_commands.specs.DispatchTexts.{event_line}
use Rattle.qc_log_commands.proofs.dispatch_report.put_events.Given as goal

abbrev pub invariant-loop-event : goal.invariant-loop-event
invariant-loop-event g l =
    Writes (g.K.Sink.view l.fn.sink) (g.K.Sink.view l.sink) (flat_map event_line (take l.event-index l.events)) (Ok tt)
