use Rattle.std.proofs.Common.{◌∙◌, ap, arith, rules}
use Rattle.qc_io.proofs.WritesLemmas.{items_cut, items_more}
use Rattle.qc_log_commands.specs.DispatchTexts.{event_line}
use Rattle.qc_log_commands.proofs.dispatch_report.put_events.Goals as goal

pub returns-in_err-put_all : goal.returns-in_err-put_all
returns-in_err-put_all g c =
    items_cut event_line c.args.events.now c.loop-event.event-index c.event-item.result (g.K.Sink.view c.args.sink.now) (g.K.Sink.view c.loop-event.sink) (g.K.Sink.view c.put_all.new.sink) _
    _ c.from_residual.result (search rules) (omega arith) (c.as_bytes.ensures.bytes ∙ c.event_line.ensures ∙ ap event_line c.event-item.is) c.loop-event.invariant c.in_err-put_all.ensures.writes

pub loop-event-preserved : goal.loop-event-preserved
loop-event-preserved g c =
    items_more event_line c.args.events.now c.loop-event.event-index c.event-item.result (g.K.Sink.view c.args.sink.now) (g.K.Sink.view c.loop-event.sink) (g.K.Sink.view c.put_all.new.sink) _
    (omega arith) (c.as_bytes.ensures.bytes ∙ c.event_line.ensures ∙ ap event_line c.event-item.is) c.loop-event.invariant c.in_ok-put_all.ensures.writes
