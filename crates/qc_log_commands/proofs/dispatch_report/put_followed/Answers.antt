use Rattle.qc_io.proofs.WritesLemmas.{writes_then}
use Rattle.qc_log_commands.proofs.dispatch_report.put_followed.Goals as goal

pub returns : goal.returns
returns g c =
    writes_then (g.K.Sink.view c.args.sink.now) (g.K.Sink.view c.put_events.new.sink) (g.K.Sink.view c.put_all.new.sink) _ _ c.put_all.result
    (rw c.as_slice.ensures.value at c.in_ok-put_events.ensures) (rw (c.as_bytes.ensures.bytes, c.state_text.ensures) at c.put_all.ensures.writes)
