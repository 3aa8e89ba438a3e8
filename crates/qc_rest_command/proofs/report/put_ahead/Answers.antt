use Rattle.std.specs.List.{flat_map}
use Rattle.qc_io.proofs.WritesLemmas.{writes_then}
use Rattle.qc_rest_command.specs.Texts.{crane_line, end_text}
use Rattle.qc_rest_command.proofs.report.put_ahead.Goals as goal

pub returns : goal.returns
returns g c =
    writes_then (g.K.Sink.view c.args.sink.now) (g.K.Sink.view c.put_cranes.new.sink) (g.K.Sink.view c.put_all.new.sink)
    (flat_map crane_line c.args.told.now.rest.instance.cranes) (end_text c.args.told.now) c.put_all.result
    (rw c.cranes.ensures.cranes at c.in_ok-put_cranes.ensures) (rw (c.as_bytes.ensures.bytes, c.end_text.ensures) at c.put_all.ensures.writes)
