use Rattle.std.proofs.Common.{◌++◌}
use Rattle.std.specs.List.{flat_map}
use Rattle.qc_io.proofs.WritesLemmas.{writes_cut, writes_then}
use Rattle.qc_rest_command.specs.Texts.{crane_line, end_text, now_text, running_line}
use Rattle.qc_rest_command.proofs.report.put_renewed.Goals as goal

pub returns-in_err-put_all : goal.returns-in_err-put_all
returns-in_err-put_all g c =
    let told = c.args.told.now in
    let running = flat_map (running_line told.worked.followed.dispatch.inst) told.rest.running.items in
    let ahead = flat_map crane_line told.rest.instance.cranes ++ end_text told in
    writes_cut (g.K.Sink.view c.args.sink.now) (g.K.Sink.view c.put_all.new.sink)
    (now_text told) (running ++ ahead) _ c.from_residual.result c.from_residual.ensures.0
    (rw (c.as_bytes.ensures.bytes, c.now_text.ensures) at c.in_err-put_all.ensures.writes)

pub returns-in_err-put_running : goal.returns-in_err-put_running
returns-in_err-put_running g c =
    let told = c.args.told.now in
    let running = flat_map (running_line told.worked.followed.dispatch.inst) told.rest.running.items in
    let ahead = flat_map crane_line told.rest.instance.cranes ++ end_text told in
    let out = c.from_residual-in_err-put_running.result in
    writes_then (g.K.Sink.view c.args.sink.now) (g.K.Sink.view c.put_all.new.sink) (g.K.Sink.view c.put_running.new.sink)
    (now_text told) (running ++ ahead) out
    (rw (c.as_bytes.ensures.bytes, c.now_text.ensures) at c.in_ok-put_all.ensures.writes)
    (writes_cut (g.K.Sink.view c.put_all.new.sink) (g.K.Sink.view c.put_running.new.sink)
    running ahead _ out c.from_residual-in_err-put_running.ensures.0 (rw (c.instance.ensures, c.as_slice.ensures.value) at c.in_err-put_running.ensures))

pub returns : goal.returns
returns g c =
    let told = c.args.told.now in
    let running = flat_map (running_line told.worked.followed.dispatch.inst) told.rest.running.items in
    let ahead = flat_map crane_line told.rest.instance.cranes ++ end_text told in
    writes_then (g.K.Sink.view c.args.sink.now) (g.K.Sink.view c.put_all.new.sink) (g.K.Sink.view c.put_ahead.new.sink)
    (now_text told) (running ++ ahead) c.put_ahead.result
    (rw (c.as_bytes.ensures.bytes, c.now_text.ensures) at c.in_ok-put_all.ensures.writes)
    (writes_then (g.K.Sink.view c.put_all.new.sink) (g.K.Sink.view c.put_running.new.sink) (g.K.Sink.view c.put_ahead.new.sink)
    running ahead c.put_ahead.result
    (rw (c.instance.ensures, c.as_slice.ensures.value) at c.in_ok-put_running.ensures) c.put_ahead.ensures)
