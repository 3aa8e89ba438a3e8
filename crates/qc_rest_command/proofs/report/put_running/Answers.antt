use Rattle.std.proofs.Common.{◌∙◌, arith}
use Rattle.qc_io.proofs.WritesLemmas.{items_cut, items_more}
use Rattle.qc_rest_command.specs.Texts.{running_line}
use Rattle.qc_rest_command.proofs.NoRestLemmas.{no_run}
use Rattle.qc_rest_command.proofs.report.put_running.Goals as goal

pub returns-in_err-put_all : goal.returns-in_err-put_all
returns-in_err-put_all g c =
    items_cut (running_line c.args.inst.now) c.args.running.now c.loop-still.still-index no_run (g.K.Sink.view c.args.sink.now) (g.K.Sink.view c.loop-still.sink) (g.K.Sink.view c.put_all.new.sink) _
    _ c.from_residual.result c.from_residual.ensures.0 (omega arith) (c.as_bytes.ensures.bytes ∙ c.running_line.ensures) c.loop-still.invariant c.in_err-put_all.ensures.writes

pub loop-still-preserved : goal.loop-still-preserved
loop-still-preserved g c =
    items_more (running_line c.args.inst.now) c.args.running.now c.loop-still.still-index no_run (g.K.Sink.view c.args.sink.now) (g.K.Sink.view c.loop-still.sink) (g.K.Sink.view c.put_all.new.sink) _
    (omega arith) (c.as_bytes.ensures.bytes ∙ c.running_line.ensures) c.loop-still.invariant c.in_ok-put_all.ensures.writes
