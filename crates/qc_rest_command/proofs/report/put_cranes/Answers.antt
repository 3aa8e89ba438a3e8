use Rattle.std.proofs.Common.{◌∙◌, ap, arith, rules}
use Rattle.qc_io.proofs.WritesLemmas.{items_cut, items_more}
use Rattle.qc_rest_command.specs.Texts.{crane_line}
use Rattle.qc_rest_command.proofs.report.put_cranes.Goals as goal

pub returns-in_err-put_all : goal.returns-in_err-put_all
returns-in_err-put_all g c =
    items_cut crane_line c.args.cranes.now c.loop-crane.crane-index c.crane-item.result (g.K.Sink.view c.args.sink.now) (g.K.Sink.view c.loop-crane.sink) (g.K.Sink.view c.put_all.new.sink) _
    _ c.from_residual.result (search rules) (omega arith) (c.as_bytes.ensures.bytes ∙ c.crane_line.ensures ∙ ap crane_line c.crane-item.is) c.loop-crane.invariant c.in_err-put_all.ensures.writes

pub loop-crane-preserved : goal.loop-crane-preserved
loop-crane-preserved g c =
    items_more crane_line c.args.cranes.now c.loop-crane.crane-index c.crane-item.result (g.K.Sink.view c.args.sink.now) (g.K.Sink.view c.loop-crane.sink) (g.K.Sink.view c.put_all.new.sink) _
    (omega arith) (c.as_bytes.ensures.bytes ∙ c.crane_line.ensures ∙ ap crane_line c.crane-item.is) c.loop-crane.invariant c.in_ok-put_all.ensures.writes
