use Rattle.std.proofs.Common.{rules}
use Rattle.qc_io.proofs.WritesLemmas.{writes_cut, writes_then}
use Rattle.qc_tasks.proofs.report.write_tasks.Goals as goal

pub returns-in_err-put_tasks : goal.returns-in_err-put_tasks
returns-in_err-put_tasks g c =
    writes_cut (g.K.Sink.view c.args.sink.now) (g.K.Sink.view c.put_tasks.new.sink) _ _ _ c.from_residual.result (search rules)
    (rw c.tasks.ensures.tasks at c.in_err-put_tasks.ensures)

pub returns : goal.returns
returns g c =
    writes_then (g.K.Sink.view c.args.sink.now) (g.K.Sink.view c.put_tasks.new.sink) (g.K.Sink.view c.put_rules.new.sink) _ _ c.put_rules.result
    (rw c.tasks.ensures.tasks at c.in_ok-put_tasks.ensures) c.put_rules.ensures
