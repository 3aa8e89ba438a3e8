use Rattle.std.proofs.Common.{rules}
use Rattle.qc_io.proofs.WritesLemmas.{writes_cut, writes_then}
use Rattle.qc_tasks.proofs.report.put_last.Goals as goal

pub returns-in_err-put_releases : goal.returns-in_err-put_releases
returns-in_err-put_releases g c =
    writes_cut (g.K.Sink.view c.args.sink.now) (g.K.Sink.view c.put_releases.new.sink) _ _ _ c.from_residual.result (search rules)
    (rw c.tasks.ensures.tasks at c.in_err-put_releases.ensures)

pub returns : goal.returns
returns g c =
    writes_then (g.K.Sink.view c.args.sink.now) (g.K.Sink.view c.put_releases.new.sink) (g.K.Sink.view c.put_all.new.sink) _ _ c.put_all.result
    (rw c.tasks.ensures.tasks at c.in_ok-put_releases.ensures) (rw (c.as_bytes.ensures.bytes, c.total_line.ensures) at c.put_all.ensures.writes)
