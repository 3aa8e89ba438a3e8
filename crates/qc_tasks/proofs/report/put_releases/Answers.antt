use Rattle.std.proofs.Common.{◌∙◌, arith, rules}
use Rattle.qc_io.proofs.WritesLemmas.{items_cut, items_more}
use Rattle.qc_model.specs.Instance.{no_task}
use Rattle.qc_tasks.specs.TasksText.{release_line}
use Rattle.qc_tasks.proofs.report.put_releases.Goals as goal

pub returns-in_err-put_all : goal.returns-in_err-put_all
returns-in_err-put_all g c =
    items_cut release_line c.args.tasks.now c.loop-task.task-index no_task (g.K.Sink.view c.args.sink.now) (g.K.Sink.view c.loop-task.sink) (g.K.Sink.view c.put_all.new.sink) _
    _ c.from_residual.result (search rules) (omega arith) (c.as_bytes.ensures.bytes ∙ c.release_line.ensures) c.loop-task.invariant c.in_err-put_all.ensures.writes

pub loop-task-preserved : goal.loop-task-preserved
loop-task-preserved g c =
    items_more release_line c.args.tasks.now c.loop-task.task-index no_task (g.K.Sink.view c.args.sink.now) (g.K.Sink.view c.loop-task.sink) (g.K.Sink.view c.put_all.new.sink) _
    (omega arith) (c.as_bytes.ensures.bytes ∙ c.release_line.ensures) c.loop-task.invariant c.in_ok-put_all.ensures.writes
