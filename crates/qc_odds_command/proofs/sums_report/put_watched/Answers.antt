use Rattle.std.proofs.Common.{◌∙◌, ℕ, List, ap, get_or, length, arith, rules}
use Rattle.qc_io.proofs.WritesLemmas.{items_cut, items_more}
use Rattle.qc_odds_command.specs.Texts.{task_line}
use Rattle.qc_odds_command.proofs.sums_report.put_watched.Goals as goal

pub returns-in_err-put_all : goal.returns-in_err-put_all
returns-in_err-put_all g c =
    let line = task_line c.args.inst.now c.args.plan.now (length c.args.odds.now.tally.ends) c.args.odds.now.tasks.items in
    let at = ap (λ (xs : List ℕ). line (get_or xs c.loop-task.task-index 0)) c.as_slice-task-items.ensures.value in
    items_cut line c.args.odds.now.watched.items c.loop-task.task-index 0 (g.K.Sink.view c.args.sink.now) (g.K.Sink.view c.loop-task.sink)
    (g.K.Sink.view c.put_all.new.sink) _ _ c.from_residual.result (search rules) (omega arith) (c.as_bytes.ensures.bytes ∙ c.task_line.ensures ∙ at)
    c.loop-task.invariant c.in_err-put_all.ensures.writes

pub loop-task-preserved : goal.loop-task-preserved
loop-task-preserved g c =
    let line = task_line c.args.inst.now c.args.plan.now (length c.args.odds.now.tally.ends) c.args.odds.now.tasks.items in
    let at = ap (λ (xs : List ℕ). line (get_or xs c.loop-task.task-index 0)) c.as_slice-task-items.ensures.value in
    items_more line c.args.odds.now.watched.items c.loop-task.task-index 0 (g.K.Sink.view c.args.sink.now) (g.K.Sink.view c.loop-task.sink)
    (g.K.Sink.view c.put_all.new.sink) _ (omega arith) (c.as_bytes.ensures.bytes ∙ c.task_line.ensures ∙ at)
    c.loop-task.invariant c.in_ok-put_all.ensures.writes
