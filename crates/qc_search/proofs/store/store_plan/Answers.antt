use Rattle.std.proofs.Common.{◌∙◌}
use Rattle.qc_gantt.specs.PlanText.{plan_text}
use Rattle.qc_io.proofs.Pieces.{on_err}
use Rattle.qc_io.proofs.MadeLemmas.{held_file, held_left, left_file, made_file, not_through}
use Rattle.qc_search.proofs.store.store_plan.Goals as goal

pub returns-in_err-finish-clause-ok : goal.returns-in_err-finish-clause-ok
returns-in_err-finish-clause-ok g c = not_through _ _ c.from_residual-in_err-finish.result c.from_residual-in_err-finish.ensures.1

pub returns-in_err-finish-clause-reread : goal.returns-in_err-finish-clause-reread
returns-in_err-finish-clause-reread g c = not_through _ _ c.from_residual-in_err-finish.result c.from_residual-in_err-finish.ensures.1

pub returns-in_err-finish-clause-err : goal.returns-in_err-finish-clause-err
returns-in_err-finish-clause-err g c =
    let view = g.S.Sink.view in
    on_err c.from_residual-in_err-finish.result
    (held_left (view c.args.shelf.now).files (view c.finish.new.self).files c.args.name.now (plan_text c.args.inst.now c.args.sched.now)
    (left_file (view c.args.shelf.now) (view c.create.new.self) (view c.write_plan.new.sink) (view c.finish.new.self)
    c.args.name.now (plan_text c.args.inst.now c.args.sched.now) c.create.ensures.files_stay c.in_ok-create.ensures.ok_made
    c.in_ok-create.ensures.ok_begun c.in_ok-write_plan.ensures.writes.whole c.in_ok-write_plan.ensures.writes.beside_stays c.in_err-finish.ensures.err_files))

pub returns-clause-ok : goal.returns-clause-ok
returns-clause-ok g c =
    let view = g.S.Sink.view in
    held_file (view c.args.shelf.now).files (view c.finish.new.self).files c.args.name.now (plan_text c.args.inst.now c.args.sched.now)
    (c.in_ok-finish.ensures.ok_files ∙ made_file (view c.args.shelf.now) (view c.create.new.self) (view c.write_plan.new.sink)
    c.args.name.now (plan_text c.args.inst.now c.args.sched.now) c.create.ensures.files_stay c.in_ok-create.ensures.ok_made
    c.in_ok-create.ensures.ok_begun c.in_ok-write_plan.ensures.writes.whole c.in_ok-write_plan.ensures.writes.beside_stays)
