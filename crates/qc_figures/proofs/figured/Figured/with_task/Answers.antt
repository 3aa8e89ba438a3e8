use Rattle.std.proofs.Common.{max, sym, ap, ◌∙◌, arith}
use Rattle.qc_figures.specs.Views.{view_of}
use Rattle.qc_figures.proofs.TallyLemmas.{tally_more, tally_same}
use Rattle.qc_figures.proofs.figured.Figured.with_task.Goals as goal

pub returns-then-not-does : goal.returns-then-not-does
returns-then-not-does c =
    tally_same (view_of c.args.self.now) c.args.crane c.args.task c.args.tally c.requires.so_far
    (sym c.does.ensures ∙ c.if-not-does.true)

pub overflow_add-result : goal.overflow_add-result
overflow_add-result c = let few = c.requires.so_far.few_tasks in omega (arith, few, c.requires.task, c.alone-one.ensures.valid.tasks.count)

pub returns : goal.returns
returns c =
    tally_more (view_of c.args.self.now) c.args.crane c.args.task c.args.tally c.requires.so_far _
    (sym c.does.ensures ∙ c.if-not-does.false)
    (omega (arith, c.alone-one.ensures.tasks))
    (omega (arith, c.alone-one.ensures.moves))
    (omega (arith, c.alone-one.ensures.work))
    (c.max.ensures ∙ ap (max c.args.tally.end) c.alone-one.ensures.end)
    (omega (arith, c.alone-one.ensures.moves, c.alone-one.ensures.few)) (omega (arith, c.alone-one.ensures.work, c.alone-one.ensures.short))
    (omega (arith, c.alone-one.ensures.end, c.alone-one.ensures.soon))
