use Rattle.std.proofs.Common.{subst, sym}
use Rattle.qc_tree.specs.declared.line.Line.{Line}
use Rattle.qc_replay.specs.Part.{IsJudged}
use Rattle.qc_replay.proofs.node.on_line.Goals as goal

pub returns-in-Assign-clause-judged : goal.returns-in-Assign-clause-judged
returns-in-Assign-clause-judged c =
    subst (λ (l : Line). IsJudged c.args.descent.now c.args.tally l c.args.numbers.now c.on_task.new.descent c.on_task.result)
    (sym c.in-Assign.is) (c.on_task.ensures.judged c.args.numbers.now)

pub returns-in-Order-clause-judged : goal.returns-in-Order-clause-judged
returns-in-Order-clause-judged c =
    subst (λ (l : Line). IsJudged c.args.descent.now c.args.tally l c.args.numbers.now c.on_pair.new.descent c.on_pair.result)
    (sym c.in-Order.is) (c.on_pair.ensures.judged c.args.numbers.now)
