use Rattle.std.proofs.Common.{Ok, subst, sym}
use Rattle.qc_num.specs.declared.bound.Bound.{Bound}
use Rattle.qc_dist.specs.Node.{Node}
use Rattle.qc_replay.specs.Part.{IsJudged, Shows}
use Rattle.qc_replay.proofs.NodeFacts.{leaf_judged, leaf_refused}
use Rattle.qc_replay.proofs.node.on_leaf.Goals as goal

pub returns-in-Ok-clause-judged : goal.returns-in-Ok-clause-judged
returns-in-Ok-clause-judged c =
    let before = c.args.descent.now in
    let shows = subst (λ (n : Node). Shows n.inst n.decisions c.args.line c.args.numbers.now c.leaf_bound.result)
    c.node.ensures.node c.leaf_bound.ensures in
    subst (λ (x : Bound). IsJudged before c.args.tally c.args.line c.args.numbers.now c.leave.new.self
    (Ok (record c.args.tally { bound = x }))) (sym c.min.ensures)
    (leaf_judged before c.leave.new.self c.requires.live c.args.tally
    c.args.line c.args.numbers.now c.in-Ok.value
    (subst (λ r. Shows before.inst before.decisions c.args.line c.args.numbers.now r) c.in-Ok.is shows)
    c.leave.ensures.nodes)

pub returns-in-Err-clause-judged : goal.returns-in-Err-clause-judged
returns-in-Err-clause-judged c =
    let before = c.args.descent.now in
    let shows = subst (λ (n : Node). Shows n.inst n.decisions c.args.line c.args.numbers.now c.leaf_bound.result)
    c.node.ensures.node c.leaf_bound.ensures in
    leaf_refused before before c.requires.live c.args.tally c.args.line
    c.args.numbers.now c.in-Err.fault
    (subst (λ r. Shows before.inst before.decisions c.args.line c.args.numbers.now r) c.in-Err.is shows)
