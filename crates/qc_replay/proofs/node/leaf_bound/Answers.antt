use Rattle.std.proofs.Common.{subst, sym}
use Rattle.qc_tree.specs.declared.line.Line.{Line}
use Rattle.qc_replay.specs.Part.{Shows}
use Rattle.qc_replay.proofs.node.leaf_bound.Goals as goal

pub returns-in-Chain : goal.returns-in-Chain
returns-in-Chain c =
    subst (λ (l : Line). Shows c.args.node.now.inst c.args.node.now.decisions l c.args.numbers.now c.chain_bound.result)
    (sym c.in-Chain.is) c.chain_bound.ensures

pub returns-in-Ring : goal.returns-in-Ring
returns-in-Ring c =
    subst (λ (l : Line). Shows c.args.node.now.inst c.args.node.now.decisions l c.args.numbers.now c.ring_bound.result)
    (sym c.in-Ring.is) c.ring_bound.ensures

pub returns-in-Reach : goal.returns-in-Reach
returns-in-Reach c =
    subst (λ (l : Line). Shows c.args.node.now.inst c.args.node.now.decisions l c.args.numbers.now c.reach_bound.result)
    (sym c.in-Reach.is) (c.reach_bound.ensures c.args.numbers.now)

pub returns-in-Work : goal.returns-in-Work
returns-in-Work c =
    subst (λ (l : Line). Shows c.args.node.now.inst c.args.node.now.decisions l c.args.numbers.now c.work_bound.result)
    (sym c.in-Work.is) (c.work_bound.ensures c.args.numbers.now)

pub returns-in-Clash : goal.returns-in-Clash
returns-in-Clash c =
    subst (λ (l : Line). Shows c.args.node.now.inst c.args.node.now.decisions l c.args.numbers.now c.clash_bound.result)
    (sym c.in-Clash.is) c.clash_bound.ensures
