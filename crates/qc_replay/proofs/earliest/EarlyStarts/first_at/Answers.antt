use Rattle.qc_replay.proofs.EarlyFacts.{ended_none, first_is, first_none}
use Rattle.qc_replay.proofs.earliest.EarlyStarts.first_at.Goals as goal

pub returns-then-are_none-clause-first : goal.returns-then-are_none-clause-first
returns-then-are_none-clause-first c =
    let inst = c.args.node.now.inst in
    let ds = c.args.node.now.decisions in
    first_none inst ds c.args.tasks.now (ended_none inst ds c.args.self.now c.requires.are c.if-are_none.ensures)

pub returns-else-are_none-clause-first : goal.returns-else-are_none-clause-first
returns-else-are_none-clause-first c =
    first_is c.args.node.now.inst c.args.node.now.decisions c.args.tasks.now c.instance-inst.ensures.valid c.args.self.now
    c.requires.are c.if-are_none.ensures c.first_start.result c.first_start.ensures.first
