use Rattle.std.proofs.Common.{◌∙◌, Some, sym}
use Rattle.qc_replay.proofs.NodeFacts.{chain_shows}
use Rattle.qc_replay.proofs.node.chain_bound.Goals as goal

pub returns-in-Some : goal.returns-in-Some
returns-in-Some c =
    chain_shows c.args.node.now.inst c.args.node.now.decisions c.args.numbers.now
    (sym c.are_numbers.ensures ∙ c.if-not-are_numbers.false) c.requires.few (Some c.in-Some.end)
    (sym c.in-Some.is ∙ c.chain_end.ensures)
