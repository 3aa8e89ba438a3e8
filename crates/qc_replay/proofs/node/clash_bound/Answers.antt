use Rattle.std.proofs.Common.{◌∙◌, Some, sym}
use Rattle.qc_replay.proofs.NodeFacts.{clash_shows}
use Rattle.qc_replay.proofs.node.clash_bound.Goals as goal

pub returns-in-Some : goal.returns-in-Some
returns-in-Some c =
    clash_shows c.args.node.now.inst c.args.node.now.decisions c.args.numbers.now
    (sym c.are_numbers.ensures ∙ c.if-not-are_numbers.false) (Some c.in-Some.end) (sym c.in-Some.is ∙ c.packed_end.ensures)
