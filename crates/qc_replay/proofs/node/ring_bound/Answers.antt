use Rattle.std.proofs.Common.{◌∙◌, true, sym}
use Rattle.qc_replay.proofs.NodeFacts.{ring_shows}
use Rattle.qc_replay.proofs.node.ring_bound.Goals as goal

pub returns-then-is_ring : goal.returns-then-is_ring
returns-then-is_ring c =
    ring_shows c.args.node.now.inst c.args.node.now.decisions c.args.numbers.now
    (sym c.are_numbers.ensures ∙ c.if-not-are_numbers.false) c.requires.few c.requires.some true
    (sym c.if-is_ring.true ∙ c.is_ring.ensures)
