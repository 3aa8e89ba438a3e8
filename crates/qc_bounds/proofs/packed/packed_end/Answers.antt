use Rattle.std.proofs.Common.{sym}
use Rattle.qc_bounds.proofs.PackedLemmas.{packed_shown}
use Rattle.qc_bounds.proofs.packed.packed_end.Goals as goal

pub returns-clause-end : goal.returns-clause-end
returns-clause-end c =
    packed_shown c.args.node.now.inst c.args.node.now.decisions c.args.crew.now c.requires.crew c.args.tasks.now
    c.requires.known c.in_ok-ticks.ticks c.least_early.result (sym c.in_ok-ticks.ensures.ticks) c.least_early.ensures.tick
