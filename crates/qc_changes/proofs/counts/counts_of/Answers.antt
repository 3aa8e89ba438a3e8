use Rattle.qc_changes.proofs.CountLemmas.{counts_right}
use Rattle.qc_changes.proofs.counts.counts_of.Goals as goal

pub returns : goal.returns
returns c =
    counts_right c.args.first.now c.args.second.now c.requires.first c.requires.second c.args.off c.counts_from.result c.requires.off
    (rw (c.containers.ensures, c.count_gone-gone.ensures, c.count_still-still.ensures, c.count_gone-new.ensures) at c.counts_from.ensures)
