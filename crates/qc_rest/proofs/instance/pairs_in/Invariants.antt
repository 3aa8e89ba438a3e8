use Rattle.std.proofs.Common.{◌≡◌, take}
use Rattle.qc_rest.specs.RestOf.{pairs_in}
use Rattle.qc_rest.proofs.instance.pairs_in.Given as goal

abbrev pub invariant-loop-pair : goal.invariant-loop-pair
invariant-loop-pair l = l.kept.items ≡ pairs_in l.journal.dispatch (take l.pair-index l.pairs)
