use Rattle.std.proofs.Common.{◌≡◌, take}
use Rattle.qc_model.proofs.copies.copy_cranes.Given as goal

abbrev pub invariant-loop-crane : goal.invariant-loop-crane
invariant-loop-crane l = l.copies.items ≡ take l.crane-index l.cranes
