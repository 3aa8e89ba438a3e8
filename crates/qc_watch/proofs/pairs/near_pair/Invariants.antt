use Rattle.std.proofs.Common.{◌<◌, ℕ}
use Rattle.qc_watch.specs.Cursors.{AreClearFrom}
use Rattle.qc_watch.proofs.pairs.near_pair.Given as goal

-- the cranes so far keep the bays to all above them
abbrev pub invariant-loop-v : goal.invariant-loop-v
invariant-loop-v l = (x : ℕ) → x < l.v → AreClearFrom l.ship l.places x
