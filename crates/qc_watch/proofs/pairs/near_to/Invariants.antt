use Rattle.std.proofs.Common.{◌<◌, ℕ}
use Rattle.qc_watch.specs.Cursors.{IsClearOf}
use Rattle.qc_watch.proofs.pairs.near_to.Given as goal

-- the crane keeps the bays to those so far
abbrev pub invariant-loop-w : goal.invariant-loop-w
invariant-loop-w l = (x : ℕ) → l.v < x → x < l.w → IsClearOf l.ship l.places l.v x
