use Rattle.std.proofs.Common.{ℕ, ◌<◌}
use Rattle.qc_starts.specs.Overlaps.{Overlaps}
use Rattle.qc_starts.proofs.overlap.overlaps_later.Given as goal

abbrev pub invariant-loop-j : goal.invariant-loop-j
invariant-loop-j l = (k : ℕ) → l.i < k → k < l.j
    → ¬ Overlaps l.network.inst l.network.decisions l.values.cells l.i k
