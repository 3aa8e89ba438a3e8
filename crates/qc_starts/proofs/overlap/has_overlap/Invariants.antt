use Rattle.std.proofs.Common.{ℕ, ◌<◌}
use Rattle.qc_starts.specs.Overlapping.{OverlapsLater}
use Rattle.qc_starts.proofs.overlap.has_overlap.Given as goal

abbrev pub invariant-loop-i : goal.invariant-loop-i
invariant-loop-i l = (k : ℕ) → k < l.i → ¬ OverlapsLater l.network.inst l.network.decisions l.values.cells k
