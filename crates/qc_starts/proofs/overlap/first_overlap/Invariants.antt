use Rattle.std.proofs.Common.{◌≡◌, ℕ, ◌<◌, None, IfSome}
use Rattle.qc_starts.specs.Overlapping.{IsFound, OverlapsLater}
use Rattle.qc_starts.proofs.overlap.first_overlap.Given as goal

abbrev pub invariant-loop-i : goal.invariant-loop-i
invariant-loop-i l = record {
  is : IfSome l.first (λ found. IsFound l.network.inst l.network.decisions l.values.cells found.pair.first found.pair.second);
  none : l.first ≡ None → (k : ℕ) → k < l.i → ¬ OverlapsLater l.network.inst l.network.decisions l.values.cells k;
}
