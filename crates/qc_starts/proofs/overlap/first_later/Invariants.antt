use Rattle.std.proofs.Common.{◌≡◌, ℕ, ◌<◌, None, IfSome}
use Rattle.qc_starts.specs.Overlapping.{IsFound}
use Rattle.qc_starts.specs.Overlaps.{Overlaps}
use Rattle.qc_starts.proofs.overlap.first_later.Given as goal

abbrev pub invariant-loop-j : goal.invariant-loop-j
invariant-loop-j l = record {
  is : IfSome l.first (λ found. IsFound l.network.inst l.network.decisions l.values.cells found.pair.first found.pair.second);
  none : l.first ≡ None → (l.fn.before ≡ None)
      × ((k : ℕ) → l.i < k → k < l.j → ¬ Overlaps l.network.inst l.network.decisions l.values.cells l.i k);
}
