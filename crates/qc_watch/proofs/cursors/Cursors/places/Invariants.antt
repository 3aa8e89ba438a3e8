use Rattle.std.proofs.Common.{◌≡◌, ◌<◌, ◌≤◌, ℕ, None, length}
use Rattle.qc_watch.specs.Cursors.{IsPlaceAt, place}
use Rattle.qc_watch.specs.Reports.{reports_of}
use Rattle.qc_watch.proofs.cursors.Cursors.places.Given as goal

-- the cranes so far stand there, and none after them has a place yet
abbrev pub invariant-loop-crane : goal.invariant-loop-crane
invariant-loop-crane l = record {
  size : length l.places ≡ 8;
  stand : (k : ℕ) → k < l.crane → IsPlaceAt (reports_of l.reports k) l.tick (place l.places k);
  rest : (k : ℕ) → l.crane ≤ k → place l.places k ≡ None;
}
