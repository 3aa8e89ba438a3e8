use Rattle.std.proofs.Common.{◌≡◌, ◌+◌, ◌<◌, ℕ, get_or, length}
use Rattle.qc_watch.specs.Cursors.{IsCut}
use Rattle.qc_watch.specs.Reports.{reports_of}
use Rattle.qc_watch.proofs.cursors.Cursors.passed.Given as goal

-- the reports of the cranes so far are passed
abbrev pub invariant-loop-crane : goal.invariant-loop-crane
invariant-loop-crane l = record {
  size : length l.next ≡ 8;
  passed : (k : ℕ) → k < l.crane → IsCut (reports_of l.reports k) (get_or l.next k 0) (l.tick + 1);
}
