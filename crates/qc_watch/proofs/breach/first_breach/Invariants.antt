use Rattle.std.proofs.Common.{◌<◌, ◌-◌, ℕ}
use Rattle.qc_watch.specs.Breach.{IsClearAt, IsReportTime}
use Rattle.qc_watch.specs.Cursors.{AreCut}
use Rattle.qc_watch.specs.Numbers.{past_times}
use Rattle.qc_watch.proofs.breach.first_breach.Given as goal

-- the reports before this tick are passed, and at the time of each of them all cranes keep their margin
abbrev pub invariant-loop-at : goal.invariant-loop-at
invariant-loop-at l = record {
  cut : AreCut l.reports l.cursors.next l.cursors.tick;
  clear : (t : ℕ) → IsReportTime l.reports t → t < l.cursors.tick → IsClearAt l.ship l.reports t 1;
}

abbrev pub decreases-loop-at : goal.decreases-loop-at
decreases-loop-at l = past_times - l.cursors.tick
