use Rattle.std.proofs.Common.{◌≤◌}
use Rattle.qc_sweep.proofs.first.low_end.Given as goal

abbrev pub invariant-loop : goal.invariant-loop
invariant-loop l = record { order : l.low ≤ l.high; high : l.high ≤ 17179869184 }
