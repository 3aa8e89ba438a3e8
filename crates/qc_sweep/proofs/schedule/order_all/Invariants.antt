use Rattle.std.proofs.Common.{◌≡◌}
use Rattle.qc_sweep.proofs.schedule.order_all.Given as goal

abbrev pub invariant-loop-pair : goal.invariant-loop-pair
invariant-loop-pair l = l.starts.inst ≡ l.inst
