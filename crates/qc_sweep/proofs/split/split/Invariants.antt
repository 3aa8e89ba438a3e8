use Rattle.std.proofs.Common.{◌≤◌, length}
use Rattle.qc_sweep.proofs.split.split.Given as goal

abbrev pub invariant-loop-crane-2 : goal.invariant-loop-crane-2
invariant-loop-crane-2 l = l.front ≤ length l.hatches
