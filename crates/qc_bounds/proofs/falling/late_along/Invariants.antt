use Rattle.std.proofs.Common.{◌≡◌, ◌≤◌, length}
use Rattle.qc_bounds.proofs.falling.late_along.Given as goal

abbrev pub invariant-loop-job : goal.invariant-loop-job
invariant-loop-job l = record {
  room : l.path.capacity ≡ l.fn.path.capacity;
  count : length l.path.items ≤ length l.node.inst.tasks;
}
