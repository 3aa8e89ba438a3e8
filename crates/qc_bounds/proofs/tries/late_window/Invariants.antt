use Rattle.std.proofs.Common.{◌≡◌, ◌≤◌, length}
use Rattle.qc_bounds.proofs.tries.late_window.Given as goal

abbrev pub invariant-loop-first : goal.invariant-loop-first
invariant-loop-first l = record {
  room : l.path.capacity ≡ l.fn.path.capacity;
  count : length l.path.items ≤ length l.node.inst.tasks;
}
