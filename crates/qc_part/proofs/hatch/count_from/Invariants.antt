use Rattle.std.proofs.Common.{◌+◌, ◌≤◌, length}
use Rattle.qc_part.proofs.hatch.count_from.Given as goal

abbrev pub invariant-loop-next : goal.invariant-loop-next
invariant-loop-next l = record {
  some : 1 ≤ l.count;
  few : l.count ≤ l._next;
  inside : l.first + l.count ≤ length l.tasks;
}
