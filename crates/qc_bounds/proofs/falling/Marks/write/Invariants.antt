use Rattle.std.proofs.Common.{◌≡◌, ◌<◌, ◌≤◌, All, length}
use Rattle.qc_bounds.proofs.falling.Marks.write.Given as goal

abbrev pub invariant-loop-task : goal.invariant-loop-task
invariant-loop-task l = record {
  range : All (λ j. j < length l.crew.inst.tasks) l.path.items;
  few : length l.path.items ≤ l.task;
  room : l.path.capacity ≡ l.fn.path.capacity;
}
