use Rattle.std.proofs.Common.{◌≡◌, ◌≤◌, ◌*◌, take}
use Rattle.qc_close.specs.Model.{MOST_WORK, ticks_over}
use Rattle.qc_close.proofs.crew.Crew.ticks.Given as goal

abbrev pub invariant-loop-task : goal.invariant-loop-task
invariant-loop-task l = record {
  so_far : l.ticks ≡ ticks_over l.self.inst (take l.task-index l.tasks);
  bound : l.ticks ≤ l.task-index * MOST_WORK;
}
