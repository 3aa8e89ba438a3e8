use Rattle.std.proofs.Common.{◌≡◌, ◌<◌, ◌≤◌, ℕ, None, length}
use Rattle.qc_model.specs.Assignments.{crane_in}
use Rattle.qc_model.specs.Nodes.{assigned}
use Rattle.qc_calls.proofs.crew.crew_by.Given as goal

abbrev pub invariant-loop-task : goal.invariant-loop-task
invariant-loop-task l = record {
  same : l.crew.inst ≡ l.starts.inst;
  turn : l.crew.turn ≡ l.fn.turn;
  count : length l.crew.cranes ≡ length l.starts.inst.tasks;
  done : (j : ℕ) → j < l.task → crane_in l.crew.cranes j ≡ assigned l.starts.decisions j;
  left : (j : ℕ) → l.task ≤ j → crane_in l.crew.cranes j ≡ None;
}
