use Rattle.std.proofs.Common.{ℕ, ◌+◌, ◌<◌, get_or}
use Rattle.qc_odds.specs.Added.{task_added}
use Rattle.qc_odds.specs.Small.{AreSmallTasks, IsSmallTask}
use Rattle.qc_odds.specs.Sums.{no_task_sum}
use Rattle.qc_odds.proofs.AddLemmas.{IsChanged}
use Rattle.qc_odds.proofs.sums.add_tasks.Given as goal

abbrev pub invariant-loop-task : goal.invariant-loop-task
invariant-loop-task l = record {
  changed : IsChanged (task_added l.inst l.lengths l.marked) no_task_sum l.initial.sums l.task l.sums;
  small : (runs : ℕ) → AreSmallTasks runs l.initial.sums → (j : ℕ) → j < l.task → IsSmallTask (runs + 1) (get_or l.sums j no_task_sum);
}
