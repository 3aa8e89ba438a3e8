use Rattle.std.proofs.Common.{◌≡◌, ℕ, ◌+◌, ◌<◌, ◌≤◌, length, get_or}
use Rattle.qc_search.proofs.lines.number_from_one.Given as goal

abbrev pub invariant-loop-task : goal.invariant-loop-task
invariant-loop-task l = record {
  count : length l.tasks ≡ length l.fn.tasks;
  done : (k : ℕ) → k < l.task-index → get_or l.tasks k 0 ≡ get_or l.fn.tasks k 0 + 1;
  rest : (k : ℕ) → l.task-index ≤ k → get_or l.tasks k 0 ≡ get_or l.fn.tasks k 0;
}
