use Rattle.std.proofs.Common.{◌≡◌, ℕ, ◌<◌, ◌≤◌, None, IsSome}
use Rattle.qc_model.specs.Nodes.{Agrees, assigned}
use Rattle.qc_search.proofs.given.assign_all.Given as goal

abbrev pub invariant-loop-task : goal.invariant-loop-task
invariant-loop-task l = record {
  same : l.starts.inst ≡ l.fn.starts.inst;
  agrees : Agrees l.fn.starts.inst l.starts.decisions l.sched;
  given : (j : ℕ) → j < l.task → IsSome (assigned l.starts.decisions j);
  left : (j : ℕ) → l.task ≤ j → assigned l.starts.decisions j ≡ None;
}
