use Rattle.std.proofs.Common.{◌≡◌, ℕ, ◌<◌}
use Rattle.qc_model.specs.Nodes.{Agrees, Conflicts, IsSettled}
use Rattle.qc_starts.specs.Seen.{AreAssigned}
use Rattle.qc_search.proofs.given.order_all.Given as goal

abbrev pub invariant-loop-task : goal.invariant-loop-task
invariant-loop-task l = record {
  same : l.starts.inst ≡ l.fn.starts.inst;
  agrees : Agrees l.fn.starts.inst l.starts.decisions l.sched;
  given : AreAssigned l.fn.starts.inst l.starts.decisions;
  settled :
      (i j : ℕ) → i < j → j < l.task → Conflicts l.fn.starts.inst l.starts.decisions i j
      → IsSettled l.fn.starts.inst l.starts.decisions i j;
}
