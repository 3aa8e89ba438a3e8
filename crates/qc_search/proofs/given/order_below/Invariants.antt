use Rattle.std.proofs.Common.{◌≡◌, ℕ, ◌<◌}
use Rattle.qc_model.specs.Nodes.{Agrees, Conflicts, IsSettled, assigned}
use Rattle.qc_search.proofs.given.order_below.Given as goal

abbrev pub invariant-loop-other : goal.invariant-loop-other
invariant-loop-other l = record {
  same : l.starts.inst ≡ l.fn.starts.inst;
  agrees : Agrees l.fn.starts.inst l.starts.decisions l.sched;
  cranes : (j : ℕ) → assigned l.starts.decisions j ≡ assigned l.fn.starts.decisions j;
  settled :
      (i : ℕ) → i < l.other → Conflicts l.fn.starts.inst l.fn.starts.decisions i l.task
      → IsSettled l.fn.starts.inst l.starts.decisions i l.task;
  stays :
      (i j : ℕ) → IsSettled l.fn.starts.inst l.fn.starts.decisions i j
      → IsSettled l.fn.starts.inst l.starts.decisions i j;
}
