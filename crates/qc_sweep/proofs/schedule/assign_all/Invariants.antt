use Rattle.std.proofs.Common.{◌≡◌, ℕ, ◌≤◌}
use Rattle.std.specs.Prelude.{None}
use Rattle.qc_model.specs.Nodes.{assigned}
use Rattle.qc_sweep.proofs.schedule.assign_all.Given as goal

abbrev pub invariant-loop-task : goal.invariant-loop-task
invariant-loop-task l = record {
  inst : l.starts.inst ≡ l.initial.starts.inst;
  open_ : (j : ℕ) → l.task ≤ j → assigned l.starts.decisions j ≡ None;
}
