use Rattle.std.proofs.Common.{◌≡◌, map, take, IfSome}
use Rattle.qc_model.proofs.Extremes.{least_option}
use Rattle.qc_bounds.specs.Packed.{IsSoon, early_at}
use Rattle.qc_bounds.proofs.packed.least_early.Given as goal

abbrev pub invariant-loop-task : goal.invariant-loop-task
invariant-loop-task l = record {
  so_far : l.least ≡ least_option (map (early_at l.node.inst l.node.decisions) (take l.task-index l.tasks));
  soon : IfSome l.least IsSoon;
}
