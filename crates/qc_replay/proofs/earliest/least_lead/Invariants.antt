use Rattle.std.proofs.Common.{◌≡◌, ◌+◌, ◌≤◌, IfSome, map, take}
use Rattle.qc_close.specs.Model.{head, most_distance, most_ready}
use Rattle.qc_model.proofs.Extremes.{least_option}
use Rattle.qc_replay.proofs.earliest.least_lead.Given as goal

abbrev pub invariant-loop-task : goal.invariant-loop-task
invariant-loop-task l = record {
  so_far : l.least ≡ least_option (map (head l.node.inst l.node.decisions) (take l.task-index l.tasks));
  bound : IfSome l.least (λ tick. tick ≤ most_ready + most_distance);
}
