use Rattle.std.proofs.Common.{◌≡◌, ◌+◌, ◌≤◌, map, IfSome}
use Rattle.std.specs.List.{filter, range_with_len}
use Rattle.qc_model.specs.declared.limits.TheConstants.{MOST_DISTANCE, MOST_READY}
use Rattle.qc_model.specs.Nodes.{free, reaches}
use Rattle.qc_model.proofs.Extremes.{least_option}
use Rattle.qc_dist.proofs.heads.least_head.Given as goal

abbrev pub invariant-loop-k : goal.invariant-loop-k
invariant-loop-k l = record {
  so_far : l.least
      ≡ least_option (map (free l.inst l.j) (filter (reaches l.inst l.j) (range_with_len 0 l.k)));
  bound : IfSome l.least (λ tick. tick ≤ MOST_READY + MOST_DISTANCE);
}
