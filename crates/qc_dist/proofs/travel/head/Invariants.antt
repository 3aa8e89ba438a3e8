use Rattle.std.proofs.Common.{◌≡◌, ◌+◌, ◌≤◌, max, map}
use Rattle.std.specs.List.{range_with_len}
use Rattle.qc_model.specs.declared.limits.TheConstants.{MOST_DISTANCE, MOST_READY}
use Rattle.qc_model.specs.Instance.{bay_of, release_of}
use Rattle.qc_model.specs.Nodes.{berth_wait, greatest}
use Rattle.qc_model.specs.Ticks.{arrival}
use Rattle.qc_dist.proofs.travel.head.Given as goal

abbrev pub invariant-loop-v : goal.invariant-loop-v
invariant-loop-v l = record {
  so_far : l.tick
      ≡ max (max (release_of l.inst l.j) (arrival l.inst l.k (bay_of l.inst l.j)))
      (greatest (map (berth_wait l.inst l.j l.k) (range_with_len 0 l.v)));
  bound : l.tick ≤ MOST_READY + MOST_DISTANCE;
}
