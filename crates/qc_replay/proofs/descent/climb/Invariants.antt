use Rattle.std.proofs.Common.{◌≡◌, length}
use Rattle.qc_dist.specs.Children.{behind}
use Rattle.qc_replay.proofs.descent.climb.Given as goal

abbrev pub invariant-loop-decision : goal.invariant-loop-decision
invariant-loop-decision l = record {
  inst : l.node.inst ≡ l.initial.node.inst;
  nodes : behind l.initial.node.inst l.node.decisions ≡ behind l.initial.node.inst l.initial.node.decisions;
}

abbrev pub decreases-loop-decision : goal.decreases-loop-decision
decreases-loop-decision l = length l.node.decisions
