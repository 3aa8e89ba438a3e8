-- inner: what contracts see of decisions with the arcs between their tasks.
use Rattle.std.specs.Prelude.{List}
use Rattle.qc_arena.specs.declared.edge.Edge.{Edge}
use Rattle.qc_model.specs.declared.decision.Decision.{Decision}
use Rattle.qc_model.specs.Instance.{InstanceView, Valid}
use Rattle.qc_model.specs.Nodes.{Fits}
use Rattle.qc_starts.specs.Arcs.{AreArcs, AreLow}

-- the instance, the decisions and the arcs, both newest first
pub record NodeArcs : Type 0 where
  pub inst : InstanceView
  pub decisions : List Decision
  pub arcs : List Edge

-- the decisions fit the instance, and the arcs are those of the node
pub record IsSound (net : NodeArcs) : Type 0 where
  pub valid : Valid net.inst
  pub fits : Fits net.inst net.decisions
  pub all : AreArcs net.inst net.decisions net.arcs
  pub low : AreLow net.arcs
