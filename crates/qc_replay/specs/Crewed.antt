-- inner: a node of a part with its crew, as it is kept while the part is read.
use Rattle.std.specs.Prelude.{List, [], ◌∷◌}
use Rattle.qc_close.specs.Crews.{IsCrewOf}
use Rattle.qc_dist.specs.Node.{IsOpen, Node}
use Rattle.qc_close.specs.Model.{Decision, InstanceView}
use Rattle.qc_replay.specs.Earliest.{HasEarly}
use Rattle.qc_replay.specs.declared.crewed_node.CrewedNode.TheInside.{Inside}

-- each decision was open where it was made
abbrev pub WereOpen : InstanceView → List Decision → Type 0
WereOpen inst [] = Unit {0}
WereOpen inst (d ∷ ds) = IsOpen inst ds d × WereOpen inst ds

abbrev pub node_of : Inside → Node
node_of f = f.node

pub record IsCrewed (f : Inside) : Type 0 where
  pub were_open : WereOpen f.node.inst f.node.decisions
  pub crew : IsCrewOf f.crew f.node.inst f.node.decisions
  pub begun : HasEarly f.node.inst.turn f.node.inst f.node.decisions f.begun
