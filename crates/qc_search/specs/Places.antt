-- inner: the fields of the node at which a search stands, as clauses see them and as they are kept.
use Rattle.qc_close.specs.Crews.{IsCrewOf}
use Rattle.qc_dist.specs.Node.{Node}
use Rattle.qc_close.specs.Model.{Valid, Fits}
use Rattle.qc_search.specs.declared.place.Node.TheInside.{Inside}

abbrev pub node_of : Inside → Node
node_of f = f.starts

-- the decisions fit the instance, and the crew is theirs
pub record IsPlaced (f : Inside) : Type 0 where
  pub valid : Valid f.starts.inst
  pub fits : Fits f.starts.inst f.starts.decisions
  pub crew : IsCrewOf f.crew f.starts.inst f.starts.decisions
