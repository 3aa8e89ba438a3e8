-- public: what contracts see of an arena, and the arcs of a node.
use Rattle.std.specs.Prelude.{ℕ, List, ◌==◌, reverse}
use Rattle.std.specs.List.{filter}
use Rattle.qc_arena.specs.declared.edge.Edge.{Edge}

-- the arcs in the order of pushing, the number of nodes, and the most arcs that there may be
pub record Arcs : Type 0 where
  pub arcs : List Edge
  pub nodes : ℕ
  pub cap : ℕ

-- the arcs that leave the node, newest first
abbrev pub leaving : ℕ → List Edge → List Edge
leaving node arcs = filter (λ arc. arc.from == node) (reverse arcs)

-- the arcs that enter the node, newest first
abbrev pub entering : ℕ → List Edge → List Edge
entering node arcs = filter (λ arc. arc.to == node) (reverse arcs)
