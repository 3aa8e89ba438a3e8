-- inner: the arcs of a node, and how far they go back when decisions are taken back.
use Rattle.std.specs.Prelude.{ℕ, ◌+◌, ◌-◌, ◌≤◌, List, [], ◌∷◌, drop, length, reverse, vec_capacity}
use Rattle.qc_arena.specs.declared.edge.Edge.{Edge}
use Rattle.qc_model.specs.declared.decision.Decision.{Decision}
use Rattle.qc_model.specs.Instance.{InstanceView, Valid}
use Rattle.qc_model.specs.Nodes.{Fits, order_pairs}
use Rattle.qc_starts.specs.declared.network.Network.TheInside.{Inside}
use Rattle.qc_starts.specs.Arcs.{AreArcs, AreLow, IsRoomy}
use Rattle.qc_starts.specs.NodeArcs.{NodeArcs}

-- for each decision, newest first, how many arcs there were before it: they are those of the node without it
abbrev pub AreLevels : InstanceView → List Decision → List ℕ → List Edge → Type 0
AreLevels inst [] [] arcs = Unit {0}
AreLevels inst [] (mark ∷ marks) arcs = ⊥
AreLevels inst (d ∷ ds) [] arcs = ⊥
AreLevels inst (d ∷ ds) (mark ∷ marks) arcs =
    (mark ≤ length arcs) × AreArcs inst ds (drop (length arcs - mark) arcs)
    × AreLevels inst ds marks (drop (length arcs - mark) arcs)

abbrev pub node_of : Inside → NodeArcs
node_of f = record {
  inst = f.decisions.inst;
  decisions = f.decisions.decisions;
  arcs = reverse f.arena.arcs;
}

pub record IsKept (f : Inside) : Type 0 where
  pub valid : Valid f.decisions.inst
  pub fits : Fits f.decisions.inst f.decisions.decisions
  pub arena : IsRoomy f.decisions.inst f.arena
  pub arcs : AreArcs f.decisions.inst f.decisions.decisions (reverse f.arena.arcs)
  pub low : AreLow (reverse f.arena.arcs)
  pub levels : AreLevels f.decisions.inst f.decisions.decisions (reverse f.marks.items) (reverse f.arena.arcs)
  pub room : length f.decisions.inst.tasks + order_pairs f.decisions.inst ≤ vec_capacity f.marks
