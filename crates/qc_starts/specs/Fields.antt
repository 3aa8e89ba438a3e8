-- inner: the fields of the least starts of a node, as clauses see them and as they are kept.
use Rattle.std.specs.Prelude.{◌≡◌, ℕ, ◌+◌, ◌*◌, ◌≤◌, List, [], ◌∷◌, drop, length, reverse, take, vec_capacity}
use Rattle.qc_dist.specs.Node.{Node}
use Rattle.qc_model.specs.declared.decision.Decision.{Decision}
use Rattle.qc_model.specs.Instance.{InstanceView}
use Rattle.qc_model.specs.Nodes.{IsInReach, order_pairs}
use Rattle.qc_starts.specs.declared.starts.Starts.TheInside.{Inside}
use Rattle.qc_starts.specs.declared.step.Step.{Step}
use Rattle.qc_starts.specs.declared.step.Step.TheVariants.{Raised, Cycle}
use Rattle.qc_starts.specs.NodeArcs.{IsSound, NodeArcs}
use Rattle.qc_starts.specs.Opened.{AreSized}
use Rattle.qc_starts.specs.Spread.{IsBackAtRoot}
use Rattle.qc_starts.specs.Values.{AreRest}
use Rattle.qc_arena.specs.declared.trail.Note.{Note}
use Rattle.qc_arena.specs.Trails.{written_back}

-- for each decision, newest first, how many notes there were before it: writing back those that follow leaves the
-- least starts of the node without it
abbrev pub AreNested : InstanceView → List Decision → List ℕ → List Note → List ℕ → Type 0
AreNested inst [] [] notes cells = length notes ≡ 0
AreNested inst [] (mark ∷ marks) notes cells = ⊥
AreNested inst (d ∷ ds) [] notes cells = ⊥
AreNested inst (d ∷ ds) (mark ∷ marks) notes cells =
    (mark ≤ length notes) × (mark ≤ 2 * length inst.tasks * length ds)
    × AreRest inst ds (written_back (drop mark notes) cells)
    × AreNested inst ds marks (take mark notes) (written_back (drop mark notes) cells)

-- the cells hold the least starts of the node, or a raise came back to the root
abbrev pub IsStateOf : NodeArcs → List ℕ → ℕ → Step → Type 0
IsStateOf net cells root Raised = AreRest net.inst net.decisions cells
IsStateOf net cells root Cycle = (olds : List ℕ) × IsBackAtRoot net root olds cells

abbrev pub node_of : Inside → Node
node_of f = record { inst = f.network.inst; decisions = f.network.decisions }

pub record IsKept (f : Inside) : Type 0 where
  pub sound : IsSound f.network
  pub in_reach : IsInReach f.network.inst f.network.decisions
  pub sized : AreSized f.network.inst f.spread
  pub few : length f.spread.values.trail.notes ≤ 2 * length f.network.inst.tasks * length f.network.decisions
  pub nested :
      AreNested f.network.inst f.network.decisions (reverse f.marks.items) f.spread.values.trail.notes
      f.spread.values.cells
  pub room : length f.network.inst.tasks + order_pairs f.network.inst ≤ vec_capacity f.marks
  pub state : IsStateOf f.network f.spread.values.cells f.root f.step
