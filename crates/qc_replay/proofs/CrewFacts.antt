-- The crew of a node, from decision to decision.
use Rattle.std.proofs.Common.{◌≡◌, [], ◌∷◌, Option, sym, subst}
use Rattle.qc_close.specs.Crews.{CrewView, IsCrewOf}
use Rattle.qc_close.proofs.DecidedCranes.{crew_root}
use Rattle.qc_dist.specs.Node.{IsOpen, Node}
use Rattle.qc_close.specs.Model.{Decision, no_cranes, InstanceView}
use Rattle.qc_replay.specs.declared.earliest.EarlyStarts.{EarlyStarts}
use Rattle.qc_replay.specs.Crewed.{WereOpen}
use Rattle.qc_replay.specs.Earliest.{HasEarly}

-- the crew of a node
abbrev pub IsCrew : CrewView → Node → Type 0
IsCrew crew node = IsCrewOf crew node.inst node.decisions

-- a node with one decision more
abbrev pub with : Node → Decision → Node
with node d = record node { decisions = d ∷ node.decisions }

-- nothing is decided
pub crew_none : (inst : InstanceView) (crew : CrewView) (node : Node) → node ≡ record { inst = inst; decisions = [] }
    → crew ≡ record { inst = inst; turn = inst.turn; cranes = no_cranes inst } → IsCrew crew node
crew_none inst crew node none same =
    subst (IsCrew crew) (sym none) (crew_root inst crew same)

-- what is open at a node, as it is told by another name
pub opens : (node now : Node) (d e : Decision) → node ≡ now → d ≡ e → IsOpen now.inst now.decisions d
    → IsOpen node.inst node.decisions e
opens node now d e same is h =
    subst (λ (n : Node). IsOpen n.inst n.decisions e) (sym same)
    (subst (λ (x : Decision). IsOpen now.inst now.decisions x) is h)

-- a decision more that was open
pub were_open_more : (node next : Node) (d : Decision) → next ≡ with node d → IsOpen node.inst node.decisions d
    → WereOpen node.inst node.decisions → WereOpen next.inst next.decisions
were_open_more node next d is is_open were =
    subst (λ (m : Node). WereOpen m.inst m.decisions) (sym is) (is_open, were)

-- the same, backwards
module _ (node next : Node) (d : Decision) (more : node ≡ with next d) (were : WereOpen node.inst node.decisions) where
  all_open : WereOpen next.inst (d ∷ next.decisions)
  all_open = subst (λ (m : Node). WereOpen m.inst m.decisions) more were

  pub was_open : IsOpen next.inst next.decisions d
  was_open = all_open.0

  pub were_open_less : WereOpen next.inst next.decisions
  were_open_less = all_open.1

-- the least starts that are kept, with the newest decision apart
pub begun_apart : (node next : Node) (d : Decision) → node ≡ with next d → (begun : Option EarlyStarts)
    → HasEarly node.inst.turn node.inst node.decisions begun
    → HasEarly next.inst.turn next.inst (d ∷ next.decisions) begun
begun_apart node next d more begun has =
    subst (λ (m : Node). HasEarly m.inst.turn m.inst m.decisions begun) more has
