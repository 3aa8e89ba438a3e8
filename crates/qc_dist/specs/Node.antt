-- public: what contracts see of decisions, and what may be decided next.
use Rattle.std.specs.Prelude.{◌≡◌, ◌<◌, List, [], ◌∷◌, length, Option, None, Some}
use Rattle.qc_model.specs.declared.decision.Decision.{Decision}
use Rattle.qc_model.specs.declared.decision.Decision.TheVariants.{Assign, Order}
use Rattle.qc_model.specs.Instance.{InstanceView}
use Rattle.qc_model.specs.Nodes.{Conflicts, IsSettled, assigned}

-- the instance that the decisions are made for, and the decisions, newest first
pub record Node : Type 0 where
  pub inst : InstanceView
  pub decisions : List Decision

-- the task is unassigned, or the two tasks conflict and neither is forced after the other
abbrev pub IsOpen : InstanceView → List Decision → Decision → Type 0
IsOpen inst ds (Assign j k) = (j < length inst.tasks) × (k < length inst.cranes) × (assigned ds j ≡ None)
IsOpen inst ds (Order i j) = Conflicts inst ds i j × (¬ IsSettled inst ds i j)

-- the decision that was made last
abbrev pub newest : List Decision → Option Decision
newest [] = None
newest (d ∷ ds) = Some d
