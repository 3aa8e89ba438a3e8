-- public: the children of a branching, one after the other, and the nodes that come after one.
use Rattle.std.specs.Prelude.{◌≡◌, ◌+◌, nat_lt, if◌then◌else◌, List, [], ◌∷◌, ◌++◌, map, drop, Option, None, Some}
use Rattle.qc_model.specs.declared.decision.Decision.{Decision}
use Rattle.qc_model.specs.declared.decision.Decision.TheVariants.{Assign, Order}
use Rattle.qc_model.specs.Instance.{InstanceView}
use Rattle.qc_model.specs.Work.{crane_numbers}
use Rattle.qc_dist.specs.Node.{IsOpen}

-- the children that come after the one of this decision, under its branching; the first child of a pair is the
-- one in which the lower task is first
abbrev pub later : InstanceView → List Decision → Decision → List (List Decision)
later inst ds (Assign j k) = map (λ v. Assign j v ∷ ds) (drop (k + 1) (crane_numbers inst))
later inst ds (Order i j) = if nat_lt i j then (Order j i ∷ ds) ∷ [] else []

-- the child after the one of this decision, wherever that was open; none where it is the last
abbrev pub IsNextChild : InstanceView → Decision → Option Decision → Type 0
IsNextChild inst d None = (ds : List Decision) → IsOpen inst ds d → later inst ds d ≡ []
IsNextChild inst d (Some next) =
    (ds : List Decision) → IsOpen inst ds d
    → IsOpen inst ds next × (later inst ds d ≡ (next ∷ ds) ∷ later inst ds next)

-- the nodes that must come after the one of these decisions
abbrev pub behind : InstanceView → List Decision → List (List Decision)
behind inst [] = []
behind inst (d ∷ ds) = later inst ds d ++ behind inst ds
