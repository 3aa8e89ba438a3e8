-- public: what contracts see of a crew.
use Rattle.std.specs.Prelude.{◌≡◌, ℕ, List, Option}
use Rattle.qc_close.specs.Model.{Decision, InstanceView, Turn, cranes_of}

-- the instance, whether cranes go one way, and the crane of each task that has one
pub record CrewView : Type 0 where
  pub inst : InstanceView
  pub turn : Turn
  pub cranes : List (Option ℕ)

-- the crew is that of the decisions: of their instance and its turn, and each task has the crane that they give it
pub record IsCrewOf (crew : CrewView) (inst : InstanceView) (ds : List Decision) : Type 0 where
  pub same : crew.inst ≡ inst
  pub turn : crew.turn ≡ inst.turn
  pub cranes : crew.cranes ≡ cranes_of inst ds
