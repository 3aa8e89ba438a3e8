-- public: tasks whose order is still open and which a node has at the same time.
use Rattle.std.specs.Prelude.{◌≡◌, ℕ, ◌<◌, List, Some}
use Rattle.qc_model.specs.declared.decision.Decision.{Decision}
use Rattle.qc_model.specs.Clear.{AreClear}
use Rattle.qc_model.specs.Instance.{InstanceView}
use Rattle.qc_model.specs.Nodes.{AreLeast, Conflicts, IsSettled, assigned}

-- two tasks that have cranes, that conflict, and of which neither is forced after the other aren't clear of each other with
-- these starts
pub record Overlaps (inst : InstanceView) (ds : List Decision) (starts : List ℕ) (i j : ℕ) : Type 0 where
  pub conflict : Conflicts inst ds i j
  pub unsettled : ¬ IsSettled inst ds i j
  pub first_crane : ℕ
  pub second_crane : ℕ
  pub of_first : assigned ds i ≡ Some first_crane
  pub of_second : assigned ds j ≡ Some second_crane
  pub near : ¬ AreClear inst starts i first_crane j second_crane

-- two tasks, the lower number first, overlap in the least starts of the node
pub record IsOverlap (inst : InstanceView) (ds : List Decision) (i j : ℕ) : Type 0 where
  pub rising : i < j
  pub starts : List ℕ
  pub least : AreLeast inst ds starts
  pub overlaps : Overlaps inst ds starts i j
