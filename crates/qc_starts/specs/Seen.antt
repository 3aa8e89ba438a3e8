-- public: what is answered of the least starts of a node.
use Rattle.std.specs.Prelude.{◌≡◌, ℕ, ◌-◌, ◌<◌, Bool, true, false, List, drop, length, reverse, slice_index, IsSome, IsTrue, Some}
use Rattle.qc_arena.specs.Arcs.{Arcs}
use Rattle.qc_model.specs.declared.decision.Decision.{Decision}
use Rattle.qc_model.specs.declared.decision.Decision.TheVariants.{Assign, Order}
use Rattle.qc_model.specs.Instance.{InstanceView, IsApart}
use Rattle.qc_model.specs.Leaves.{chain, leaf_value, ring}
use Rattle.qc_model.specs.Nodes.{AreLeast, HasStarts, IsNodeEnd, IsSettled, assigned, forced, reaches}
use Rattle.qc_num.specs.declared.bound.Bound.TheVariants.{Least, Never}
use Rattle.qc_starts.specs.Arcs.{newest_length}
use Rattle.qc_starts.specs.declared.step.Step.{Step}
use Rattle.qc_starts.specs.declared.step.Step.TheVariants.{Raised, Cycle}

-- the first of these, of a list that is newest first
abbrev pub first_of : {A : Type 0} → ℕ → List A → List A
first_of mark xs = drop (length xs - mark) xs

-- a decision on a crane is for one that reaches the task
abbrev pub IsReached : InstanceView → Decision → Type 0
IsReached inst (Assign j k) = IsTrue (reaches inst j k)
IsReached inst (Order i j) = Unit {0}

-- what a decision leads to: some starts meet the node, or none do
abbrev pub IsStep : InstanceView → List Decision → Step → Type 0
IsStep inst ds Raised = HasStarts inst ds
IsStep inst ds Cycle = ¬ HasStarts inst ds

-- whether no starts meet the node
abbrev pub HasNone : InstanceView → List Decision → Bool → Type 0
HasNone inst ds true = ¬ HasStarts inst ds
HasNone inst ds false = HasStarts inst ds

-- the least start of a task
pub record IsNodeStart (inst : InstanceView) (ds : List Decision) (j start : ℕ) : Type 0 where
  pub starts : List ℕ
  pub least : AreLeast inst ds starts
  pub is : start ≡ slice_index starts j

-- the tasks are a chain that shows the node's end
pub record IsWhy (inst : InstanceView) (ds : List Decision) (tasks : List ℕ) : Type 0 where
  pub end : ℕ
  pub ends : IsNodeEnd inst ds end
  pub chain : leaf_value inst ds (chain tasks) ≡ Some (Least end)

-- the tasks are a ring
abbrev pub IsCycle : InstanceView → List Decision → List ℕ → Type 0
IsCycle inst ds tasks = leaf_value inst ds (ring tasks) ≡ Some Never

abbrev pub AreAssigned : InstanceView → List Decision → Type 0
AreAssigned inst ds = (j : ℕ) → j < length inst.tasks → IsSome (assigned ds j)

abbrev pub AreSettled : InstanceView → List Decision → Type 0
AreSettled inst ds = (i j : ℕ) → IsApart inst i j → IsSettled inst ds i j

-- an arc from i to j is there exactly where something is forced from i to j, and the newest is as long
pub record HoldsForced (inst : InstanceView) (ds : List Decision) (arena : Arcs) : Type 0 where
  pub nodes : arena.nodes ≡ length inst.tasks
  pub newest :
      (i j : ℕ) → i < length inst.tasks → j < length inst.tasks
      → newest_length i j (reverse arena.arcs) ≡ forced inst ds i j
