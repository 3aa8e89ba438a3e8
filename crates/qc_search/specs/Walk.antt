-- inner: a search of a part as it goes on: the nodes that must still come, and what is branched on.
use Rattle.std.specs.Prelude.{◌≡◌, ℕ, ◌+◌, ◌-◌, ◌*◌, ◌<◌, List, [], ◌∷◌, length, Bool, true, false, Option, None, Some}
use Rattle.qc_dist.specs.Children.{behind}
use Rattle.qc_dist.specs.Node.{IsOpen}
use Rattle.qc_close.specs.Model.{Decision, InstanceView, HasStarts, IsSettled, assigned, most_cranes}
use Rattle.qc_model.specs.declared.decision.Decision.TheVariants as decide
use Rattle.qc_starts.specs.Seen.{AreAssigned, IsReached}
use Rattle.qc_tree.specs.Trees.{MayOrder, Sign, on_pair, on_task}
use Rattle.qc_search.specs.declared.branch.Branch.{Branch}
use Rattle.qc_search.specs.declared.branch.Branch.TheVariants.{Pair, Task}

-- the nodes that must still come, from the one of these decisions on
abbrev pub from_node : InstanceView → List Decision → List (List Decision)
from_node inst ds = ds ∷ behind inst ds

-- the nodes that must still come, from this child of the node on
abbrev pub from_child : InstanceView → List Decision → Option Decision → List (List Decision)
from_child inst ds None = behind inst ds
from_child inst ds (Some d) = from_node inst (d ∷ ds)

-- the nodes that must still come where the next one is that of these decisions, or where none must
abbrev pub due_at : InstanceView → List Decision → Bool → List (List Decision)
due_at inst ds true = from_node inst ds
due_at inst ds false = []

-- how many lines may still come: those that must, and those of each branching that is left
abbrev pub steps_left : List (List Decision) → (limit branched : ℕ) → ℕ
steps_left due limit branched = length due + most_cranes * (limit - branched)

-- the child may be gone to: what it decides is open, and some starts meet its node
abbrev pub IsChild : InstanceView → List Decision → Decision → Type 0
IsChild inst ds d = IsOpen inst ds d × HasStarts inst ds

-- each decision was such a child where it was made, and is within reach
abbrev pub WereMade : InstanceView → List Decision → Type 0
WereMade inst [] = Unit {0}
WereMade inst (d ∷ ds) = IsChild inst ds d × IsReached inst d × WereMade inst ds

-- what a branching says
abbrev pub sign_of : Branch → Sign
sign_of (Task j) = on_task j
sign_of (Pair i j) = on_pair i j

-- its first child
abbrev pub first_of : Branch → Decision
first_of (Task j) = decide.Assign j 0
first_of (Pair i j) = decide.Order i j

-- the task is unassigned
abbrev pub IsOpenTask : InstanceView → List Decision → ℕ → Type 0
IsOpenTask inst ds j = (j < length inst.tasks) × (assigned ds j ≡ None)

-- the branching is on what is open: on an unassigned task or, where there is none, on a pair that may be ordered
abbrev pub IsOpenBranch : InstanceView → List Decision → Branch → Type 0
IsOpenBranch inst ds (Task j) = IsOpenTask inst ds j
IsOpenBranch inst ds (Pair i j) = MayOrder inst ds i j × (¬ IsSettled inst ds i j) × AreAssigned inst ds
