-- public: the leaf that closes a node, or that stands for one that isn't branched on.
use Rattle.std.specs.Prelude.{◌≡◌, ℕ, ◌<◌, ◌≤◌, ◌⊎◌, List, [], Some}
use Rattle.qc_num.specs.Bounds.{IsAtMost}
use Rattle.qc_num.specs.declared.bound.Bound.{Bound}
use Rattle.qc_num.specs.declared.bound.Bound.TheVariants.{Least}
use Rattle.qc_close.specs.Model.{Decision, MOST_START, IsWorkBound, InstanceView, leaf_value, packed, work, HasStarts, IsComplete, IsNodeEnd}
use Rattle.qc_starts.specs.Seen.{IsCycle, IsWhy}
use Rattle.qc_bounds.specs.declared.leaves.LeafKind.{LeafKind}
use Rattle.qc_bounds.specs.declared.leaves.LeafKind.TheVariants.{Chain, Clash, Ring, Work}

-- no starts meet the node, and the tasks are a ring
pub record IsRingLeaf (inst : InstanceView) (ds : List Decision) (tasks : List ℕ) : Type 0 where
  pub none : ¬ HasStarts inst ds
  pub ring : IsCycle inst ds tasks

-- the node has starts and more to decide, and its work shows the end; there are no tasks
pub record IsWorkLeaf (inst : InstanceView) (ds : List Decision) (end : ℕ) (tasks : List ℕ) : Type 0 where
  pub starts : HasStarts inst ds
  pub undecided : ¬ IsComplete inst ds
  pub shows : leaf_value inst ds (work end) ≡ Some (Least end)
  pub soon : end ≤ MOST_START
  pub empty : tasks ≡ []

-- the node has starts and more to decide, and the tasks are packed and show this end
pub record IsClashLeaf (inst : InstanceView) (ds : List Decision) (end : ℕ) (tasks : List ℕ) : Type 0 where
  pub starts : HasStarts inst ds
  pub undecided : ¬ IsComplete inst ds
  pub shows : leaf_value inst ds (packed tasks) ≡ Some (Least end)
  pub soon : end ≤ MOST_START

-- the leaf of a node that is closed at u: a ring where no starts meet it, the chain to its end where it
-- is complete, else one that shows at least u; its work shows u itself
abbrev pub IsClosedBy : InstanceView → List Decision → Bound → LeafKind → List ℕ → Type 0
IsClosedBy inst ds u Ring tasks = IsRingLeaf inst ds tasks
IsClosedBy inst ds u Chain tasks =
    (why : IsWhy inst ds tasks) × (IsComplete inst ds ⊎ IsAtMost u (Least why.end))
IsClosedBy inst ds u (Work end) tasks = IsWorkLeaf inst ds end tasks × (u ≡ Least end)
IsClosedBy inst ds u (Clash end) tasks = IsClashLeaf inst ds end tasks × IsAtMost u (Least end)

-- the leaf that stands for a node without branching: a ring where no starts meet it, the chain to its
-- end where it is complete or its work shows no more, else the latest end that its work shows; or packed tasks that
-- show no less than both
abbrev pub IsSpentBy : InstanceView → List Decision → LeafKind → List ℕ → Type 0
IsSpentBy inst ds Ring tasks = IsRingLeaf inst ds tasks
IsSpentBy inst ds Chain tasks =
    (why : IsWhy inst ds tasks)
    × (IsComplete inst ds ⊎ ((bound : ℕ) × IsWorkBound inst ds bound × (bound ≤ why.end)))
IsSpentBy inst ds (Work end) tasks =
    IsWorkLeaf inst ds end tasks × IsWorkBound inst ds end
    × ((sooner : ℕ) × IsNodeEnd inst ds sooner × (sooner < end))
IsSpentBy inst ds (Clash end) tasks =
    IsClashLeaf inst ds end tasks
    × ((bound : ℕ) × IsWorkBound inst ds bound × (bound ≤ end))
    × ((sooner : ℕ) × IsNodeEnd inst ds sooner × (sooner ≤ end))
