-- inner: what a node's line can say.
use Rattle.std.specs.Prelude.{◌≡◌, ℕ, ◌<◌, ◌≤◌, List, [], length, Some, All}
use Rattle.qc_num.specs.declared.bound.Bound.TheVariants.{Least}
use Rattle.qc_bounds.specs.declared.leaves.LeafKind.{LeafKind}
use Rattle.qc_bounds.specs.declared.leaves.LeafKind.TheVariants.{Chain, Clash, Ring, Work}
use Rattle.qc_close.specs.Model.{Decision, Direction, Up, Down, InstanceView, Leaf, chain, leaf_value, packed, ring, work, most_start, most_tasks}
use Rattle.qc_starts.specs.Seen.{IsCycle, IsWhy}
use Rattle.qc_tree.specs.declared.line.Line.{Line}
use Rattle.qc_tree.specs.declared.line.Line.TheVariants as line
use Rattle.qc_search.specs.declared.branch.Branch.{Branch}
use Rattle.qc_search.specs.declared.branch.Branch.TheVariants as branch

-- the line at the beginning of a part
abbrev pub part_line : Direction → Line
part_line Up = line.Up
part_line Down = line.Down

-- the leaf that a kind and its tasks are
abbrev pub leaf_of : LeafKind → List ℕ → Leaf
leaf_of Chain tasks = chain tasks
leaf_of Ring tasks = ring tasks
leaf_of (Work end) tasks = work end
leaf_of (Clash end) tasks = packed tasks

-- the line of a leaf
abbrev pub leaf_line : LeafKind → Line
leaf_line Chain = line.Chain
leaf_line Ring = line.Ring
leaf_line (Work end) = line.Work end
leaf_line (Clash end) = line.Clash

-- tasks that a line can name
abbrev pub AreNumbers : List ℕ → Type 0
AreNumbers tasks = (length tasks ≤ most_tasks) × All (λ j. j < most_tasks) tasks

-- the leaf can be written
abbrev pub IsWritable : LeafKind → List ℕ → Type 0
IsWritable Chain tasks = AreNumbers tasks
IsWritable Ring tasks = (2 ≤ length tasks) × AreNumbers tasks
IsWritable (Clash end) tasks = (1 ≤ length tasks) × AreNumbers tasks
IsWritable (Work end) tasks = AreNumbers tasks × (1 ≤ end) × (end ≤ most_start)

-- the leaf holds at the node, and the path has its tasks
abbrev pub IsLeafBy : InstanceView → List Decision → LeafKind → List ℕ → Type 0
IsLeafBy inst ds Chain tasks = IsWhy inst ds tasks
IsLeafBy inst ds Ring tasks = IsCycle inst ds tasks
IsLeafBy inst ds (Work end) tasks =
    (tasks ≡ []) × (end ≤ most_start) × (leaf_value inst ds (work end) ≡ Some (Least end))
IsLeafBy inst ds (Clash end) tasks =
    (end ≤ most_start) × (leaf_value inst ds (packed tasks) ≡ Some (Least end))

-- a line can name the tasks of the branching
abbrev pub IsNamed : Branch → Type 0
IsNamed (branch.Task j) = j < most_tasks
IsNamed (branch.Pair i j) = (i < most_tasks) × (j < most_tasks)
