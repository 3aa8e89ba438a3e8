-- public: which bound trees a search with a budget of branchings may write.
use Rattle.std.specs.Prelude.{◌≡◌, ℕ, ◌≤◌, ◌⊎◌, IsTrue, List, ◌∷◌, ◌++◌, map, Some, All, Any, count_by}
use Rattle.qc_num.specs.declared.bound.Bound.{Bound}
use Rattle.qc_num.specs.declared.bound.Bound.TheVariants.{Least}
use Rattle.qc_num.specs.Bounds.{IsAtMost}
use Rattle.qc_close.specs.Model.{Decision, Direction, Up, Down, IsClosable, IsWorkBound, InstanceView, Leaf, chain, packed, ring, reach, is_out_of_reach, leaf_value, AreLeast, HasStarts, IsComplete, IsInReach, IsNodeEnd, last_end, seen}
use Rattle.qc_tree.specs.Trees.{Node, Sign, Tree, branches, leaf, tree_branchings}

-- a node of a tree: in which of the two parts it stands, its decisions, newest first, and what its line says
pub record TreeNode : Type 0 where
  pub way : Direction
  pub decisions : List Decision
  pub sign : Sign

abbrev pub node_at : Direction → List Decision → Sign → TreeNode
node_at way ds sign = record { way = way; decisions = ds; sign = sign }

-- the nodes of a part, in the order of the file
abbrev pub part_nodes : Direction → List Node → List TreeNode
part_nodes way = map (λ node. node_at way node.decisions node.sign)

-- the nodes of a tree, in the order of the file
abbrev pub tree_nodes : Tree → List TreeNode
tree_nodes tree = part_nodes Up tree.up ++ part_nodes Down tree.down

-- all is decided at the node, within reach, and these are its least starts
pub record IsSolved (inst : InstanceView) (node : TreeNode) (starts : List ℕ) : Type 0 where
  pub complete : IsComplete (seen inst node.way) node.decisions
  pub in_reach : IsInReach (seen inst node.way) node.decisions
  pub least : AreLeast (seen inst node.way) node.decisions starts

-- when the last task ends with these starts
abbrev pub solved_end : InstanceView → TreeNode → List ℕ → ℕ
solved_end inst node starts = last_end (seen inst node.way).tasks starts

-- some least starts of the node end then
pub record IsSolvedBy (inst : InstanceView) (end : ℕ) (node : TreeNode) : Type 0 where
  pub starts : List ℕ
  pub solved : IsSolved inst node starts
  pub ends : end ≡ solved_end inst node starts

-- the least of a first end, as that of the schedule that the search begins with, or its aim, and of the ends of those of
-- these nodes that are complete and have a solution
pub record IsKnownEnd (inst : InstanceView) (first : Bound) (nodes : List TreeNode) (known : Bound) : Type 0 where
  pub reached : (end : ℕ) → known ≡ Least end → (first ≡ Least end) ⊎ Any (IsSolvedBy inst end) nodes
  pub given : IsAtMost known first
  pub least : (end : ℕ) → All (λ node. IsSolvedBy inst end node → IsAtMost known (Least end)) nodes

-- how many branchings are among these nodes
abbrev pub branchings_in : List TreeNode → ℕ
branchings_in = count_by (λ node. branches node.sign)

-- the leaf is a chain that shows this end
pub record IsChainTo (inst : InstanceView) (ds : List Decision) (end : ℕ) (shows : Leaf) : Type 0 where
  pub tasks : List ℕ
  pub is : shows ≡ chain tasks
  pub value : leaf_value inst ds shows ≡ Some (Least end)

-- the leaf is a chain, work or packed tasks, and shows an end that is at least u
pub record ShowsLate (inst : InstanceView) (ds : List Decision) (u : Bound) (shows : Leaf) : Type 0 where
  pub end : ℕ
  pub value : leaf_value inst ds shows ≡ Some (Least end)
  pub late : IsAtMost u (Least end)

-- the leaf of a node that is closed at u: out of reach it is told so; else without starts a ring; else where all is
-- decided a chain to the node's very end; else what shows an end of at least u
pub record IsClosedAt (inst : InstanceView) (ds : List Decision) (u : Bound) (shows : Leaf) : Type 0 where
  pub out_of_reach : IsTrue (is_out_of_reach inst ds) → shows ≡ reach
  pub no_starts :
      ¬ (IsTrue (is_out_of_reach inst ds)) → ¬ (HasStarts inst ds) → (tasks : List ℕ) × (shows ≡ ring tasks)
  pub complete :
      ¬ (IsTrue (is_out_of_reach inst ds)) → HasStarts inst ds → IsComplete inst ds
      → (end : ℕ) × IsNodeEnd inst ds end × IsChainTo inst ds end shows
  pub late :
      ¬ (IsTrue (is_out_of_reach inst ds)) → HasStarts inst ds → ¬ (IsComplete inst ds)
      → ShowsLate inst ds u shows

-- the leaf of a node that isn't closed: it shows no less than the node's end, and than each end before which its work
-- doesn't fit
pub record IsGivenUp (inst : InstanceView) (ds : List Decision) (shows : Leaf) : Type 0 where
  pub value : ℕ
  pub is : leaf_value inst ds shows ≡ Some (Least value)
  pub end : ℕ
  pub ends : IsNodeEnd inst ds end
  pub no_less : end ≤ value
  pub bound : ℕ
  pub works : IsWorkBound inst ds bound
  pub no_shorter : bound ≤ value

-- the leaf lists packed tasks that show an end of at least u
pub record IsClashLate (inst : InstanceView) (ds : List Decision) (u : Bound) (shows : Leaf) : Type 0 where
  pub tasks : List ℕ
  pub is : shows ≡ packed tasks
  pub late : ShowsLate inst ds u shows

-- what may stand at a node, u being the end at which nodes are closed, and so many branchings before it written:
-- a branching only where u doesn't close the node; the leaf that closes it where u does; and else packed tasks that
-- show an end of at least u, or, once all branchings are spent, a leaf of any kind that shows enough
abbrev pub MayStand : InstanceView → List Decision → Bound → (branched most : ℕ) → Sign → Type 0
MayStand inst ds u branched most (leaf shows) =
    (IsClosable inst ds u → IsClosedAt inst ds u shows)
    × (¬ (IsClosable inst ds u) → IsClashLate inst ds u shows ⊎ ((branched ≡ most) × IsGivenUp inst ds shows))
MayStand inst ds u branched most branching = ¬ (IsClosable inst ds u)

-- the node is justified behind those before it in the file, where the search aims at this end: u is the least of the aim
-- and of the ends that were met
pub record IsEarnedBehind
    (inst : InstanceView) (most : ℕ) (aim : Bound) (before : List TreeNode) (node : TreeNode) : Type 0 where
  pub u : Bound
  pub known : IsKnownEnd inst aim before u
  pub stands : MayStand (seen inst node.way) node.decisions u (branchings_in before) most node.sign

-- the tree has at most so many branchings, and each of its nodes is justified by what the search knew when it wrote the
-- line
pub record IsEarned (inst : InstanceView) (most : ℕ) (aim : Bound) (tree : Tree) : Type 0 where
  pub few : tree_branchings tree ≤ most
  pub each :
      (before : List TreeNode) (node : TreeNode) (behind : List TreeNode)
      → tree_nodes tree ≡ before ++ node ∷ behind → IsEarnedBehind inst most aim before node
