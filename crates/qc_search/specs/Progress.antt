-- inner: how far a search has come, and what its steps write and leave. A bound is a lower bound on the ends of
-- schedules; the incumbent is the best schedule that is known.
use Rattle.std.specs.Prelude.{◌≡◌, ℕ, ◌<◌, ◌≤◌, ◌⊎◌, List, [], ◌∷◌, ◌++◌, map, length, Option, None, Some, Result, Ok, Err, ⊤, IfOk, IfSome, OnOk, Contains}
use Rattle.qc_io.specs.declared.writing.WriteFault.{WriteFault}
use Rattle.qc_io.specs.Outside.{View}
use Rattle.qc_io.specs.Writes.{Writes}
use Rattle.qc_num.specs.declared.bound.Bound.{Bound}
use Rattle.qc_num.specs.declared.bound.Bound.TheVariants.{Least, Never}
use Rattle.qc_num.specs.Bounds.{IsAtMost, least_bound, lesser}
use Rattle.qc_num.specs.Paths.{HasRoom}
use Rattle.smallvec.specs.SmallVec.{SmallVec}
use Rattle.qc_dist.specs.Node.{Node as StartsNode}
use Rattle.qc_close.specs.Model.{Decision, Direction, Up, Down, Pair, Slot, Free, InstanceView, Valid, Agrees, AreLeast, Fits, IsComplete, IsInReach, IsSettled, schedule_with, most_branchings, most_start, most_tasks, flipped, last_end, seen, seen_schedule}
use Rattle.qc_tree.specs.Trees.{Holds, IsTree, Leads, Node, Sign, Tree, part_text, sign_value, tree_text}
use Rattle.qc_search.specs.declared.progress.Progress.{Progress}
use Rattle.qc_search.specs.Earned.{IsEarnedBehind, IsKnownEnd, IsSolved, TreeNode, branchings_in, node_at, part_nodes, solved_end, tree_nodes}
use Rattle.qc_search.specs.Run.{best_end}
use Rattle.qc_search.specs.Walk.{IsChild, from_child, from_node, steps_left}
use Rattle.qc_starts.specs.Tight.{ordered_pairs}

-- the progress before the first line
abbrev pub begun : (limit : ℕ) → List Slot → SmallVec ℕ → Progress
begun limit incumbent path = record {
  limit = limit;
  branched = 0;
  bound = Never;
  aim = Never;
  incumbent_end = Never;
  way = Up;
  incumbent = incumbent;
  path = path;
}

-- the end at which a node is closed: the lesser of the aim and of the incumbent's end
abbrev pub cutoff : Progress → Bound
cutoff now = lesser now.aim now.incumbent_end

-- the value of a node's leaf; Never of a branching
abbrev pub value_at : InstanceView → TreeNode → Bound
value_at home node = sign_value (seen home node.way) node.decisions node.sign

-- the least value of the leaves among these nodes
abbrev pub value_in : InstanceView → List TreeNode → Bound
value_in home nodes = least_bound (map (value_at home) nodes)

-- the node is one of these and ends before the schedule that the search began with, or it is that of this schedule
abbrev pub IsFrom : InstanceView → Option (List Slot) → Progress → List TreeNode → ℕ → TreeNode → Type 0
IsFrom home first now nodes end node =
    (Contains nodes node × (¬ IsAtMost (best_end home first) (Least end)))
    ⊎ (first ≡ Some (seen_schedule home now.incumbent now.way))

-- the incumbent is the schedule of one of these nodes or the one that the search began with, with this end
pub record IsKept (home : InstanceView) (first : Option (List Slot)) (now : Progress) (nodes : List TreeNode) (end : ℕ)
    : Type 0 where
  pub node : TreeNode
  pub from : IsFrom home first now nodes end node
  pub begins : List ℕ
  pub fits : Fits (seen home node.way) node.decisions
  pub solved : IsSolved home node begins
  pub ends : end ≡ solved_end home node begins
  pub soon : end ≤ most_start
  pub way : node.way ≡ now.way
  pub only_up : home.turn ≡ Free → node.way ≡ Up
  pub is : now.incumbent ≡ schedule_with (seen home node.way) node.decisions begins

-- this is what the nodes come to, behind the schedule that the search began with
pub record IsProgress (home : InstanceView) (first : Option (List Slot)) (now : Progress) (nodes : List TreeNode)
    : Type 0 where
  pub few : now.branched ≤ now.limit
  pub branched : now.branched ≡ branchings_in nodes
  pub bound : now.bound ≡ value_in home nodes
  pub known : IsKnownEnd home (best_end home first) nodes now.incumbent_end
  pub under : IsAtMost now.aim (best_end home first)
  pub best : (end : ℕ) → now.incumbent_end ≡ Least end → IsKept home first now nodes end
  -- no leaf shows an end before that at which nodes are closed while branchings are left
  pub late : now.branched < now.limit → IsAtMost (cutoff now) now.bound

-- each node is earned behind those before it
abbrev pub AreEarned : InstanceView → ℕ → Bound → List TreeNode → List TreeNode → Type 0
AreEarned home most aim before [] = Unit {0}
AreEarned home most aim before (node ∷ nodes) =
    IsEarnedBehind home most aim before node × AreEarned home most aim (before ++ node ∷ []) nodes

-- a value is an end that a schedule may have
abbrev pub IsSoon : Bound → Type 0
IsSoon (Least value) = value ≤ most_start
IsSoon Never = Unit {0}

-- what is the same all along: the limit, the aim, the room, and how great a value can be
pub record IsAlong (inst : InstanceView) (old new : Progress) : Type 0 where
  pub limit : new.limit ≡ old.limit
  pub aim : new.aim ≡ old.aim
  pub count : length old.incumbent ≡ length inst.tasks → length new.incumbent ≡ length inst.tasks
  pub room : HasRoom most_tasks old.path → HasRoom most_tasks new.path
  pub soon : IsSoon old.bound → IsSoon new.bound

-- the part is that of the instance as it is seen this way; where cranes go as they like there is one, as it is
pub record IsPartOf (home : InstanceView) (way : Direction) (inst : InstanceView) : Type 0 where
  pub same : seen home way ≡ inst
  pub only_up : home.turn ≡ Free → way ≡ Up

-- the line holds at its node, which is earned there, and leads from one progress to another
pub record IsStep
    (inst : InstanceView) (way : Direction) (ds : List Decision) (sign : Sign) (old new : Progress) : Type 0 where
  pub holds : Holds inst ds sign
  pub along : IsAlong inst old new
  pub earned :
      (home : InstanceView) (first : Option (List Slot)) (before : List TreeNode) → IsPartOf home way inst
      → IsProgress home first old before
      → IsEarnedBehind home old.limit old.aim before (node_at way ds sign)
      × IsProgress home first new (before ++ node_at way ds sign ∷ [])

-- nodes of a part lead from one progress to another, and each is earned
pub record Comes (inst : InstanceView) (way : Direction) (nodes : List Node) (old new : Progress) : Type 0 where
  pub along : IsAlong inst old new
  pub earned :
      (home : InstanceView) (first : Option (List Slot)) (before : List TreeNode) → IsPartOf home way inst
      → IsProgress home first old before
      → AreEarned home old.limit old.aim before (part_nodes way nodes)
      × IsProgress home first new (before ++ part_nodes way nodes)

-- a text and the lines of nodes were written, or a front part of them: of the nodes that were due these came and leave
-- those others. Where the lines were cut, whatever was still due stands as given up, and nothing is left.
pub record WritesNodes
    (front : List ℕ) (before after : View) (inst : InstanceView) (way : Direction) (due left : List (List Decision))
    (old new : Progress) (result : Result ⊤ WriteFault) : Type 0 where
  pub nodes : List Node
  pub leads : Leads inst due nodes left
  pub writes : Writes before after (front ++ part_text nodes) result
  pub few :
      (home : InstanceView) (first : Option (List Slot)) (earlier : List TreeNode) → IsPartOf home way inst
      → IsProgress home first old earlier → branchings_in (earlier ++ part_nodes way nodes) ≤ old.limit
  pub comes : OnOk result (Comes inst way nodes old new)

-- a tree was written, or a front part of its text; where it is whole, each of its nodes is earned
pub record WritesTree
    (before after : View) (home : InstanceView) (first : Option (List Slot)) (old new : Progress)
    (result : Result ⊤ WriteFault) : Type 0 where
  pub tree : Tree
  pub is_tree : IsTree home tree
  pub writes : Writes before after (tree_text home tree) result
  pub earned : OnOk result (AreEarned home old.limit old.aim [] (tree_nodes tree))
  pub progress : OnOk result (IsProgress home first new (tree_nodes tree))
  pub along : OnOk result (IsAlong home old new)

-- the answer of a call that writes, without its value
abbrev pub emptied : {A : Type 0} → Result A WriteFault → Result ⊤ WriteFault
emptied (Ok x) = Ok tt
emptied (Err fault) = Err fault

-- the nodes that are left by an answer: none by a fault
abbrev pub left_by : {A : Type 0} → (A → List (List Decision)) → Result A WriteFault → List (List Decision)
left_by left (Ok x) = left x
left_by left (Err fault) = []

-- a node at which a line is to be written
pub record IsMet (node : StartsNode) (now : Progress) : Type 0 where
  pub valid : Valid node.inst
  pub in_reach : IsInReach node.inst node.decisions
  pub count : length now.incumbent ≡ length node.inst.tasks
  pub room : HasRoom most_tasks now.path
  pub few : now.branched ≤ now.limit

-- the line of a node was written, or a front part of it. Behind it comes its first child, which is answered, if it has
-- children; with each line fewer may still come
pub record Visits (before after : View) (node : StartsNode) (way : Direction) (old new : Progress)
    (result : Result (Option Decision) WriteFault) : Type 0 where
  pub line : WritesNodes [] before after node.inst way (from_node node.inst node.decisions)
      (left_by (from_child node.inst node.decisions) result) old new (emptied result)
  pub child : IfOk result (λ child. IfSome child (IsChild node.inst node.decisions))
  pub fewer : IfOk result (λ child.
      steps_left (from_child node.inst node.decisions child) new.limit new.branched
      < steps_left (from_node node.inst node.decisions) old.limit old.branched)
  pub few : OnOk result (new.branched ≤ new.limit)

-- an end improves on that of the incumbent, if there is one
abbrev pub Improves : ℕ → Bound → Type 0
Improves end (Least least) = end < least
Improves end Never = Unit {0}

-- the incumbent stays: no schedule of the node ends sooner
pub record IsPassed (inst : InstanceView) (ds : List Decision) (old new : Progress) : Type 0 where
  pub same : new ≡ old
  pub late :
      (begins : List ℕ) → IsComplete inst ds → IsInReach inst ds → AreLeast inst ds begins
      → IsAtMost old.incumbent_end (Least (last_end inst.tasks begins))

-- the node's schedule is the incumbent, since it ends sooner than any before
pub record IsTaken
    (inst : InstanceView) (way : Direction) (ds : List Decision) (old new : Progress) : Type 0 where
  pub begins : List ℕ
  pub fits : Fits inst ds
  pub complete : IsComplete inst ds
  pub in_reach : IsInReach inst ds
  pub least : AreLeast inst ds begins
  pub sooner : Improves (last_end inst.tasks begins) old.incumbent_end
  pub soon : last_end inst.tasks begins ≤ most_start
  pub is : new ≡ record old {
    incumbent_end = Least (last_end inst.tasks begins);
    way = way;
    incumbent = schedule_with inst ds begins;
  }

-- the number of a bound; none of Never
abbrev pub bound_end : Bound → Option ℕ
bound_end Never = None
bound_end (Least end) = Some end

-- the best schedule as it is answered: turned back where it was met in the down part
abbrev pub shown_best : ℕ → Bound → Direction → List Slot → Option (List Slot)
shown_best cranes Never way best = None
shown_best cranes (Least end) Up best = Some best
shown_best cranes (Least end) Down best = Some (map (flipped cranes) best)

-- each pair whose order the schedule decides is settled at the node
abbrev pub AreOrdered : InstanceView → List Decision → List Slot → Type 0
AreOrdered inst ds sched =
    (pair : Pair) → Contains (ordered_pairs inst.turn inst sched) pair → IsSettled inst ds pair.first pair.second

-- the starts of a schedule were made the least ones of a node that it agrees with and that has its order of tasks, and it
-- ends then
pub record IsTightened (inst : InstanceView) (old new : List Slot) (end : ℕ) : Type 0 where
  pub decisions : List Decision
  pub agrees : Agrees inst decisions old
  pub fits : Fits inst decisions
  pub ordered : AreOrdered inst decisions old
  pub complete : IsComplete inst decisions
  pub in_reach : IsInReach inst decisions
  pub begins : List ℕ
  pub least : AreLeast inst decisions begins
  pub is : new ≡ schedule_with inst decisions begins
  pub ends : end ≡ last_end inst.tasks begins
  pub soon : end ≤ most_start

-- the tight form of a schedule, as it is seen this way, was made the incumbent, and its end the aim
pub record IsBegunWith (home : InstanceView) (given : List Slot) (way : Direction) (old now : Progress) : Type 0 where
  pub end : ℕ
  pub tightened : IsTightened (seen home way) (seen_schedule home given way) now.incumbent end
  pub is : now ≡ record old { aim = Least end; incumbent_end = Least end; way = way; incumbent = now.incumbent }

-- the incumbent as it is answered, if there is one
abbrev pub known_best : InstanceView → Progress → Option (List Slot)
known_best home now = shown_best (length home.cranes) now.incumbent_end now.way now.incumbent

-- the progress before the first line, which is that of no nodes behind the schedule with which the search begins
pub record IsBegun (home : InstanceView) (now : Progress) : Type 0 where
  pub progress : IsProgress home (known_best home now) now []
  pub bound : now.bound ≡ Never
  pub count : length now.incumbent ≡ length home.tasks
  pub room : HasRoom most_tasks now.path
  pub few : now.limit ≤ most_branchings
