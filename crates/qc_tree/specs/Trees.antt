-- public: bound trees: branchings over nodes, ended by leaves, that show an end which no schedule of the instance's turn
-- beats.
use Rattle.std.specs.Prelude.{◌≡◌, ℕ, ◌+◌, ◌<◌, ◌≤◌, Bool, true, false, List, [], ◌∷◌, ◌++◌, map, length, count_by, unwrap_or, None, IsSome}
use Rattle.std.specs.List.{flat_map}
use Rattle.qc_num.specs.declared.bound.Bound.{Bound}
use Rattle.qc_num.specs.declared.bound.Bound.TheVariants.{Least, Never}
use Rattle.qc_num.specs.Bounds.{IsAtMost, lesser, least_bound}
use Rattle.qc_close.specs.Model.{Decision, Slot, Turn, OneWay, Free, InstanceView, IsApart, Leaf, chain, packed, ring, reach, work, leaf_value, crane_numbers, Conflicts, IsSettled, assigned, most_branchings, IsAllowed, mirror, ends}
use Rattle.qc_model.specs.declared.decision.Decision.TheVariants as decide
use Rattle.qc_tree.specs.declared.line.Line.{Line}
use Rattle.qc_tree.specs.declared.line.Line.TheVariants.{Title, FreeTitle, Up, Down, Assign, Order, Chain, Ring, Reach, Work, Clash, End}
use Rattle.qc_tree.specs.Lines.{line_text}

-- what the line of a node says; tasks are numbered from 0
pub data Sign : Type 0 where
  -- nothing more is decided
  leaf : (shows : Leaf) → Sign
  -- which crane does the task
  on_task : (task : ℕ) → Sign
  -- which of two tasks is first
  on_pair : (first second : ℕ) → Sign

-- a node: its decisions, newest first, and what its line says
pub record Node : Type 0 where
  pub decisions : List Decision
  pub sign : Sign

-- the order of two tasks may be branched on: where cranes go one way that of an apart pair, and else that of all tasks
-- that conflict, told by the lower number first
abbrev pub MayOrderBy : Turn → InstanceView → List Decision → ℕ → ℕ → Type 0
MayOrderBy OneWay inst ds i j = IsApart inst i j
MayOrderBy Free inst ds i j = (i < j) × Conflicts inst ds i j

abbrev pub MayOrder : InstanceView → List Decision → ℕ → ℕ → Type 0
MayOrder inst ds i j = MayOrderBy inst.turn inst ds i j

-- the line holds where it stands: a leaf shows something, a branching is on what is open
abbrev pub Holds : InstanceView → List Decision → Sign → Type 0
Holds inst ds (leaf shows) = IsSome (leaf_value inst ds shows)
Holds inst ds (on_task j) = (j < length inst.tasks) × (assigned ds j ≡ None)
Holds inst ds (on_pair i j) = MayOrder inst ds i j × (¬ IsSettled inst ds i j)

-- the decisions of a node's children, in the order of the file: one for each crane, or one for each order
abbrev pub children : InstanceView → List Decision → Sign → List (List Decision)
children inst ds (leaf shows) = []
children inst ds (on_task j) = map (λ k. decide.Assign j k ∷ ds) (crane_numbers inst)
children inst ds (on_pair i j) = (decide.Order i j ∷ ds) ∷ (decide.Order j i ∷ ds) ∷ []

-- where nodes of these decisions must come, these nodes come, each before its children, and leave those others
abbrev pub Leads : InstanceView → List (List Decision) → List Node → List (List Decision) → Type 0
Leads inst due [] left = due ≡ left
Leads inst [] (node ∷ nodes) left = ⊥
Leads inst (ds ∷ more) (node ∷ nodes) left =
    (node.decisions ≡ ds) × Holds inst ds node.sign
    × Leads inst (children inst ds node.sign ++ more) nodes left

-- the nodes are those of a whole part, from the node without decisions on
abbrev pub IsPart : InstanceView → List Node → Type 0
IsPart inst nodes = Leads inst ([] ∷ []) nodes []

-- a part for the instance, and one for its mirror, each as its nodes in the order of the file; where cranes go as they
-- like the second has none
pub record Tree : Type 0 where
  pub up : List Node
  pub down : List Node

-- what a leaf shows; a branching shows nothing by itself
abbrev pub sign_value : InstanceView → List Decision → Sign → Bound
sign_value inst ds (leaf shows) = unwrap_or (leaf_value inst ds shows) Never
sign_value inst ds _ = Never

abbrev pub node_value : InstanceView → Node → Bound
node_value inst node = sign_value inst node.decisions node.sign

-- the least value of the leaves
abbrev pub part_value : InstanceView → List Node → Bound
part_value inst nodes = least_bound (map (node_value inst) nodes)

-- the line branches on something
abbrev pub branches : Sign → Bool
branches (leaf shows) = false
branches _ = true

abbrev pub branchings : List Node → ℕ
branchings = count_by (λ node. branches node.sign)

abbrev pub tree_branchings : Tree → ℕ
tree_branchings tree = branchings tree.up + branchings tree.down

-- the second part: where cranes go one way that of the mirror; else there is none
abbrev pub IsSecond : Turn → InstanceView → List Node → Type 0
IsSecond OneWay inst nodes = IsPart (mirror inst) nodes
IsSecond Free inst nodes = nodes ≡ []

-- the tree is one of the instance
pub record IsTree (inst : InstanceView) (tree : Tree) : Type 0 where
  pub up : IsPart inst tree.up
  pub down : IsSecond inst.turn inst tree.down
  pub few : tree_branchings tree ≤ most_branchings

-- what the tree shows: no schedule of the instance's turn ends earlier
abbrev pub tree_value : InstanceView → Tree → Bound
tree_value inst tree =
    lesser (part_value inst tree.up) (part_value (mirror inst) tree.down)

-- a line as it stands in a file
abbrev pub whole_line : Line → List ℕ → List ℕ
whole_line line list = line_text line list ++ 10 ∷ []

-- tasks as they are numbered in a file
abbrev pub in_file : List ℕ → List ℕ
in_file tasks = map (λ j. j + 1) tasks

abbrev pub leaf_text : Leaf → List ℕ
leaf_text (chain tasks) = whole_line Chain (in_file tasks)
leaf_text (ring tasks) = whole_line Ring (in_file tasks)
leaf_text reach = whole_line Reach []
leaf_text (work end) = whole_line (Work end) []
leaf_text (packed tasks) = whole_line Clash (in_file tasks)

-- the line of a node
abbrev pub sign_text : Sign → List ℕ
sign_text (leaf shows) = leaf_text shows
sign_text (on_task j) = whole_line (Assign (j + 1)) []
sign_text (on_pair i j) = whole_line (Order (i + 1) (j + 1)) []

-- the lines of the nodes
abbrev pub part_text : List Node → List ℕ
part_text = flat_map (λ node. sign_text node.sign)

-- the lines ahead of the last one
abbrev pub lines_by : Turn → Tree → List ℕ
lines_by OneWay tree =
    whole_line Title []
    ++ whole_line Up [] ++ part_text tree.up
    ++ whole_line Down [] ++ part_text tree.down
lines_by Free tree = whole_line FreeTitle [] ++ part_text tree.up

-- the file of a tree
abbrev pub tree_text : InstanceView → Tree → List ℕ
tree_text inst tree =
    lines_by inst.turn tree ++ whole_line (End (tree_branchings tree) (tree_value inst tree)) []

-- no schedule of the instance's turn ends before the bound; where it is Never, there is none
abbrev pub NoneEarlier : InstanceView → Bound → Type 0
NoneEarlier inst bound =
    (sched : List Slot) → IsAllowed inst sched → IsAtMost bound (Least (ends inst sched))
