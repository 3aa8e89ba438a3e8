-- public: what a search comes to: a tree that is earned, the best schedule that it knows, and how both stand to each other.
use Rattle.std.specs.Prelude.{◌≡◌, ℕ, ◌+◌, ◌*◌, ◌^◌, ◌≤◌, ◌⊎◌, max, nat_le, if◌then◌else◌, List, length, Option, None, Some, IfSome, IsSomeAnd, MatchOption, Contains, option_map}
use Rattle.std.specs.Io.KnownBytes.{append_known}
use Rattle.qc_io.specs.Outside.{GrewByPart}
use Rattle.qc_num.specs.declared.bound.Bound.{Bound}
use Rattle.qc_num.specs.declared.bound.Bound.TheVariants.{Least, Never}
use Rattle.qc_num.specs.Bounds.{IsAtMost}
use Rattle.qc_close.specs.Model.{Direction, Slot, Turn, OneWay, Free, InstanceView, IsJudgeable, order_pairs, schedule_with, most_start, ends, seen, seen_schedule}
use Rattle.qc_starts.specs.Tight.{IsAllowedSo, IsTight, IsTightForm}
use Rattle.qc_tree.specs.Trees.{NoneEarlier, Tree, IsTree, tree_branchings, tree_text, tree_value}
use Rattle.qc_search.specs.declared.done.Kind.{Kind}
use Rattle.qc_search.specs.declared.done.Kind.TheVariants.{Budget, Infeasible, Optimal}
use Rattle.qc_search.specs.Earned.{TreeNode, IsEarned, IsKnownEnd, IsSolved, solved_end, tree_nodes}

-- the end of a schedule, if one is given; else Never
abbrev pub best_end : InstanceView → Option (List Slot) → Bound
best_end inst None = Never
best_end inst (Some sched) = Least (ends inst sched)

-- the schedule is the one that the search began with, and no complete node of the tree ends before it
pub record IsFirstBest (inst : InstanceView) (first : Option (List Slot)) (tree : Tree) (sched : List Slot) : Type 0 where
  pub is : first ≡ Some sched
  pub earliest : IsKnownEnd inst (best_end inst first) (tree_nodes tree) (Least (ends inst sched))

-- the schedule has the least starts of a complete node of the tree, which ends before the one that the search began with,
-- and as early as any such node; one of the down part is turned back by the mirror
pub record IsMetBest (inst : InstanceView) (first : Option (List Slot)) (tree : Tree) (sched : List Slot) : Type 0 where
  pub node : TreeNode
  pub stands : Contains (tree_nodes tree) node
  pub begins : List ℕ
  pub solved : IsSolved inst node begins
  pub sooner : ¬ IsAtMost (best_end inst first) (Least (solved_end inst node begins))
  pub earliest : IsKnownEnd inst (best_end inst first) (tree_nodes tree) (Least (solved_end inst node begins))
  pub is : sched ≡ seen_schedule inst (schedule_with (seen inst node.way) node.decisions begins) node.way

-- the schedule is a best one that the search knew
abbrev pub IsBestKnown : InstanceView → Option (List Slot) → Tree → List Slot → Type 0
IsBestKnown inst first tree sched = IsFirstBest inst first tree sched ⊎ IsMetBest inst first tree sched

-- how a tree's value, the lower bound, and the end of the incumbent stand to each other
abbrev pub outcome : Bound → Bound → Kind
outcome Never met = Infeasible
outcome (Least value) Never = Budget
outcome (Least value) (Least end) = if nat_le end value then Optimal else Budget

-- a tree that is earned with so many branchings by a search that begins with this tight schedule, or with none, and aims
-- at this end, the best schedule that is known behind it, if any is, and its outcome
pub record IsRun (inst : InstanceView) (most : ℕ) (first : Option (List Slot)) (aim : Bound) (tree : Tree)
    (best : Option (List Slot)) (kind : Kind) : Type 0 where
  pub tight : IfSome first (IsTight inst)
  pub is_tree : IsTree inst tree
  -- the aim is no later than the end of what it begins with; at the aim its nodes are closed
  pub under : IsAtMost aim (best_end inst first)
  pub earned : IsEarned inst most aim tree
  pub known : Bound
  pub ends : IsKnownEnd inst (best_end inst first) (tree_nodes tree) known
  pub is_best : MatchOption best (known ≡ Never) (IsBestKnown inst first tree)
  pub is_kind : kind ≡ outcome (tree_value inst tree) known
  -- under Budget all branchings are spent, or the tree shows the aim
  pub spent : kind ≡ Budget → (tree_branchings tree ≡ most) ⊎ IsAtMost aim (tree_value inst tree)

-- how many parts a tree has
abbrev pub parts_by : Turn → ℕ
parts_by OneWay = 2
parts_by Free = 1

-- every tree of the instance has fewer branchings
abbrev pub branching_limit : InstanceView → ℕ
branching_limit inst = parts_by inst.turn * max 2 (length inst.cranes) ^ (length inst.tasks + order_pairs inst)

-- a search that isn't run yet: for this instance, with so many branchings. It begins with the tight form of a schedule that
-- it was offered, or with none, and aims at an end: a node that can't end before it is closed
pub record SearchView : Type 0 where
  pub inst : InstanceView
  pub nodes : ℕ
  pub first : Option (List Slot)
  pub aim : Bound

-- one that aims at the end of what it begins with
abbrev pub search_from : InstanceView → (nodes : ℕ) → Option (List Slot) → SearchView
search_from inst nodes first = record { inst = inst; nodes = nodes; first = first; aim = best_end inst first }

-- what a search came to
pub record DoneView : Type 0 where
  pub kind : Kind
  pub bound : Bound
  pub branched : ℕ
  -- when the schedule that it began with ends; none where it was given none
  pub given : Option ℕ
  pub best : Option (List Slot)
  -- the way in which the best one is seen
  pub way : Direction

-- the tight form of a schedule ends then, which is no later than the schedule does
pub record IsTightEnd (inst : InstanceView) (given : List Slot) (end : ℕ) : Type 0 where
  pub first : List Slot
  pub form : IsTightForm inst given first
  pub is : end ≡ ends inst first
  pub no_later : end ≤ ends inst given

-- a search is offered a schedule: it keeps what it begins with where that ends no later, and else begins with the tight form
-- of this one, which ends no later than it
pub record IsOffered (inst : InstanceView) (given : List Slot) (before after : Option (List Slot)) : Type 0 where
  pub kept : IsAtMost (best_end inst before) (Least (ends inst given)) → after ≡ before
  pub taken : ¬ IsAtMost (best_end inst before) (Least (ends inst given))
      → IsSomeAnd after (λ first. IsTightForm inst given first × (ends inst first ≤ ends inst given))

-- what holds of each search that comes to its end, whether the sink tells its bytes or not
pub record IsSound (search : SearchView) (done : DoneView) : Type 0 where
  -- no schedule of the instance's turn ends before the bound; where it is Never, there is none
  pub none_earlier : NoneEarlier search.inst done.bound
  -- the best schedule can be judged, and is semi-active
  pub judgeable : IfSome done.best (IsJudgeable search.inst)
  pub tight : IfSome done.best (IsTight search.inst)
  -- cranes may follow it as it is seen
  pub goes : IfSome done.best (λ sched. IsAllowedSo search.inst.turn search.inst sched done.way)
  -- its tasks end at ticks of at most 12 digits
  pub soon : IfSome done.best (λ sched. ends search.inst sched ≤ most_start)
  -- the outcome is that of the bound and of the best schedule's end
  pub kind : done.kind ≡ outcome done.bound (best_end search.inst done.best)
  -- under Budget exactly as many branchings are written as may be, or the aim is shown
  pub spent : done.kind ≡ Budget → (done.branched ≡ search.nodes) ⊎ IsAtMost search.aim done.bound
  -- the schedule that it began with is told, and the best one is no worse
  pub given : done.given ≡ option_map (ends search.inst) search.first
  pub no_later : IsAtMost (best_end search.inst done.best) (best_end search.inst search.first)
  -- with so many branchings the search comes to a decision, or shows the aim
  pub decides : branching_limit search.inst ≤ search.nodes → done.kind ≡ Budget → IsAtMost search.aim done.bound

-- the bytes grew by the text of a tree that is a run, and what is told is told of that tree
pub record IsSearched (search : SearchView) (before after : Option (List ℕ)) (done : DoneView) : Type 0 where
  pub tree : Tree
  pub run : IsRun search.inst search.nodes search.first search.aim tree done.best done.kind
  pub bound : done.bound ≡ tree_value search.inst tree
  pub branched : done.branched ≡ tree_branchings tree
  pub written : after ≡ append_known before (tree_text search.inst tree)

-- the bytes grew by a front part of a tree's text that isn't the whole
pub record IsCutOff (inst : InstanceView) (before after : Option (List ℕ)) : Type 0 where
  pub tree : Tree
  pub is_tree : IsTree inst tree
  pub part : GrewByPart before after (tree_text inst tree)
