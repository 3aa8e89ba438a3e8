-- public: what a search came to.
use Rattle.std.specs.Prelude.{◌≡◌, ℕ, List, Option, None, Some, Ok}
use Rattle.qc_gantt.specs.Plan.{plan_in}
use Rattle.qc_gantt.specs.PlanText.{plan_text}
use Rattle.qc_close.specs.Model.{Slot, InstanceView}
use Rattle.qc_tree.specs.Trees.{Tree, tree_value}
use Rattle.qc_search.specs.Rounds.{HasRun}
use Rattle.qc_search.specs.Run.{DoneView, IsOffered, IsSound, SearchView, search_from}

-- a search was offered this schedule, or none, and begins with that in place of this
abbrev pub WasOffered : InstanceView → Option (List Slot) → (before after : Option (List Slot)) → Type 0
WasOffered inst None before after = after ≡ before
WasOffered inst (Some given) before after = IsOffered inst given before after

-- what a search came to in rounds: its schedule, if any, is the best that they know, its tree the one of theirs that shows
-- most, its bound what that shows, its branchings are those of all of them, and what holds of each search
pub record IsOutcome (search : SearchView) (tree : Tree) (done : DoneView) : Type 0 where
  pub ran : HasRun search tree done.best done.branched
  pub bound : done.bound ≡ tree_value search.inst tree
  pub sound : IsSound search done

-- a search begins with this schedule, or with none: it was offered the planner's own schedule, if there is one, and then
-- another one, if any was found; where that comes from isn't said
pub record BeginsWith (inst : InstanceView) (own first : Option (List Slot)) : Type 0 where
  pub found : Option (List Slot)
  pub own_first : Option (List Slot)
  pub own_offered : WasOffered inst own None own_first
  pub offered : WasOffered inst found own_first first

-- what came of a search with so many branchings that was offered these
pub record IsFound (inst : InstanceView) (nodes : ℕ) (own : Option (List Slot)) (tree : Tree) (done : DoneView)
    : Type 0 where
  pub first : Option (List Slot)
  pub begins : BeginsWith inst own first
  pub came : IsOutcome (search_from inst nodes first) tree done

-- what has come of it so far: the tree of its rounds that shows most
pub record IsFoundSoFar (inst : InstanceView) (nodes : ℕ) (own : Option (List Slot)) (tree : Tree) : Type 0 where
  pub first : Option (List Slot)
  pub begins : BeginsWith inst own first
  pub best : Option (List Slot)
  pub branched : ℕ
  pub ran : HasRun (search_from inst nodes first) tree best branched

-- the text of the schedule's plan is read as this schedule
abbrev pub IsReread : InstanceView → List Slot → Type 0
IsReread inst sched = plan_in inst (plan_text inst sched) ≡ Ok sched
