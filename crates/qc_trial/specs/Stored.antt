-- inner: what a search stores on a shelf of its own, and what a check of that says.
use Rattle.std.specs.Prelude.{◌≡◌, ℕ, List, Option, None, Some, IfSome, codes, nat_le, if◌then◌else◌}
use Rattle.std.specs.FinMap.{get}
use Rattle.qc_gantt.specs.PlanText.{plan_text}
use Rattle.qc_io.specs.Outside.{Files}
use Rattle.qc_num.specs.declared.bound.Bound.{Bound}
use Rattle.qc_num.specs.declared.bound.Bound.TheVariants.{Least, Never}
use Rattle.qc_model.specs.declared.schedule.Slot.{Slot}
use Rattle.qc_model.specs.Instance.{InstanceView}
use Rattle.qc_search.specs.Run.{DoneView, SearchView, search_from}
use Rattle.qc_tree.specs.Trees.{IsTree, Tree, tree_text}
use Rattle.qc_search.specs.Outcome.{IsFound, IsReread, WasOffered}
use Rattle.qc_trial.specs.declared.made.Verdict.{Verdict}
use Rattle.qc_trial.specs.declared.made.Verdict.TheVariants as verdict
use Rattle.qc_trial.specs.Made.{made_branchings}

-- the search is one of the instance, and was offered a schedule, if any was found
pub record IsSearchFor (inst : InstanceView) (search : SearchView) : Type 0 where
  pub is : search ≡ search_from inst made_branchings search.first
  pub found : Option (List Slot)
  pub offered : WasOffered inst found None search.first

-- the tree is one of the instance, and stands in its file
pub record IsTreeStored (inst : InstanceView) (files : Files) (tree : Tree) : Type 0 where
  pub is_tree : IsTree inst tree
  pub text : get files (codes "tree") ≡ Some (tree_text inst tree)

-- the plan of the schedule stands in its file, and is read as this schedule
pub record IsPlanStored (inst : InstanceView) (files : Files) (sched : List Slot) : Type 0 where
  pub text : get files (codes "plan") ≡ Some (plan_text inst sched)
  pub reread : IsReread inst sched

-- the tree of a search stands in its file, and the plan of its best schedule, if it knows any
pub record AreStored (inst : InstanceView) (files : Files) (done : DoneView) : Type 0 where
  pub tree : Tree
  pub found : IsFound inst made_branchings None tree done
  pub tree_stored : IsTreeStored inst files tree
  pub plan_stored : IfSome done.best (IsPlanStored inst files)

-- what a check says of a tree alone that shows this
abbrev pub verdict_alone : Bound → Verdict
verdict_alone (Least bound) = verdict.Bound
verdict_alone Never = verdict.Infeasible

-- what a check says of a plan that holds and ends then
abbrev pub verdict_at : Bound → ℕ → Verdict
verdict_at (Least bound) end = if nat_le end bound then verdict.Optimal else verdict.Weaker
verdict_at Never end = verdict.Optimal
