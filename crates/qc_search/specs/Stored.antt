-- public: what a search leaves in its files. Each is whole or as it was.
use Rattle.std.specs.Prelude.{◌≡◌, ◌⊎◌, ℕ, List, Option, None, Some}
use Rattle.std.specs.FinMap.{insert}
use Rattle.qc_gantt.specs.PlanText.{plan_text}
use Rattle.qc_io.specs.Outside.{Files}
use Rattle.qc_close.specs.Model.{Slot, InstanceView}
use Rattle.qc_search.specs.Run.{DoneView, SearchView}
use Rattle.qc_tree.specs.Trees.{Tree, tree_text}
use Rattle.qc_search.specs.Outcome.{IsOutcome}
use Rattle.qc_search.specs.Rounds.{HasRun}

-- the files with the tree's text in the file of this name
abbrev pub with_tree : Files → List ℕ → InstanceView → Tree → Files
with_tree held name inst tree = insert held name (tree_text inst tree)

-- the files with the plan of the best schedule in the file of this name; where there is none, as they were
abbrev pub with_plan : Files → List ℕ → InstanceView → Option (List Slot) → Files
with_plan held name inst None = held
with_plan held name inst (Some sched) = insert held name (plan_text inst sched)

-- the search came to this, and the file of this name holds its tree
pub record IsTreeStored (search : SearchView) (name : List ℕ) (held : Files) (now : Option Files) (done : DoneView)
    : Type 0 where
  pub tree : Tree
  pub came : IsOutcome search tree done
  pub files : now ≡ Some (with_tree held name search.inst tree)

-- the search has run so far, and the file of this name holds the tree of its rounds that shows most
pub record IsSearching (search : SearchView) (name : List ℕ) (held : Files) (now : Option Files) : Type 0 where
  pub tree : Tree
  pub best : Option (List Slot)
  pub branched : ℕ
  pub ran : HasRun search tree best branched
  pub files : now ≡ Some (with_tree held name search.inst tree)

-- the files are as they were, or the tree of the search so far is stored
abbrev pub IsTreeLeft : SearchView → List ℕ → Files → Option Files → Type 0
IsTreeLeft search name held now = (now ≡ Some held) ⊎ IsSearching search name held now
