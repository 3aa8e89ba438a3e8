-- public: what a tree's file shows for an instance, with the order of refusals.
use Rattle.std.specs.Prelude.{◌≡◌, ◌≢◌, ℕ, List, Option, Some, IsSomeAnd, ok_or, Result}
use Rattle.qc_num.specs.declared.bound.Bound.{Bound}
use Rattle.qc_num.specs.Reading.{◌>>=◌, with_fault}
use Rattle.qc_model.specs.Instance.{InstanceView}
use Rattle.qc_tree.specs.Trees.{IsTree, NoneEarlier, Tree, tree_text, tree_value}
use Rattle.qc_replay.specs.declared.fault.Replayed.{Replayed}
use Rattle.qc_replay.specs.Walk.{tree_in}
use Rattle.qc_run.specs.declared.inputs.Input.TheVariants as input
use Rattle.qc_run.specs.declared.refusal.Refusal.{Refusal}
use Rattle.qc_run.specs.declared.refusal.Refusal.TheVariants as refusal
use Rattle.qc_run.specs.Due.{Contents, instance_due}

-- what the tree of the tree's file shows for the instance, or the first refusal of that file
abbrev pub tree_due : InstanceView → Contents → Result Replayed Refusal
tree_due inst contents = do
  bytes ← ok_or contents.tree (refusal.ReadFault input.Tree)
  with_fault refusal.BadTree (tree_in inst bytes)

-- what that tree shows for the instance of the files, or the first refusal: the tree's file comes last
abbrev pub shown_due : Contents → Result Replayed Refusal
shown_due contents = do
  inst ← instance_due contents
  tree_due inst contents

-- the file is the text of a tree of the instance with this value, which no schedule of the instance's turn beats; where
-- it is Never, there is none
pub record IsTreeShown (inst : InstanceView) (file : Option (List ℕ)) (bound : Bound) : Type 0 where
  pub tree : Tree
  pub is_tree : IsTree inst tree
  pub value : bound ≡ tree_value inst tree
  pub text : file ≡ Some (tree_text inst tree)
  pub none_earlier : NoneEarlier inst bound

-- the file is held, and isn't the text of a tree of the instance
abbrev pub IsNoTree : InstanceView → Option (List ℕ) → Type 0
IsNoTree inst file = IsSomeAnd file (λ bytes. (tree : Tree) → IsTree inst tree → bytes ≢ tree_text inst tree)
