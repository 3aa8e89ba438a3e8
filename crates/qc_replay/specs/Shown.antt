-- public: what is believed of a file that is a tree's.
use Rattle.std.specs.Prelude.{◌≡◌, ℕ, List, Option, IfSome}
use Rattle.qc_model.specs.Instance.{InstanceView}
use Rattle.qc_tree.specs.Trees.{Tree, IsTree, tree_branchings, tree_text, tree_value}
use Rattle.qc_replay.specs.declared.fault.Replayed.{Replayed}

-- a tree of the instance has this value and so many branchings, and the file, where it is told, is its text
pub record IsShown (inst : InstanceView) (file : Option (List ℕ)) (read : Replayed) : Type 0 where
  pub tree : Tree
  pub is_tree : IsTree inst tree
  pub bound : read.bound ≡ tree_value inst tree
  pub branched : read.branched ≡ tree_branchings tree
  pub text : IfSome file (λ bytes. bytes ≡ tree_text inst tree)
