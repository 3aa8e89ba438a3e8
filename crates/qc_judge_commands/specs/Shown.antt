-- public: what a tree's file shows for the instance of a check.
use Rattle.std.specs.Prelude.{◌≡◌, Ok}
use Rattle.qc_io.specs.Outside.{Files}
use Rattle.qc_num.specs.declared.bound.Bound.{Bound}
use Rattle.qc_model.specs.Instance.{InstanceView}
use Rattle.qc_run.specs.Due.{contents_in, instance_due}
use Rattle.qc_run.specs.Inputs.{Names}
use Rattle.qc_judge_commands.specs.TreeFile.{IsNoTree, IsTreeShown}

-- the tree's file is the text of a tree of the instance of the two files with the turn that is asked about, with this value
pub record IsBoundShown (names : Names) (held : Files) (bound : Bound) : Type 0 where
  pub inst : InstanceView
  pub due : instance_due (contents_in held names) ≡ Ok inst
  pub turn : inst.turn ≡ names.turn
  pub shown : IsTreeShown inst (contents_in held names).tree bound

-- the tree's file is held, and isn't the text of a tree of that instance
pub record IsNoneShown (names : Names) (held : Files) : Type 0 where
  pub inst : InstanceView
  pub due : instance_due (contents_in held names) ≡ Ok inst
  pub none : IsNoTree inst (contents_in held names).tree
