-- inner: what the sweeps go over, and come to.
use Rattle.std.specs.Prelude.{◌≡◌, IfSome}
use Rattle.qc_model.specs.declared.direction.Direction.TheVariants.{Up, Down}
use Rattle.qc_model.specs.Instance.{InstanceView}
use Rattle.qc_model.specs.Seen.{seen}
use Rattle.qc_sweep.specs.declared.hunt.Parts.{Parts}
use Rattle.qc_sweep.specs.declared.swept.Swept.{Swept}
use Rattle.qc_sweep.specs.Plans.{IsFirstPlan}

-- the parts read the instance upward and downward
pub record AreParts (inst : InstanceView) (parts : Parts) : Type 0 where
  pub up : parts.up ≡ seen inst Up
  pub down : parts.down ≡ seen inst Down

-- they came to this for the instance: the best schedule, if there is one, is one that a search can begin with
pub record IsSwept (inst : InstanceView) (swept : Swept) : Type 0 where
  pub parts : AreParts inst swept.parts
  pub best : IfSome swept.hunt.best (IsFirstPlan inst)
