-- inner: an end before which the work of a node doesn't fit.
use Rattle.std.specs.Prelude.{◌≡◌, ℕ, ◌≤◌, List, Some}
use Rattle.qc_num.specs.declared.bound.Bound.{Bound}
use Rattle.qc_num.specs.declared.bound.Bound.TheVariants.{Least}
use Rattle.qc_close.specs.Model.{Decision, MOST_START, InstanceView, leaf_value, work}

-- the bound is this end, and the work shows it
pub record IsWorkShown (inst : InstanceView) (ds : List Decision) (bound : Bound) (end : ℕ) : Type 0 where
  pub is : bound ≡ Least end
  pub shows : leaf_value inst ds (work end) ≡ Some (Least end)
  pub soon : end ≤ MOST_START
