-- inner: the work that is left at each bay, as code keeps it.
use Rattle.std.specs.Prelude.{◌≡◌, ℕ, ◌+◌, List, length, slice_index, Option}
use Rattle.qc_close.specs.Model.{work_at, InstanceView}

-- the list says how many ticks of tasks without a crane there are at each bay
pub record IsLeft (inst : InstanceView) (cranes : List (Option ℕ)) (left : List ℕ) : Type 0 where
  pub count : length left ≡ inst.bays + 1
  pub work : (x : ℕ) → slice_index left x ≡ work_at inst cranes x
