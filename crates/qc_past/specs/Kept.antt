-- inner: what is kept of past tasks.
use Rattle.std.specs.Prelude.{◌≡◌, ℕ, List}
use Rattle.qc_past.specs.Past.{ArePast, call_starts}
use Rattle.qc_past.specs.declared.task.PastTask.{PastTask}

pub record IsKept (tasks : List PastTask) (starts : List ℕ) : Type 0 where
  pub past : ArePast tasks
  pub starts_are : starts ≡ call_starts tasks
