-- public: how far the work is: which tasks have begun, when these are over, and which are left.
use Rattle.std.specs.Prelude.{◌≡◌, ℕ, ◌<◌, length, take, count_by, Some, IsSome}
use Rattle.qc_dispatch.specs.declared.stage.Stage.TheVariants.{Waiting, Running}
use Rattle.qc_dispatch.specs.Course.{Course, end_at, is_waiting, stage_of, start_at}

-- task j has a start, whether it has ended or not
abbrev pub HasBegun : Course → ℕ → Type 0
HasBegun c j = IsSome (start_at c j)

-- task j is still to be begun
pub record IsLeft (c : Course) (j : ℕ) : Type 0 where
  pub task : j < length c.inst.tasks
  pub waits : stage_of c j ≡ Waiting

-- its number among the tasks that are left, counted from 0
abbrev pub number_of : Course → ℕ → ℕ
number_of c j = count_by is_waiting (take j c.stages)

-- when each task that has begun is over: one that has ended at its end, one that runs at some moment later than now
pub record AreOver (c : Course) (over : ℕ → ℕ) : Type 0 where
  pub ended : (j end : ℕ) → end_at c j ≡ Some end → over j ≡ end
  pub runs : (j start : ℕ) → stage_of c j ≡ Running start → c.clock < over j
