-- inner: what runs come to, one run more at a time.
use Rattle.std.specs.Prelude.{ℕ, ◌+◌, ◌==◌, Bool, List, if◌then◌else◌}
use Rattle.qc_model.specs.declared.schedule.Slot.{Slot}
use Rattle.qc_model.specs.Instance.{InstanceView}
use Rattle.qc_odds.specs.Critical.{is_marked}
use Rattle.qc_odds.specs.Runs.{crane_end, held, over}
use Rattle.qc_odds.specs.declared.sums.CraneSum.{CraneSum}
use Rattle.qc_odds.specs.declared.sums.TaskSum.{TaskSum}

-- 1 where it is so, else 0
abbrev pub one_of : Bool → ℕ
one_of is = if is then 1 else 0

-- with this run what earlier ones come to for a crane
abbrev pub with_crane_run : CraneSum → (end held : ℕ) → Bool → CraneSum
with_crane_run sum end held is = record { ends = sum.ends + end; held = sum.held + held; lasts = sum.lasts + one_of is }

abbrev pub crane_added : InstanceView → List Slot → (lengths starts : List ℕ) → (last k : ℕ) → CraneSum → CraneSum
crane_added inst plan lengths starts last k sum =
    with_crane_run sum (crane_end inst plan lengths starts k) (held inst plan lengths starts k)
    (crane_end inst plan lengths starts k == last)

-- and for a task
abbrev pub with_task_run : TaskSum → Bool → ℕ → TaskSum
with_task_run sum is over = record { critical = sum.critical + one_of is; over = sum.over + over }

abbrev pub task_added : InstanceView → (lengths : List ℕ) → (marked : List Bool) → ℕ → TaskSum → TaskSum
task_added inst lengths marked j sum = with_task_run sum (is_marked marked j) (over inst lengths marked j)
