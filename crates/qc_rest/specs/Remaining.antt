-- public: when what runs is over, as far as a log tells.
use Rattle.std.specs.Prelude.{◌≡◌, ℕ, ◌+◌, ◌-◌, ◌<◌, ◌≤◌, List, length, map, filter, Option, None, Some, slice_index_or}
use Rattle.std.specs.List.{range_with_len}
use Rattle.std.specs.Option.{unwrap_or}
use Rattle.qc_dispatch.specs.declared.follow.Remaining.{Remaining}
use Rattle.qc_dispatch.specs.declared.stage.Stage.TheVariants.{Running}
use Rattle.qc_dispatch.specs.Course.{end_at, is_running, stage_of}
use Rattle.qc_dispatch.specs.Journal.{Journal}
use Rattle.qc_dispatch.specs.Worked.{begun_at}
use Rattle.qc_model.specs.Instance.{ticks_of}
use Rattle.qc_model.specs.Rules.{crane_of}
use Rattle.qc_rest.specs.declared.remains.StillRuns.{StillRuns}

-- what is left now of ticks that were reported at some moment; where none were, what is left of the planned length
abbrev pub left_of : Option Remaining → (now planned_end : ℕ) → ℕ
left_of None now planned_end = planned_end - now
left_of (Some reported) now planned_end = reported.ticks - (now - reported.at)

-- the ticks that task i, which runs, still needs
abbrev pub remaining : Journal → ℕ → ℕ
remaining j i = left_of (slice_index_or j.remaining i None) j.course.clock (begun_at j.course i + ticks_of j.course.inst i)

-- when task i is over: at its end, or once it has had the ticks that it still needs
abbrev pub over_at : Journal → ℕ → ℕ
over_at j i = unwrap_or (end_at j.course i) (j.course.clock + remaining j i)

-- each task that runs needs a tick more at the least: else its end isn't reported yet
abbrev pub NoneIsDue : Journal → Type 0
NoneIsDue j = (i start : ℕ) → stage_of j.course i ≡ Running start → 1 ≤ remaining j i

-- task i runs, and has had the ticks that it needs: its end isn't reported yet
pub record IsDue (j : Journal) (i : ℕ) : Type 0 where
  pub start : ℕ
  pub runs : stage_of j.course i ≡ Running start
  pub none : remaining j i ≡ 0

-- it is the lowest of those
pub record IsFirstDue (j : Journal) (i : ℕ) : Type 0 where
  pub task : i < length j.course.inst.tasks
  pub due : IsDue j i
  pub lowest : (h : ℕ) → h < i → ¬ IsDue j h

-- the tasks that run, and what each still needs
abbrev pub still_runs : Journal → ℕ → StillRuns
still_runs j i = record { task = i; crane = crane_of j.course.plan i; ticks = remaining j i }

abbrev pub running_of : Journal → List StillRuns
running_of j =
    map (still_runs j) (filter (λ i. is_running (stage_of j.course i)) (range_with_len 0 (length j.course.inst.tasks)))
