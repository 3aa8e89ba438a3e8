-- public: the lengths that tasks take in a run.
use Rattle.std.specs.Prelude.{◌≡◌, ℕ, ◌*◌, ◌<◌, ◌≤◌, ◌%◌, List, [], length, get_or, slice_index}
use Rattle.std.specs.Int.{div_ceil}
use Rattle.qc_model.specs.declared.task.Task.{Task}
use Rattle.qc_model.specs.Instance.{InstanceView, task}
use Rattle.qc_model.specs.Numbers.{most_work}
use Rattle.qc_model.specs.Tasks.{task_text}
use Rattle.qc_past.specs.Fields.{most_times}
use Rattle.qc_past.specs.Past.{call_starts, no_past, tasks_of_call}
use Rattle.qc_past.specs.declared.task.PastTask.{PastTask}
use Rattle.qc_odds.specs.Draws.{draw}
use Rattle.qc_odds.specs.Pools.{pool_of}

-- one of some past tasks, drawn by a number
abbrev pub picked : List PastTask → ℕ → PastTask
picked tasks number = get_or tasks (number % length tasks) no_past

-- how long a task takes that is as much longer or shorter than planned as a past one was, rounded up
abbrev pub as_long_as : Task → PastTask → ℕ
as_long_as task past = div_ceil (task.ticks * past.real) past.planned

-- the number of the call from which a run draws
abbrev pub call_of_run : List PastTask → (seed run : ℕ) → ℕ
call_of_run past seed run = draw seed run [] % length (call_starts past)

-- how long a task takes in a run: as a past task of that run's call, drawn by the task's name
abbrev pub length_of : List PastTask → (seed run : ℕ) → Task → ℕ
length_of past seed run task =
    as_long_as task (picked (pool_of task (tasks_of_call past (call_of_run past seed run))) (draw seed run (task_text task)))

-- the longest that a task takes in a run
abbrev pub most_length : ℕ
most_length = most_times * most_work

-- the lengths of all tasks in a run
pub record AreDrawn (past : List PastTask) (inst : InstanceView) (seed run : ℕ) (lengths : List ℕ) : Type 0 where
  pub count : length lengths ≡ length inst.tasks
  pub each_one : (j : ℕ) → j < length inst.tasks → slice_index lengths j ≡ length_of past seed run (task inst j)

-- lengths of which each takes a tick at least
pub record AreLengths (inst : InstanceView) (lengths : List ℕ) : Type 0 where
  pub count : length lengths ≡ length inst.tasks
  pub some : (j : ℕ) → j < length inst.tasks → 1 ≤ slice_index lengths j
  pub few : (j : ℕ) → j < length inst.tasks → slice_index lengths j ≤ most_length
