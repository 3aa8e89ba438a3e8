-- public: past tasks, call by call.
use Rattle.std.specs.Prelude.{◌≡◌, ◌≢◌, ℕ, ◌+◌, ◌-◌, ◌*◌, ◌<◌, ◌≤◌, List, [], length, get_or, All, Bool, not, ◌||◌, ◌==◌, IsTrue, None}
use Rattle.std.specs.List.{filter, range_with_len, slice_range}
use Rattle.std.specs.Str.{bytes_eq}
use Rattle.qc_model.specs.Numbers.{most_tasks}
use Rattle.qc_past.specs.Fields.{is_call, most_times}
use Rattle.qc_past.specs.declared.task.PastTask.{PastTask}

-- the most past tasks
abbrev pub most_past : ℕ
most_past = 10000

-- what stands for a task past the end
abbrev pub no_past : PastTask
no_past = record { call = []; phase = None; planned = 0; real = 0 }

abbrev pub past_task : List PastTask → ℕ → PastTask
past_task tasks i = get_or tasks i no_past

-- the call in which the task at a place was worked
abbrev pub call_at : List PastTask → ℕ → List ℕ
call_at tasks i = (past_task tasks i).call

-- the task is of this call
abbrev pub is_of : List ℕ → PastTask → Bool
is_of call task = bytes_eq call task.call

-- what each past task keeps
pub record IsPastTask (task : PastTask) : Type 0 where
  pub call_is : IsTrue (is_call task.call)
  pub planned_is : (1 ≤ task.planned) × (task.planned < 1000000000)
  pub real_is : (1 ≤ task.real) × (task.real < 1000000000)
  pub unit_is : task.real ≤ most_times * task.planned

-- what past tasks keep: there is one at least and not too many of them; those of one call stand together, no
-- more than an instance has tasks
pub record ArePast (tasks : List PastTask) : Type 0 where
  pub some : 1 ≤ length tasks
  pub count : length tasks ≤ most_past
  pub each_one : All IsPastTask tasks
  pub together : (i j k : ℕ) → i < j → j < k → k < length tasks → call_at tasks i ≡ call_at tasks k
      → call_at tasks i ≡ call_at tasks j
  pub of_call : (i : ℕ) → i + most_tasks < length tasks → call_at tasks i ≢ call_at tasks (i + most_tasks)

-- a call begins with the task at this place: it is the first, or the one before it is of another call
abbrev pub begins : List PastTask → ℕ → Bool
begins tasks i = (i == 0) || not (bytes_eq (call_at tasks i) (call_at tasks (i - 1)))

-- the places at which calls begin; calls are numbered in this order, from 0
abbrev pub call_starts : List PastTask → List ℕ
call_starts tasks = filter (begins tasks) (range_with_len 0 (length tasks))

-- where a call begins; past the last call, where the tasks end
abbrev pub call_start : List PastTask → ℕ → ℕ
call_start tasks number = get_or (call_starts tasks) number (length tasks)

-- the tasks of a call: from where it begins to where the next one does
abbrev pub tasks_of_call : List PastTask → ℕ → List PastTask
tasks_of_call tasks number = slice_range tasks (call_start tasks number) (call_start tasks (number + 1))
