-- public: a file of past tasks: the tasks that its records write, or the fault of the first faulty record.
use Rattle.std.specs.Prelude.{ℕ, ◌+◌, ◌-◌, List, [], ◌∷◌, length, take, drop, not, Bool, ◌&&◌, ◌||◌, nat_le, nat_lt, Result, Ok, Err}
use Rattle.std.specs.List.{list_all, list_any}
use Rattle.qc_num.specs.Reading.{◌>>=◌, each, require, with_fault}
use Rattle.qc_lines.specs.Records.{records_of}
use Rattle.qc_model.specs.Numbers.{most_tasks}
use Rattle.qc_past.specs.Fields.{is_header}
use Rattle.qc_past.specs.Past.{is_of, most_past}
use Rattle.qc_past.specs.Tasks.{task_in}
use Rattle.qc_past.specs.declared.task.PastTask.{PastTask}
use Rattle.qc_past.specs.declared.fault.PastFault.{PastFault}
use Rattle.qc_past.specs.declared.fault.PastKind.{PastKind}
use Rattle.qc_past.specs.declared.fault.PastKind.TheVariants as kind

-- the last of these tasks, and each of the n last ones, is of this call
abbrev pub ends_with : ℕ → List PastTask → List ℕ → Bool
ends_with n tasks call = nat_le n (length tasks) && list_all (is_of call) (drop (length tasks - n) tasks)

-- a task whose call isn't full, and is that of the one before or a new one
abbrev pub beside : List PastTask → PastTask → Result PastTask PastKind
beside earlier task = do
  _ ← require (not (ends_with most_tasks earlier task.call)) kind.CallFull
  _ ← require (ends_with 1 earlier task.call || not (list_any (is_of task.call) earlier)) kind.CallTwice
  Ok task

-- the task of a record after those of all records before it
abbrev pub task_after : List PastTask → List (List ℕ) → Result PastTask PastKind
task_after earlier fields = do
  _ ← require (nat_lt (length earlier) most_past) kind.TooMany
  task_in fields >>= beside earlier

-- a fault with the number of its record, from 1: the header is the first
abbrev pub numbered : {A : Type 0} → ℕ → Result A PastKind → Result A PastFault
numbered number = with_fault (λ why. record { number = number; kind = why })

-- the task of the record behind the header and those of these tasks
abbrev pub next_task : List PastTask → List (List ℕ) → Result PastTask PastFault
next_task earlier fields = numbered (length earlier + 2) (task_after earlier fields)

-- tasks, of which there is one at least
abbrev pub some_of : List PastTask → Result (List PastTask) PastFault
some_of [] = Err (record { number = 2; kind = kind.Empty })
some_of (task ∷ tasks) = Ok (task ∷ tasks)

-- the tasks of the records behind the header
abbrev pub tasks_of : List (List (List ℕ)) → Result (List PastTask) PastFault
tasks_of records = each next_task [] records >>= some_of

-- the tasks of a list of records, of which the first is the header
abbrev pub past_of : List (List (List ℕ)) → Result (List PastTask) PastFault
past_of [] = Err (record { number = 1; kind = kind.Header })
past_of (header ∷ records) =
    numbered 1 (require (is_header header) kind.Header) >>= λ _. tasks_of records

-- the tasks of a file; the record after the 10,000th task is a fault, so none behind it counts
abbrev pub past_in : List ℕ → Result (List PastTask) PastFault
past_in text = past_of (take (most_past + 2) (records_of text))
