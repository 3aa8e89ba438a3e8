-- public: one record of a plan file, and the slots that some records give.
use Rattle.std.specs.Prelude.{ℕ, ◌+◌, List, length, not, Bool, ◌&&◌, ◌==◌, find, is_some, Option, None, option_map, ok_or, slice_index_or, Result, Ok, codes}
use Rattle.std.specs.Str.{bytes_eq}
use Rattle.qc_num.specs.Digits.{number_in}
use Rattle.qc_num.specs.Reading.{◌>>=◌, require}
use Rattle.qc_model.specs.declared.schedule.Slot.{Slot}
use Rattle.qc_model.specs.Instance.{InstanceView, ticks_of}
use Rattle.qc_lines.specs.Records.{field_of}
use Rattle.qc_gantt.specs.Names.{crane_names, number_of, task_names}
use Rattle.qc_gantt.specs.declared.entry.Entry.{Entry}
use Rattle.qc_gantt.specs.declared.fault.PlanKind.{PlanKind}
use Rattle.qc_gantt.specs.declared.fault.PlanKind.TheVariants as kind

-- the four names of the columns
abbrev pub is_header : List (List ℕ) → Bool
is_header fields =
    (length fields == 4) && bytes_eq (field_of fields 0) (codes "task")
    && bytes_eq (field_of fields 1) (codes "crane") && bytes_eq (field_of fields 2) (codes "start")
    && bytes_eq (field_of fields 3) (codes "end")

-- the slot of a task that ends when it must
abbrev pub ends_as : InstanceView → (task crane start end : ℕ) → Result Entry PlanKind
ends_as inst task crane start end = do
  _ ← require (end == start + ticks_of inst task) kind.EndWrong
  Ok (record { task = task; slot = record { crane = crane; start = start } })

-- the task, the crane and the start that the fields of a record name, or the first fault of them
abbrev pub entry_in : InstanceView → List (List ℕ) → Result Entry PlanKind
entry_in inst fields = do
  _ ← require (length fields == 4) kind.Fields
  task ← ok_or (number_of (task_names inst) (field_of fields 0)) kind.UnknownTask
  crane ← ok_or (number_of (crane_names inst) (field_of fields 1)) kind.UnknownCrane
  start ← ok_or (number_in 12 (field_of fields 2)) kind.Number
  end ← ok_or (number_in 12 (field_of fields 3)) kind.Number
  ends_as inst task crane start end

-- the slot that some records give a task
abbrev pub slot_given : List Entry → ℕ → Option Slot
slot_given entries task = option_map (λ e. e.slot) (find (λ e. e.task == task) entries)

-- an entry whose task none of the earlier records has
abbrev pub new_to : List Entry → Entry → Result Entry PlanKind
new_to earlier entry = do
  _ ← require (not (is_some (slot_given earlier entry.task))) kind.TaskTwice
  Ok entry

-- the entry of a record after those of all records before it
abbrev pub entry_after : InstanceView → List Entry → List (List ℕ) → Result Entry PlanKind
entry_after inst earlier fields = entry_in inst fields >>= new_to earlier

-- the same where the slots of the tasks so far are kept
abbrev pub beside : List (Option Slot) → Entry → Result Entry PlanKind
beside slots entry = do
  _ ← require (not (is_some (slice_index_or slots entry.task None))) kind.TaskTwice
  Ok entry

abbrev pub entry_beside : InstanceView → List (Option Slot) → List (List ℕ) → Result Entry PlanKind
entry_beside inst slots fields = entry_in inst fields >>= beside slots
