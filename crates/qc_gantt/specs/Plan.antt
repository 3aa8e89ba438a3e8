-- public: a plan file: the schedule that its records give, or the fault of the first faulty record.
use Rattle.std.specs.Prelude.{ℕ, ◌+◌, ◌<◌, ◌^◌, List, [], ◌∷◌, length, map, Option, None, Some, option_map, ok_or, Result, Ok, Err}
use Rattle.std.specs.List.{range_with_len}
use Rattle.qc_num.specs.Reading.{◌>>=◌, each, require, with_fault}
use Rattle.qc_model.specs.declared.schedule.Slot.{Slot}
use Rattle.qc_model.specs.Instance.{InstanceView}
use Rattle.qc_model.specs.Rules.{end_of}
use Rattle.qc_lines.specs.Records.{records_of}
use Rattle.qc_gantt.specs.Entries.{entry_after, is_header, slot_given}
use Rattle.qc_gantt.specs.declared.entry.Entry.{Entry}
use Rattle.qc_gantt.specs.declared.fault.PlanFault.{PlanFault}
use Rattle.qc_gantt.specs.declared.fault.PlanKind.{PlanKind}
use Rattle.qc_gantt.specs.declared.fault.PlanKind.TheVariants as kind

-- a fault with the number of its record, from 1: the header is the first
abbrev pub numbered : {A : Type 0} → ℕ → Result A PlanKind → Result A PlanFault
numbered number = with_fault (λ why. record { number = number; kind = why })

-- the entry of the record behind the header and those of these entries
abbrev pub next_entry : InstanceView → List Entry → List (List ℕ) → Result Entry PlanFault
next_entry inst earlier fields = numbered (length earlier + 2) (entry_after inst earlier fields)

-- the slots, where each task has one
abbrev pub all_given : List (Option Slot) → Option (List Slot)
all_given [] = Some []
all_given (None ∷ rest) = None
all_given (Some slot ∷ rest) = option_map (λ slots. slot ∷ slots) (all_given rest)

-- the slot of each task of the instance, where the records give one
abbrev pub slots_given : InstanceView → List Entry → List (Option Slot)
slots_given inst entries = map (slot_given entries) (range_with_len 0 (length inst.tasks))

-- the slots that the records behind the header give
abbrev pub slots_of : InstanceView → List (List (List ℕ)) → Result (List (Option Slot)) PlanFault
slots_of inst records = do
  entries ← each (next_entry inst) [] records
  Ok (slots_given inst entries)

-- the schedule of the records behind the header; a task without one is told of the record behind the last
abbrev pub schedule_of : InstanceView → List (List (List ℕ)) → Result (List Slot) PlanFault
schedule_of inst records = do
  slots ← slots_of inst records
  numbered (length records + 2) (ok_or (all_given slots) kind.TaskMissing)

-- the schedule of a list of records, of which the first is the header
abbrev pub plan_of : InstanceView → List (List (List ℕ)) → Result (List Slot) PlanFault
plan_of inst [] = Err (record { number = 1; kind = kind.Header })
plan_of inst (header ∷ records) =
    numbered 1 (require (is_header header) kind.Header) >>= λ _. schedule_of inst records

-- the schedule of a plan file
abbrev pub plan_in : InstanceView → List ℕ → Result (List Slot) PlanFault
plan_in inst text = plan_of inst (records_of text)

-- each task ends at a tick of at most 12 digits
abbrev pub HasShortEnds : InstanceView → List Slot → Type 0
HasShortEnds inst sched = (j : ℕ) → j < length inst.tasks → end_of inst sched j < 10 ^ 12
