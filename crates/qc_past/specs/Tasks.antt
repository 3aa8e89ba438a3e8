-- public: one record of a file of past tasks, read by itself.
use Rattle.std.specs.Prelude.{ℕ, List, length, ◌==◌, Option, Result, Ok}
use Rattle.qc_num.specs.Reading.{◌>>=◌, require}
use Rattle.qc_lines.specs.Records.{field_of}
use Rattle.qc_model.specs.declared.task.Phase.{Phase}
use Rattle.qc_past.specs.Fields.{is_call, is_one_unit, length_in, phase_in}
use Rattle.qc_past.specs.declared.task.PastTask.{PastTask}
use Rattle.qc_past.specs.declared.fault.PastKind.{PastKind}
use Rattle.qc_past.specs.declared.fault.PastKind.TheVariants as kind

-- the task of these fields, where its real length isn't out of all proportion
abbrev pub task_of : List ℕ → Option Phase → (planned real : ℕ) → Result PastTask PastKind
task_of call phase planned real = do
  _ ← require (is_one_unit planned real) kind.TooLong
  Ok (record { call = call; phase = phase; planned = planned; real = real })

-- the task that the fields of a record write, or the first fault of them
abbrev pub task_in : List (List ℕ) → Result PastTask PastKind
task_in fields = do
  _ ← require (length fields == 4) kind.Fields
  _ ← require (is_call (field_of fields 0)) kind.Call
  phase ← phase_in (field_of fields 1)
  planned ← length_in (field_of fields 2)
  real ← length_in (field_of fields 3)
  task_of (field_of fields 0) phase planned real
