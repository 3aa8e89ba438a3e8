-- public: a log of ticks that passed, of tasks that are done, and of what tasks need still: what one line of it
-- reports.
use Rattle.std.specs.Prelude.{ℕ, List, length, not, nat_lt, if◌then◌else◌, Option, ok_or, position, Result, Ok, Err, codes}
use Rattle.std.specs.List.{after_first, before_first, list_any}
use Rattle.std.specs.Str.{bytes_eq}
use Rattle.qc_dispatch.specs.declared.fault.DispatchKind.{DispatchKind}
use Rattle.qc_dispatch.specs.declared.fault.DispatchKind.TheVariants as kind
use Rattle.qc_dispatch.specs.declared.report.Report.{Report}
use Rattle.qc_dispatch.specs.declared.report.Report.TheVariants.{Passed, Done, Left}
use Rattle.qc_lines.specs.Lines.{ended, is_space}
use Rattle.qc_model.specs.Instance.{InstanceView}
use Rattle.qc_model.specs.Tasks.{task_text}
use Rattle.qc_num.specs.Digits.{number_in}
use Rattle.qc_num.specs.Reading.{◌>>=◌, require}

-- the most lines
abbrev pub most_lines : ℕ
most_lines = 100000

-- the task of this name, counted from 0
abbrev pub task_named : InstanceView → List ℕ → Option ℕ
task_named inst name = position (λ task. bytes_eq (task_text task) name) inst.tasks

-- a number of ticks: plain decimal of at most nine digits, at least 1
abbrev pub ticks_in : List ℕ → Result ℕ DispatchKind
ticks_in number = do
  ticks ← ok_or (number_in 9 number) kind.Line
  _ ← require (nat_lt 0 ticks) kind.Line
  Ok ticks

-- which task: its name, in which no space stands
abbrev pub task_in : InstanceView → List ℕ → Result ℕ DispatchKind
task_in inst name = do
  _ ← require (nat_lt 0 (length name)) kind.Line
  _ ← require (not (list_any is_space name)) kind.Line
  ok_or (task_named inst name) kind.UnknownTask

-- which task needs how many ticks more: its name, and behind the first space the number
abbrev pub left_in : InstanceView → List ℕ → Result Report DispatchKind
left_in inst rest = do
  ticks ← ticks_in (after_first is_space rest)
  task ← task_in inst (before_first is_space rest)
  Ok (Left task ticks)

-- the three forms of a line, by the word that stands ahead of its first space
abbrev pub report_of : InstanceView → (word rest : List ℕ) → Result Report DispatchKind
report_of inst word rest =
    if bytes_eq word (codes "tick") then (ticks_in rest >>= λ ticks. Ok (Passed ticks))
    else (if bytes_eq word (codes "done") then (task_in inst rest >>= λ task. Ok (Done task))
    else (if bytes_eq word (codes "left") then left_in inst rest else Err kind.Line))

-- what a line reports, which a line feed ends
abbrev pub report_in : InstanceView → List ℕ → Result Report DispatchKind
report_in inst line = do
  text ← ok_or (ended line) kind.Line
  report_of inst (before_first is_space text) (after_first is_space text)
