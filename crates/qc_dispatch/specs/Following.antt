-- public: what a log that is followed comes to.
use Rattle.std.specs.Prelude.{◌≡◌, ℕ, ◌+◌, ◌<◌, ◌≤◌, ◌⊎◌, List, [], ◌∷◌, length, Result, Ok, Err, ⊤}
use Rattle.qc_dispatch.specs.declared.fault.DispatchFault.{DispatchFault}
use Rattle.qc_dispatch.specs.declared.fault.DispatchKind.{DispatchKind}
use Rattle.qc_dispatch.specs.declared.follow.Followed.{Followed}
use Rattle.qc_dispatch.specs.declared.follow.Refused.{Refused}
use Rattle.qc_dispatch.specs.declared.follow.Refused.TheVariants as refused
use Rattle.qc_dispatch.specs.declared.report.Report.{Report}
use Rattle.qc_dispatch.specs.declared.report.Report.TheVariants.{Passed, Done, Left}
use Rattle.qc_dispatch.specs.Journal.{Follows, HasFault, HasFirstFault, IsFaulty, IsFollowed, IsIdle, Journal, TakesAll, TakesLine}
use Rattle.qc_model.specs.declared.schedule.Slot.{Slot}
use Rattle.qc_model.specs.Instance.{InstanceView}
use Rattle.qc_num.specs.declared.read_error.ReadError.{ReadError}
use Rattle.qc_num.specs.declared.read_error.ReadError.TheVariants.{Fault, OutOfMemory}

abbrev pub journal_of : Followed → Journal
journal_of f = record { course = f.dispatch; events = f.events.items; remaining = f.remaining.items }

-- the most ticks of one line
abbrev pub most_passed : ℕ
most_passed = 999999999

-- a report of at most nine digits, and of a task of the instance
abbrev pub IsShort : InstanceView → Report → Type 0
IsShort inst (Passed ticks) = ticks ≤ most_passed
IsShort inst (Done task) = task < length inst.tasks
IsShort inst (Left task ticks) = (task < length inst.tasks) × (ticks ≤ most_passed)

-- a report was followed, or the task that it names doesn't run; memory is asked for only where that isn't so
abbrev pub IsTaken : {T : Type 0} → Journal → Report → Result T Refused → Journal → Type 0
IsTaken old report (Ok taken) new = Follows old report new
IsTaken old report (Err refused.OutOfMemory) new = ¬ IsIdle old.course report
IsTaken old report (Err refused.NotRunning) new = IsIdle old.course report

-- the line has no fault
abbrev pub IsGood : Journal → (before : ℕ) → List ℕ → Type 0
IsGood old before line = (why : DispatchKind) → ¬ HasFault old before line why

-- a line was followed, or it has the first fault, or it is good and memory ran out
abbrev pub IsLineTaken : {T : Type 0} → Journal → (before : ℕ) → List ℕ → Result T (ReadError DispatchFault) → Journal → Type 0
IsLineTaken old before line (Ok taken) new = TakesLine old before line new
IsLineTaken old before line (Err (Fault fault)) new = HasFault old before line fault.kind × (fault.line ≡ before + 1)
IsLineTaken old before line (Err OutOfMemory) new = IsGood old before line

-- memory ran out at a good line, and those before it were followed
abbrev pub RunsOut : Journal → (before : ℕ) → List (List ℕ) → Type 0
RunsOut old before [] = ⊥
RunsOut old before (line ∷ lines) =
    IsGood old before line ⊎ ((next : Journal) × TakesLine old before line next × RunsOut next (before + 1) lines)

-- all lines were followed, or one of them has the first fault, or memory ran out at a good one
abbrev pub AreTaken : {T : Type 0} → Journal → List (List ℕ) → Result T (ReadError DispatchFault) → Journal → Type 0
AreTaken old lines (Ok taken) new = TakesAll old 0 lines new
AreTaken old lines (Err (Fault fault)) new = HasFirstFault old 0 lines fault
AreTaken old lines (Err OutOfMemory) new = RunsOut old 0 lines

-- the whole log; memory is asked for ahead of its first line
abbrev pub IsFollowing : InstanceView → List Slot → List ℕ → Result Followed (ReadError DispatchFault) → Type 0
IsFollowing inst plan text (Ok followed) = IsFollowed inst plan text (journal_of followed)
IsFollowing inst plan text (Err (Fault fault)) = IsFaulty inst plan text fault
IsFollowing inst plan text (Err OutOfMemory) = ⊤
