-- public: what comes of the lines of a log, one after the other.
use Rattle.std.specs.Prelude.{◌≡◌, ◌≢◌, ℕ, ◌+◌, ◌<◌, ◌≤◌, ◌⊎◌, List, [], ◌∷◌, ◌++◌, map, replicate, slice_set, Option, None, Some, Ok, Err}
use Rattle.qc_dispatch.specs.declared.event.Event.{Event}
use Rattle.qc_dispatch.specs.declared.fault.DispatchFault.{DispatchFault}
use Rattle.qc_dispatch.specs.declared.fault.DispatchKind.{DispatchKind}
use Rattle.qc_dispatch.specs.declared.fault.DispatchKind.TheVariants as kind
use Rattle.qc_dispatch.specs.declared.follow.Remaining.{Remaining}
use Rattle.qc_dispatch.specs.declared.grant.Grant.{Grant}
use Rattle.qc_dispatch.specs.declared.report.Report.{Report}
use Rattle.qc_dispatch.specs.declared.report.Report.TheVariants.{Passed, Done, Left}
use Rattle.qc_dispatch.specs.declared.stage.Stage.TheVariants.{Running}
use Rattle.qc_dispatch.specs.Calls.{opening}
use Rattle.qc_dispatch.specs.Course.{Course, IsEnded, IsGranted, IsPassed, stage_of}
use Rattle.qc_dispatch.specs.Events.{finished_event, started_event}
use Rattle.qc_dispatch.specs.Log.{most_lines, report_in}
use Rattle.qc_lines.specs.Lines.{lines_of}
use Rattle.qc_model.specs.declared.schedule.Slot.{Slot}
use Rattle.qc_model.specs.Instance.{InstanceView}
use Rattle.qc_model.specs.Numbers.{most_tasks}

-- the starts that come until this tick, each at the first moment at which some task may start, and the course then
abbrev pub Goes : Course → (to : ℕ) → List Grant → Course → Type 0
Goes old to [] new = IsPassed old to new
Goes old to (grant ∷ grants) new = (next : Course) × IsGranted old to grant next × Goes next to grants new

-- the course of the work, what happened so far, and for each task what it was last reported to need still
pub record Journal : Type 0 where
  pub course : Course
  pub events : List Event
  pub remaining : List (Option Remaining)

-- the course went on until this tick
pub record WentOn (old : Journal) (to : ℕ) (new : Journal) : Type 0 where
  pub grants : List Grant
  pub goes : Goes old.course to grants new.course
  pub events : new.events ≡ old.events ++ map (started_event old.course.inst) grants
  pub remaining : new.remaining ≡ old.remaining

-- this task ended, and what may start then did
pub record TookEnd (old : Journal) (task : ℕ) (new : Journal) : Type 0 where
  pub after : Course
  pub ended : IsEnded old.course task after
  pub went : WentOn (record old { course = after; events = old.events ++ finished_event after.inst task after.clock ∷ [] }) after.clock new

-- this task, which runs, needs so many ticks from now on; nothing else changes
pub record TookLeft (old : Journal) (task ticks : ℕ) (new : Journal) : Type 0 where
  pub start : ℕ
  pub runs : stage_of old.course task ≡ Running start
  pub after : new ≡ record old {
    remaining = slice_set old.remaining task (Some (record { ticks = ticks; at = old.course.clock }));
  }

-- a report was followed
abbrev pub Follows : Journal → Report → Journal → Type 0
Follows old (Passed ticks) new = WentOn old (old.course.clock + ticks) new
Follows old (Done task) new = TookEnd old task new
Follows old (Left task ticks) new = TookLeft old task ticks new

-- a line behind so many others was followed
pub record TakesLine (old : Journal) (before : ℕ) (line : List ℕ) (new : Journal) : Type 0 where
  pub few : before < most_lines
  pub report : Report
  pub read : report_in old.course.inst line ≡ Ok report
  pub follows : Follows old report new

-- the report is of a task that doesn't run
abbrev pub IsIdle : Course → Report → Type 0
IsIdle old (Passed ticks) = ⊥
IsIdle old (Done task) = (start : ℕ) → stage_of old task ≢ Running start
IsIdle old (Left task ticks) = (start : ℕ) → stage_of old task ≢ Running start

-- a line reports of a task that doesn't run
pub record IsToldIdle (old : Course) (line : List ℕ) : Type 0 where
  pub report : Report
  pub read : report_in old.inst line ≡ Ok report
  pub idle : IsIdle old report

-- what is wrong with a line behind so many others
abbrev pub HasFault : Journal → (before : ℕ) → List ℕ → DispatchKind → Type 0
HasFault old before line kind.TooMany = most_lines ≤ before
HasFault old before line kind.NotRunning = (before < most_lines) × IsToldIdle old.course line
HasFault old before line why = (before < most_lines) × (report_in old.course.inst line ≡ Err why)

-- all lines were followed, so many being before them
abbrev pub TakesAll : Journal → (before : ℕ) → List (List ℕ) → Journal → Type 0
TakesAll old before [] new = new ≡ old
TakesAll old before (line ∷ lines) new =
    (next : Journal) × TakesLine old before line next × TakesAll next (before + 1) lines new

-- some line has a fault, and those before it were followed
abbrev pub HasFirstFault : Journal → (before : ℕ) → List (List ℕ) → DispatchFault → Type 0
HasFirstFault old before [] fault = ⊥
HasFirstFault old before (line ∷ lines) fault =
    (HasFault old before line fault.kind × (fault.line ≡ before + 1))
    ⊎ ((next : Journal) × TakesLine old before line next × HasFirstFault next (before + 1) lines fault)

-- nothing happened yet
abbrev pub blank : InstanceView → List Slot → Journal
blank inst plan = record { course = opening inst plan; events = []; remaining = replicate most_tasks None }

-- what comes of a whole log: what may start at once does, and then line follows line
pub record IsFollowed (inst : InstanceView) (plan : List Slot) (text : List ℕ) (new : Journal) : Type 0 where
  pub first : Journal
  pub begins : WentOn (blank inst plan) 0 first
  pub takes : TakesAll first 0 (lines_of text) new

pub record IsFaulty (inst : InstanceView) (plan : List Slot) (text : List ℕ) (fault : DispatchFault) : Type 0 where
  pub first : Journal
  pub begins : WentOn (blank inst plan) 0 first
  pub faulty : HasFirstFault first 0 (lines_of text) fault
