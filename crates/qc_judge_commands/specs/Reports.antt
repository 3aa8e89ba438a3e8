-- public: what goes out of the report of a plan that is shown.
use Rattle.std.specs.Prelude.{◌≡◌, ◌≤◌, ◌⊎◌, ℕ, List, ◌++◌, length, Option, Result, OnErr, OnOk, ⊤}
use Rattle.std.specs.Io.KnownBytes.{append_known}
use Rattle.qc_gantt.specs.GanttText.{gantt_text}
use Rattle.qc_gantt.specs.TracksText.{AreTracks, tracks_text}
use Rattle.qc_io.specs.declared.writing.WriteFault.{WriteFault}
use Rattle.qc_io.specs.Outside.{GrewByPart, View}
use Rattle.qc_io.specs.Writes.{Writes}
use Rattle.qc_model.specs.Judge.{Goes, IsJudgeable}
use Rattle.qc_motion.specs.declared.track.Waypoint.{Waypoint}
use Rattle.qc_run.specs.declared.status.Status.{Status}
use Rattle.qc_run.specs.declared.status.Status.TheVariants as status
use Rattle.qc_run.specs.Account.{Reporting}
use Rattle.qc_run.specs.Reports.{Printing, Prints, PrintsPart}
use Rattle.qc_judge_commands.specs.declared.answer.Shown.{Shown}
use Rattle.qc_judge_commands.specs.declared.answer.Showing.{Showing}
use Rattle.qc_judge_commands.specs.declared.answer.Showing.TheVariants as showing
use Rattle.qc_run.specs.Broken.{broken_text}
use Rattle.qc_judge_commands.specs.Texts.{shown_head}

-- the plan's motion can be told: it goes its way, and the track has room for it
pub record IsShowReady (told : Shown) : Type 0 where
  pub judgeable : IsJudgeable told.inst told.sched
  pub goes : Goes told.inst told.sched told.direction
  pub room : length told.inst.tasks ≤ told.track.tasks

abbrev pub CanBeShown : Showing → Type 0
CanBeShown (showing.Broken told) = Unit {0}
CanBeShown (showing.Shown told) = IsShowReady told

-- the direction, the end and the lines of cranes with these waypoints
abbrev pub lines_text : Shown → List (List Waypoint) → List ℕ
lines_text told tracks = shown_head told.inst told.sched told.direction ++ tracks_text told.inst.cranes tracks

-- and the Gantt text behind them
abbrev pub shown_text : Shown → List (List Waypoint) → List ℕ
shown_text told tracks = lines_text told tracks ++ gantt_text told.inst told.sched

-- the report of a plan that is shown went out: its direction and end, the motion of every crane, and the Gantt text
pub record IsShownPrinted (told : Shown) (before after : Option (List ℕ)) : Type 0 where
  pub tracks : List (List Waypoint)
  pub are : AreTracks told.inst told.sched told.direction tracks
  pub all : length tracks ≡ length told.inst.cranes
  pub bytes : after ≡ append_known before (shown_text told tracks)

-- a front part went out of these lines, or of the whole where they are those of all cranes
abbrev pub GrewByLines : Shown → List (List Waypoint) → (before after : Option (List ℕ)) → Type 0
GrewByLines told tracks before after =
    GrewByPart before after (lines_text told tracks)
    ⊎ ((length tracks ≡ length told.inst.cranes) × GrewByPart before after (shown_text told tracks))

-- a front part of that report went out
pub record IsShownCut (told : Shown) (before after : Option (List ℕ)) : Type 0 where
  pub tracks : List (List Waypoint)
  pub are : AreTracks told.inst told.sched told.direction tracks
  pub part : GrewByLines told tracks before after

-- what is printed for a plan that is shown, and what where the sink failed on the way
abbrev pub showing_prints : Showing → Printing
showing_prints (showing.Broken told) = Prints (broken_text told)
showing_prints (showing.Shown told) = IsShownPrinted told

abbrev pub showing_prints_part : Showing → Printing
showing_prints_part (showing.Broken told) = PrintsPart (broken_text told)
showing_prints_part (showing.Shown told) = IsShownCut told

abbrev pub showing_status : Showing → Status
showing_status (showing.Broken told) = status.Broken
showing_status (showing.Shown told) = status.Done

abbrev pub showing_report : Reporting Showing
showing_report = record { whole = showing_prints; part = showing_prints_part; status = showing_status }

-- what a call says that writes the report of a plan that is shown
pub record WritesShown (before after : View) (told : Shown) (result : Result ⊤ WriteFault) : Type 0 where
  pub tracks : List (List Waypoint)
  pub are : AreTracks told.inst told.sched told.direction tracks
  pub all : OnOk result (length tracks ≡ length told.inst.cranes)
  pub writes : Writes before after (shown_text told tracks) result
  pub part : OnErr result (GrewByLines told tracks before.written after.written)
