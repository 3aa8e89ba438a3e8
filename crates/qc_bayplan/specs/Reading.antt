-- public: the bay plan of a file, or the fault of its first faulty segment.
use Rattle.std.specs.Prelude.{ℕ, ◌+◌, List, [], ◌∷◌, ◌++◌, option_to_list, not, ◌&&◌, if◌then◌else◌, Option, None, Some, Result, Ok, Err}
use Rattle.qc_num.specs.Reading.{◌>>=◌, require, with_fault}
use Rattle.qc_num.specs.declared.read_error.ReadError.{ReadError}
use Rattle.qc_num.specs.declared.read_error.ReadError.TheVariants.{Fault, OutOfMemory}
use Rattle.qc_ship.specs.Cells.{CellView}
use Rattle.qc_edifact.specs.Cuts.{Elements}
use Rattle.qc_edifact.specs.Segments.{Entry, segments_in}
use Rattle.qc_edifact.specs.Texts.{plain_text}
use Rattle.qc_edifact.specs.declared.segments.NoSigns.{NoSigns}
use Rattle.qc_edifact.specs.declared.segments.SegmentFault.TheVariants.{TooLong, Cut}
use Rattle.qc_bayplan.specs.Containers.{next_container}
use Rattle.qc_bayplan.specs.Courses.{beginning, course_behind, free_place, is_container, is_equipment, is_over, may_come, one_if, tag_in}
use Rattle.qc_bayplan.specs.Plan.{PlanView}
use Rattle.qc_bayplan.specs.declared.container.Found.{Found}
use Rattle.qc_bayplan.specs.declared.course.Course.{Course}
use Rattle.qc_bayplan.specs.declared.course.Place.{Place}
use Rattle.qc_bayplan.specs.declared.fault.BayPlanFault.{BayPlanFault}
use Rattle.qc_bayplan.specs.declared.fault.BayPlanKind.{BayPlanKind}
use Rattle.qc_bayplan.specs.declared.fault.BayPlanKind.TheVariants as kind
use Rattle.qc_bayplan.specs.declared.plan.Container.{Container}
use Rattle.qc_bayplan.specs.declared.plan.Which.{Which}
use Rattle.qc_bayplan.specs.declared.stage.Tag.{Tag}
use Rattle.qc_bayplan.specs.declared.step.Step.{Step}

-- what the open place of an EQD of a container tells of its cell, where none stands there yet
abbrev pub container_place : Tag → Elements → Option Place → Option (Result CellView BayPlanKind)
container_place tag segment place =
    if is_equipment tag && is_container segment then free_place place else None

-- the container that a segment tells after the earlier ones, if its place wants one
abbrev pub found_in : Which → List Container → Elements → Option (Result CellView BayPlanKind)
    → Result (Option Found) BayPlanKind
found_in which earlier segment None = Ok None
found_in which earlier segment (Some place) = do
  found ← next_container which earlier place segment
  Ok (Some found)

-- the container that was found, as a list
abbrev pub found_containers : Option Found → List Container
found_containers None = []
found_containers (Some found) = found.container ∷ []

-- where a segment leads, with the container that it tells
abbrev pub step_to : Course → Option Found → Step
step_to course None = record { course = course; container = None }
step_to course (Some found) = record {
  course = record course { unnamed = course.unnamed + one_if found.unnamed };
  container = Some found.container;
}

-- the step of a segment by its tag; of a container the step takes both parts
abbrev pub step_by : Which → ℕ → Course → List Container → Elements → Tag
    → Result Step BayPlanKind
step_by which number course earlier segment tag = do
  found ← found_in which earlier segment (container_place tag segment course.place)
  behind ← course_behind number tag segment course
  Ok (step_to behind found)

-- the step of the segment of this number
abbrev pub step_of : Which → ℕ → Course → List Container → Elements → Result Step BayPlanKind
step_of which number course earlier segment = do
  tag ← tag_in segment
  _ ← require (may_come course.stage tag) kind.Place
  step_by which number course earlier segment tag

-- the segment that comes next, if it is one
abbrev pub segment_in : Entry → Result Elements BayPlanKind
segment_in (Ok segment) = Ok segment
segment_in (Err TooLong) = Err kind.TooLong
segment_in (Err Cut) = Err kind.Cut

-- the step of what comes next
abbrev pub next_step : Which → ℕ → Course → List Container → Entry → Result Step BayPlanKind
next_step which number course earlier entry = do
  _ ← require (not (is_over course.stage)) kind.After
  segment ← segment_in entry
  step_of which number course earlier segment

-- a fault with the number of its segment
abbrev pub fault_at : ℕ → BayPlanKind → BayPlanFault
fault_at number why = record { number = number; kind = why }

-- an error with the number of its segment
abbrev pub error_at : ℕ → ReadError BayPlanKind → ReadError BayPlanFault
error_at number (Fault why) = Fault (fault_at number why)
error_at number OutOfMemory = OutOfMemory

-- the plan where it is over, and else the fault that the file is cut
abbrev pub plan_of : ℕ → Course → List Container → Result PlanView BayPlanFault
plan_of number course containers = if is_over course.stage
    then Ok (record {
      containers = containers;
      unnamed = course.unnamed;
      bundled = course.bundled;
      other = course.other;
    })
    else Err (fault_at number kind.Cut)

-- the plan of what is still to come, from the segment of this number on
abbrev pub plan_from : Which → ℕ → Course → List Container → List Entry
    → Result PlanView BayPlanFault
plan_from which number course earlier [] = plan_of number course earlier
plan_from which number course earlier (entry ∷ entries) = do
  step ← with_fault (fault_at number) (next_step which number course earlier entry)
  plan_from which (number + 1) step.course (earlier ++ option_to_list step.container) entries

-- the plan of segments, if their signs could be told
abbrev pub plan_by : Which → Result (List Entry) NoSigns → Result PlanView BayPlanFault
plan_by which (Ok entries) = plan_from which 1 beginning [] entries
plan_by which (Err _) = Err (fault_at 0 kind.Una)

-- the bay plan of a file, or its first fault
abbrev pub bay_plan_in : Which → List ℕ → Result PlanView BayPlanFault
bay_plan_in which bytes = plan_by which (segments_in (plain_text bytes))
