-- public: what is told of a feasible plan, whether it goes one way or to and fro: its drawing, or the figures of its
-- cranes.
use Rattle.std.specs.Prelude.{◌≡◌, ℕ, ◌<◌, List, length, Option}
use Rattle.qc_model.specs.declared.direction.Direction.{Direction}
use Rattle.qc_model.specs.Rules.{Feasible}
use Rattle.qc_motion.specs.declared.track.Waypoint.{Waypoint}
use Rattle.qc_run.specs.Broken.{broken_text}
use Rattle.qc_run.specs.declared.status.Status.{Status}
use Rattle.qc_run.specs.declared.status.Status.TheVariants as status
use Rattle.qc_sheet_command.specs.declared.load.Load.{Load}
use Rattle.qc_figures.specs.Figures.{PlanView}
use Rattle.qc_figures.specs.FiguresText.{figures_text}
use Rattle.qc_figures.specs.Motions.{ArePaths, IsWay}
use Rattle.qc_figures.specs.Whole.{IsWhole}
use Rattle.qc_picture_command.specs.declared.answer.Print.{Print}
use Rattle.qc_picture_command.specs.declared.answer.Print.TheVariants.{Figures, Picture}
use Rattle.qc_picture_command.specs.declared.answer.Printed.{Printed}
use Rattle.qc_picture_command.specs.declared.answer.Printed.TheVariants as printed

-- a plan that goes this way, where it goes one, with these waypoints
abbrev pub plan_with : Load → Option Direction → List (List Waypoint) → PlanView
plan_with load way tracks = record {
  inst = load.cargo.inst;
  rows = load.cargo.moves;
  sched = load.sched;
  way = way;
  tracks = tracks;
}

-- the schedule is feasible, this is the way in which it goes where it goes one, and these are the waypoints of all
-- cranes
pub record IsPlanned (load : Load) (way : Option Direction) (tracks : List (List Waypoint)) : Type 0 where
  pub feasible : Feasible load.cargo.inst load.sched
  pub goes : IsWay load.cargo.inst load.sched way
  pub are : ArePaths load.cargo.inst load.sched way tracks
  pub all : length tracks ≡ length load.cargo.inst.cranes

-- the text is that of the figures, which make up all ticks for each crane
pub record TellsFigures (load : Load) (text : List ℕ) : Type 0 where
  pub way : Option Direction
  pub tracks : List (List Waypoint)
  pub planned : IsPlanned load way tracks
  pub text_is : text ≡ figures_text (plan_with load way tracks)
  pub whole : (k : ℕ) → k < length load.cargo.inst.cranes → IsWhole (plan_with load way tracks) k

-- the plan is feasible; of the drawing's bytes nothing is said
abbrev pub TellsPicture : Load → List ℕ → Type 0
TellsPicture load text = Feasible load.cargo.inst load.sched

-- the text is what is asked for of the plan
abbrev pub Tells : Print → Load → List ℕ → Type 0
Tells Figures = TellsFigures
Tells Picture = TellsPicture

-- what is printed, and the status
abbrev pub printed_text : Printed → List ℕ
printed_text (printed.Broken told) = broken_text told
printed_text (printed.Text text) = text

abbrev pub printed_status : Printed → Status
printed_status (printed.Broken told) = status.Broken
printed_status (printed.Text text) = status.Done
