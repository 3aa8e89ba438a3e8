-- public: what the files that a command reads come to, with the order of refusals.
use Rattle.std.specs.Prelude.{ℕ, List, length, nat_le, if◌then◌else◌, Option, Some, None, option_and_then, Result, Ok, Err}
use Rattle.std.specs.FinMap.{get}
use Rattle.qc_num.specs.Reading.{◌>>=◌, with_fault}
use Rattle.qc_io.specs.Outside.{Files}
use Rattle.qc_bayplan.specs.Plan.{PlanView}
use Rattle.qc_bayplan.specs.Reading.{bay_plan_in}
use Rattle.qc_bayplan.specs.declared.plan.Which.{Which}
use Rattle.qc_bayplan.specs.declared.plan.Which.TheVariants.{Arrival, Departure}
use Rattle.qc_gantt.specs.Plan.{plan_in}
use Rattle.qc_model.specs.declared.schedule.Slot.{Slot}
use Rattle.qc_model.specs.Instance.{InstanceView, with_turn}
use Rattle.qc_past.specs.PastFile.{past_in}
use Rattle.qc_past.specs.declared.task.PastTask.{PastTask}
use Rattle.qc_ship.specs.Ship.{ShipView}
use Rattle.qc_ship.specs.ShipFile.{ship_file}
use Rattle.qc_ship.specs.Keys.{fault}
use Rattle.qc_ship.specs.declared.fault.Key.TheVariants as key
use Rattle.qc_ship.specs.declared.fault.ShipKind.TheVariants as kind
use Rattle.qc_stow.specs.declared.row.Row.{Row}
use Rattle.qc_stow.specs.Stow.{moves_in}
use Rattle.qc_tasks.specs.Rings.{tasks_due}
use Rattle.qc_watch.specs.declared.report.Report.{Report}
use Rattle.qc_watch.specs.Log.{reports_in}
use Rattle.qc_run.specs.declared.inputs.Input.{Input}
use Rattle.qc_run.specs.declared.inputs.Input.TheVariants as input
use Rattle.qc_run.specs.Inputs.{Names, PerInput, input_of, of_input}
use Rattle.qc_run.specs.declared.refusal.Refusal.{Refusal}
use Rattle.qc_run.specs.declared.refusal.Refusal.TheVariants as refusal
use Rattle.qc_run.specs.declared.bay_plans.BayPlans.{BayPlans}
use Rattle.qc_run.specs.declared.reading.Job.{Job}
use Rattle.qc_run.specs.declared.reading.OwnJob.{OwnJob}
use Rattle.qc_run.specs.declared.refusal.LogFault.TheVariants as log
use Rattle.qc_run.specs.declared.watched.Watched.{Watched}

-- the bytes of the files that are read; none where one isn't held or isn't read; and the turn that is asked about
abbrev pub Contents : Type 0
Contents = PerInput

-- the same, as if one of the files weren't held
abbrev pub without : Input → Contents → Contents
without input.Ship contents = record contents { ship = None }
without input.Stow contents = record contents { stow = None }
without input.Plan contents = record contents { plan = None }
without input.Tree contents = record contents { tree = None }
without input.Own contents = record contents { own = None }
without input.Log contents = record contents { log = None }
without input.Arrival contents = record contents { arrival = None }
without input.Departure contents = record contents { departure = None }
without input.Past contents = record contents { past = None }

-- what a command finds in these files
abbrev pub contents_in : Files → Names → Contents
contents_in held names = record {
  ship = option_and_then (get held) names.ship;
  stow = option_and_then (get held) names.stow;
  plan = option_and_then (get held) names.plan;
  tree = option_and_then (get held) names.tree;
  own = option_and_then (get held) names.own;
  log = option_and_then (get held) names.log;
  arrival = option_and_then (get held) names.arrival;
  departure = option_and_then (get held) names.departure;
  past = option_and_then (get held) names.past;
  turn = names.turn;
}

-- the greatest length of a file that is read whole, in bytes
abbrev pub file_limit : ℕ
file_limit = 8388608

-- the bytes of a file that is held and isn't too large
abbrev pub within_limit : Input → Option (List ℕ) → Result (List ℕ) Refusal
within_limit file None = Err (refusal.ReadFault file)
within_limit file (Some bytes) =
    if nat_le (length bytes) file_limit then Ok bytes else Err (refusal.TooLarge file)

abbrev pub input_due : Input → Contents → Result (List ℕ) Refusal
input_due file contents = within_limit file (of_input file contents)

-- the ship, or the first refusal of its file
abbrev pub ship_due : Contents → Result ShipView Refusal
ship_due contents = do
  bytes ← input_due input.Ship contents
  with_fault refusal.BadShip (ship_file bytes)

-- the moves of the stowage list, or the first refusal of its file
abbrev pub moves_due : ShipView → Contents → Result (List Row) Refusal
moves_due ship contents = do
  bytes ← input_due input.Stow contents
  with_fault refusal.BadStow (moves_in ship bytes)

-- the instance of a ship and its moves; a ring in the planner's own order is a refusal of the ship file
abbrev pub order_due : ShipView → List Row → Result InstanceView Refusal
order_due ship rows =
    with_fault (λ k. refusal.BadShip (fault kind.Ring key.Before k)) (tasks_due ship rows)

-- the instance of the files with the turn that is asked about, or the first refusal: first of the ship file, then of the
-- stowage list, then of the order that both come to
abbrev pub instance_due : Contents → Result InstanceView Refusal
instance_due contents = do
  ship ← ship_due contents
  rows ← moves_due ship contents
  inst ← order_due ship rows
  Ok (with_turn inst contents.turn)

-- the schedule of the plan in a file, or the first refusal of that file
abbrev pub schedule_due : Input → InstanceView → Contents → Result (List Slot) Refusal
schedule_due file inst contents = do
  bytes ← input_due file contents
  with_fault refusal.BadPlan (plan_in inst bytes)

-- the instance and the schedule of the files, or the first refusal: the plan's file comes last
abbrev pub job_due : Contents → Result Job Refusal
job_due contents = do
  inst ← instance_due contents
  sched ← schedule_due input.Plan inst contents
  Ok (record { inst = inst; sched = sched })

-- the schedule of the planner's own plan, or the first refusal of its file; none where no such file is named
abbrev pub own_due : Option (List ℕ) → InstanceView → Contents → Result (Option (List Slot)) Refusal
own_due None inst contents = Ok None
own_due (Some name) inst contents = do
  sched ← schedule_due input.Own inst contents
  Ok (Some sched)

-- the instance of the files and the planner's own schedule, or the first refusal: the own plan's file comes last
abbrev pub own_job_due : Option (List ℕ) → Contents → Result OwnJob Refusal
own_job_due name contents = do
  inst ← instance_due contents
  own ← own_due name inst contents
  Ok (record { inst = inst; own = own })

-- the reports of the log for a ship, or the first refusal of that file
abbrev pub reports_due : ShipView → Contents → Result (List (List Report)) Refusal
reports_due ship contents = do
  bytes ← input_due input.Log contents
  with_fault (λ fault. refusal.BadLog (log.Watch fault)) (reports_in ship bytes)

-- the ship and the reports of the files, or the first refusal: the log comes last
abbrev pub watched_due : Contents → Result Watched Refusal
watched_due contents = do
  ship ← ship_due contents
  reports ← reports_due ship contents
  Ok (record { ship = ship; reports = reports })

-- the plan in a bay plan's file, or the first refusal of that file
abbrev pub bay_plan_due : Which → Contents → Result PlanView Refusal
bay_plan_due which contents = do
  bytes ← input_due (input_of which) contents
  with_fault (refusal.BadBayPlan which) (bay_plan_in which bytes)

-- both bay plans, or the first refusal: that for the departure comes last
abbrev pub bay_plans_due : Contents → Result BayPlans Refusal
bay_plans_due contents = do
  arrival ← bay_plan_due Arrival contents
  departure ← bay_plan_due Departure contents
  Ok (record { arrival = arrival; departure = departure })

-- what tasks took in past calls, or the first refusal of that file
abbrev pub past_due : Contents → Result (List PastTask) Refusal
past_due contents = do
  bytes ← input_due input.Past contents
  with_fault refusal.BadPast (past_in bytes)
