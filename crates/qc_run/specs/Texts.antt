-- public: the exit status of each status, and what is printed where a command stops.
use Rattle.std.specs.Prelude.{ℕ, List, [], ◌∷◌, ◌++◌, codes, decimal}
use Rattle.qc_bayplan.specs.Faults.{kind_text as bay_plan_text}
use Rattle.qc_bayplan.specs.declared.fault.BayPlanFault.{BayPlanFault}
use Rattle.qc_bayplan.specs.declared.plan.Which.{Which}
use Rattle.qc_gantt.specs.Faults.{kind_text as plan_kind_text}
use Rattle.qc_gantt.specs.declared.fault.PlanFault.{PlanFault}
use Rattle.qc_model.specs.declared.direction.Direction.{Direction}
use Rattle.qc_model.specs.declared.direction.Direction.TheVariants.{Up, Down}
use Rattle.qc_past.specs.Faults.{kind_text as past_text}
use Rattle.qc_past.specs.declared.fault.PastFault.{PastFault}
use Rattle.qc_tree.specs.Faults.{kind_text as tree_text}
use Rattle.qc_tree.specs.declared.fault.TreeFault.{TreeFault}
use Rattle.qc_ship.specs.declared.fault.ShipKind.{ShipKind}
use Rattle.qc_ship.specs.declared.fault.ShipKind.TheVariants as ship
use Rattle.qc_ship.specs.declared.fault.ShipFault.{ShipFault}
use Rattle.qc_ship.specs.Keys.{key_text, kind_text}
use Rattle.qc_stow.specs.Faults.{kind_text as stow_text}
use Rattle.qc_stow.specs.declared.fault.StowFault.{StowFault}
use Rattle.qc_run.specs.declared.inputs.Input.{Input}
use Rattle.qc_run.specs.declared.inputs.Input.TheVariants as input
use Rattle.qc_run.specs.Inputs.{input_of}
use Rattle.qc_dispatch.specs.Faults.{kind_text as dispatch_text}
use Rattle.qc_watch.specs.Faults.{kind_text as watch_text}
use Rattle.qc_run.specs.declared.refusal.LogFault.{LogFault}
use Rattle.qc_run.specs.declared.refusal.LogFault.TheVariants as log
use Rattle.qc_run.specs.declared.refusal.Refusal.{Refusal}
use Rattle.qc_run.specs.declared.refusal.Refusal.TheVariants as refusal
use Rattle.qc_run.specs.declared.refusal.Stop.{Stop}
use Rattle.qc_run.specs.declared.refusal.Stop.TheVariants as stop
use Rattle.qc_run.specs.declared.status.Status.{Status}
use Rattle.qc_run.specs.declared.status.Status.TheVariants as status

-- the exit status of each status
abbrev pub status_code : Status → ℕ
status_code status.Optimal = 0
status_code status.Done = 0
status_code status.Usage = 2
status_code status.ReadFault = 3
status_code status.WriteFault = 4
status_code status.BadShip = 5
status_code status.BadStow = 6
status_code status.BadTree = 7
status_code status.BadPlan = 8
status_code status.OutOfMemory = 9
status_code status.Infeasible = 10
status_code status.BudgetPlan = 11
status_code status.BudgetNone = 12
status_code status.Broken = 13
status_code status.Weaker = 14
status_code status.TooLarge = 15
status_code status.BadLog = 17
status_code status.Breach = 18
status_code status.BadBayPlan = 19
status_code status.NoRest = 20
status_code status.BadPast = 21

abbrev pub input_text : Input → List ℕ
input_text input.Ship = codes "ship"
input_text input.Stow = codes "stow"
input_text input.Plan = codes "plan"
input_text input.Tree = codes "tree"
input_text input.Own = codes "own"
input_text input.Log = codes "log"
input_text input.Arrival = codes "arrival"
input_text input.Departure = codes "departure"
input_text input.Past = codes "past"

abbrev pub usage_text : List ℕ
usage_text = codes "Usage\nqc plan SHIP STOW PLAN TREE [--nodes N] [--from OWN]\nqc check SHIP STOW PLAN TREE\nqc tasks SHIP STOW\nqc show SHIP STOW PLAN\nqc make NUMBER HATCHES CRANES\nqc free SHIP STOW PLAN TREE [--nodes N] [--from OWN]\nqc freecheck SHIP STOW PLAN TREE\nqc sheet SHIP STOW PLAN\nqc dispatch SHIP STOW PLAN LOG\nqc watch SHIP LOG\nqc picture SHIP STOW PLAN\nqc report SHIP STOW PLAN\nqc moves ARRIVAL DEPARTURE STOW\nqc odds SHIP STOW PLAN PAST [--runs N] [--seed S] [--by T]\nqc rest SHIP STOW PLAN LOG NEWSHIP NEWSTOW OWN\n"

-- a line: the text and a line feed
abbrev pub line : List ℕ → List ℕ
line text = text ++ 10 ∷ []

-- the line of a fault in the ship file with its place: the key and the number of its element
abbrev pub place_line : ShipKind → ShipFault → List ℕ
place_line kind fault =
    codes "BadShip " ++ kind_text kind ++ codes " " ++ key_text fault.key ++ codes " " ++ decimal fault.number
    ++ codes "\n"

-- the line of a fault in the ship file; a text that is no TOML has no place
abbrev pub bad_ship_text : ShipKind → ShipFault → List ℕ
bad_ship_text ship.NotToml fault = codes "BadShip NotToml\n"
bad_ship_text kind fault = place_line kind fault

-- the line of a fault: what is bad, how, and the number of its record or line
abbrev pub fault_text : List ℕ → List ℕ → ℕ → List ℕ
fault_text title kind number = title ++ kind ++ codes " " ++ decimal number ++ codes "\n"

-- the line of a fault in the stowage list with its record
abbrev pub bad_stow_text : StowFault → List ℕ
bad_stow_text fault = fault_text (codes "BadStow ") (stow_text fault.kind) fault.number

-- the line of a fault in the plan's file with its record
abbrev pub bad_plan_text : PlanFault → List ℕ
bad_plan_text fault = fault_text (codes "BadPlan ") (plan_kind_text fault.kind) fault.number

-- the line of a fault in the tree's file with its line there
abbrev pub bad_tree_text : TreeFault → List ℕ
bad_tree_text fault = fault_text (codes "BadTree ") (tree_text fault.kind) fault.line

-- the line of a fault in a log with its line there
abbrev pub bad_log_text : LogFault → List ℕ
bad_log_text (log.Watch fault) = fault_text (codes "BadLog ") (watch_text fault.kind) fault.line
bad_log_text (log.Dispatch fault) = fault_text (codes "BadLog ") (dispatch_text fault.kind) fault.line

-- the word for a bay plan
abbrev pub which_text : Which → List ℕ
which_text which = input_text (input_of which)

-- the line of a fault in a bay plan: how it is bad, which plan, and the number of its segment
abbrev pub bad_bay_plan_text : Which → BayPlanFault → List ℕ
bad_bay_plan_text which fault =
    codes "BadBayPlan " ++ bay_plan_text fault.kind ++ codes " " ++ which_text which ++ codes " " ++ decimal fault.number
    ++ codes "\n"

-- the line of a fault in a file of past tasks with its record
abbrev pub bad_past_text : PastFault → List ℕ
bad_past_text fault = fault_text (codes "BadPast ") (past_text fault.kind) fault.number

abbrev pub direction_text : Direction → List ℕ
direction_text Up = codes "up"
direction_text Down = codes "down"

-- what is printed for a refusal
abbrev pub refusal_text : Refusal → List ℕ
refusal_text refusal.Usage = usage_text
refusal_text (refusal.ReadFault file) = codes "ReadFault " ++ line (input_text file)
refusal_text (refusal.TooLarge file) = codes "TooLarge " ++ line (input_text file)
refusal_text (refusal.BadShip fault) = bad_ship_text fault.kind fault
refusal_text (refusal.BadStow fault) = bad_stow_text fault
refusal_text (refusal.BadPlan fault) = bad_plan_text fault
refusal_text (refusal.BadTree fault) = bad_tree_text fault
refusal_text (refusal.BadLog fault) = bad_log_text fault
refusal_text (refusal.BadBayPlan which fault) = bad_bay_plan_text which fault
refusal_text (refusal.BadPast fault) = bad_past_text fault

abbrev pub refusal_status : Refusal → Status
refusal_status refusal.Usage = status.Usage
refusal_status (refusal.ReadFault file) = status.ReadFault
refusal_status (refusal.TooLarge file) = status.TooLarge
refusal_status (refusal.BadShip fault) = status.BadShip
refusal_status (refusal.BadStow fault) = status.BadStow
refusal_status (refusal.BadPlan fault) = status.BadPlan
refusal_status (refusal.BadTree fault) = status.BadTree
refusal_status (refusal.BadLog fault) = status.BadLog
refusal_status (refusal.BadBayPlan which fault) = status.BadBayPlan
refusal_status (refusal.BadPast fault) = status.BadPast

-- what is printed where a request stops
abbrev pub stop_text : Stop → List ℕ
stop_text (stop.Refused why) = refusal_text why
stop_text stop.OutOfMemory = codes "OutOfMemory\n"

abbrev pub stop_status : Stop → Status
stop_status (stop.Refused why) = refusal_status why
stop_status stop.OutOfMemory = status.OutOfMemory
