-- public: the names of the files that a command reads, by what each is for, and how cranes may move.
use Rattle.std.specs.Prelude.{List, ℕ, Option, None, Some, IsSome, option_map}
use Rattle.qc_bayplan.specs.declared.plan.Which.{Which}
use Rattle.qc_bayplan.specs.declared.plan.Which.TheVariants.{Arrival, Departure}
use Rattle.qc_model.specs.declared.turn.Turn.{Turn}
use Rattle.qc_model.specs.declared.turn.Turn.TheVariants.{OneWay}
use Rattle.qc_run.specs.declared.inputs.Input.{Input}
use Rattle.qc_run.specs.declared.inputs.Input.TheVariants as input
use Rattle.qc_run.specs.declared.inputs.Inputs.{Inputs}
use Rattle.qc_run.specs.declared.inputs.MovesAsked.{MovesAsked}
use Rattle.qc_run.specs.declared.inputs.OddsAsked.{OddsAsked}
use Rattle.qc_run.specs.declared.inputs.PlanAsked.{PlanAsked}
use Rattle.qc_run.specs.declared.inputs.RestAsked.{RestAsked}

-- one for each file, by what it is for; none where the command reads no such file; and the turn of the instance: whether
-- schedules that go one way are asked about, or all that are feasible
pub record PerInput : Type 0 where
  pub ship : Option (List ℕ)
  pub stow : Option (List ℕ)
  pub plan : Option (List ℕ)
  pub tree : Option (List ℕ)
  pub own : Option (List ℕ)
  pub log : Option (List ℕ)
  pub arrival : Option (List ℕ)
  pub departure : Option (List ℕ)
  pub past : Option (List ℕ)
  pub turn : Turn

abbrev pub of_input : Input → PerInput → Option (List ℕ)
of_input input.Ship each = each.ship
of_input input.Stow each = each.stow
of_input input.Plan each = each.plan
of_input input.Tree each = each.tree
of_input input.Own each = each.own
of_input input.Log each = each.log
of_input input.Arrival each = each.arrival
of_input input.Departure each = each.departure
of_input input.Past each = each.past

-- the names
abbrev pub Names : Type 0
Names = PerInput

abbrev pub name_of : Input → Names → Option (List ℕ)
name_of = of_input

-- the command reads no file; cranes go one way
abbrev pub no_names : Names
no_names = record {
  ship = None;
  stow = None;
  plan = None;
  tree = None;
  own = None;
  log = None;
  arrival = None;
  departure = None;
  past = None;
  turn = OneWay;
}

abbrev pub names_of : Inputs → Names
names_of inputs = record {
  ship = Some inputs.ship.now;
  stow = option_map (λ name. name.now) inputs.stow;
  plan = option_map (λ name. name.now) inputs.plan;
  tree = option_map (λ name. name.now) inputs.tree;
  own = option_map (λ name. name.now) inputs.own;
  log = option_map (λ name. name.now) inputs.log;
  arrival = None;
  departure = None;
  past = option_map (λ name. name.now) inputs.past;
  turn = inputs.turn;
}

-- what a plan is asked for with: the files that are read, with the turn of the plans that are asked about, the names of the
-- plan's file and of the tree's, which are written, and at most how many branchings
pub record Planning : Type 0 where
  pub inputs : Names
  pub plan : List ℕ
  pub tree : List ℕ
  pub nodes : ℕ

abbrev pub planning : PlanAsked → Planning
planning asked =
    record { inputs = names_of asked.inputs; plan = asked.plan.now; tree = asked.tree.now; nodes = asked.nodes }

-- what a list of moves is asked for with: the names of two bay plans, which are read, and that of the list, which is written
pub record Moving : Type 0 where
  pub arrival : List ℕ
  pub departure : List ℕ
  pub stow : List ℕ

abbrev pub moving : MovesAsked → Moving
moving asked =
    record { arrival = asked.arrival.now; departure = asked.departure.now; stow = asked.stow.now }

-- the files that it reads
abbrev pub bay_plans_named : Moving → Names
bay_plans_named asked = record no_names { arrival = Some asked.arrival; departure = Some asked.departure }

-- what the odds of a plan are asked for with: the files that are read, how many runs, the number that draws begin with, and
-- a tick by which it is asked how often the ship is done
pub record Simulating : Type 0 where
  pub inputs : Names
  pub runs : ℕ
  pub seed : ℕ
  pub by_tick : Option ℕ

abbrev pub simulating : OddsAsked → Simulating
simulating asked = record {
  inputs = names_of asked.inputs;
  runs = asked.runs;
  seed = asked.seed;
  by_tick = asked.by_tick;
}

-- what the rest of a plan is asked for with: the files that are read, and the names of the ship file, the stowage list and
-- the planner's own plan of what is left, which are written
pub record Replanning : Type 0 where
  pub inputs : Names
  pub new_ship : List ℕ
  pub new_stow : List ℕ
  pub own : List ℕ

abbrev pub replanning : RestAsked → Replanning
replanning asked = record {
  inputs = names_of asked.inputs;
  new_ship = asked.new_ship.now;
  new_stow = asked.new_stow.now;
  own = asked.own.now;
}

-- the file that holds a bay plan
abbrev pub input_of : Which → Input
input_of Arrival = input.Arrival
input_of Departure = input.Departure

-- the command reads the file whole; a tree's file is read line by line
abbrev pub IsWhole : Input → Names → Type 0
IsWhole input.Tree names = ⊥
IsWhole file names = IsSome (name_of file names)
