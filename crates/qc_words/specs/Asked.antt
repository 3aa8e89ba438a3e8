-- public: what a command line asks for, with the names of its files.
use Rattle.std.specs.Prelude.{ℕ, ◌<◌, ◌≤◌, ◌^◌, Bool, true, false, not, ◌&&◌, IfSome, IsSome, IsTrue, List, [], ◌∷◌, Option, Some}
use Rattle.std.specs.List.{list_any}
use Rattle.std.specs.Str.{bytes_eq}
use Rattle.qc_model.specs.Numbers.{most_branchings, most_cranes, most_hatches}
use Rattle.qc_run.specs.Inputs.{Moving, Names, Planning, Replanning, Simulating, moving, names_of, planning, replanning, simulating}
use Rattle.qc_words.specs.declared.asked.Reader.{Reader}
use Rattle.qc_words.specs.declared.asked.Reader.TheVariants as reader
use Rattle.qc_words.specs.declared.asked.Request.{Request}
use Rattle.qc_words.specs.declared.asked.Request.TheVariants as request
use Rattle.qc_words.specs.declared.commands.CommandName.{CommandName}

-- the greatest number that a ship and a list are made from
abbrev pub most_number : ℕ
most_number = 2147483647

-- the most runs that odds are asked for with
abbrev pub most_runs : ℕ
most_runs = 10000

-- the greatest number that draws begin with
abbrev pub most_seed : ℕ
most_seed = 2147483647

-- how many digits the tick has at most by which it is asked how often a ship is done
abbrev pub tick_digits : ℕ
tick_digits = 12

pub data Asked : Type 0 where
  -- a command that only reads, with its files, and which schedules a check is asked about
  read : Reader → Names → Asked
  -- a plan and its tree, beside the planner's own plan where one is named
  plan : Planning → Asked
  -- a list of the moves between two bay plans
  moves : Moving → Asked
  -- the odds of a plan by what tasks of past calls took
  simulate : Simulating → Asked
  -- what is left of a plan in the middle of its work, as files of its own
  replan : Replanning → Asked
  -- a ship and a list made from a number, planned and checked
  make : (number hatches cranes : ℕ) → Asked
  -- what the program does and its commands, or one command
  help : Option CommandName → Asked
  -- which program this is
  version : Asked
  -- words that are no command
  usage : Asked

-- what a request of the program asks for
abbrev pub asked_for : Request → Asked
asked_for (request.Reads reader files) = read reader (names_of files)
asked_for (request.Plans asked) = plan (planning asked)
asked_for (request.Moves asked) = moves (moving asked)
asked_for (request.Odds asked) = simulate (simulating asked)
asked_for (request.Rest asked) = replan (replanning asked)
asked_for (request.Make number hatches cranes) = make number hatches cranes
asked_for (request.Help of) = help of
asked_for request.Version = version
asked_for request.Usage = usage

-- two names are there and are equal
abbrev pub is_same : (a b : Option (List ℕ)) → Bool
is_same (Some a) (Some b) = bytes_eq a b
is_same _ _ = false

-- no two of these are equal
abbrev pub are_different : List (Option (List ℕ)) → Bool
are_different [] = true
are_different (name ∷ names) = not (list_any (is_same name) names) && are_different names

-- the names that a plan is given: of the files that it reads, and of those that it writes
abbrev pub given : Planning → List (Option (List ℕ))
given asked =
    asked.inputs.ship ∷ asked.inputs.stow ∷ asked.inputs.own ∷ Some asked.plan ∷ Some asked.tree ∷ []

-- and those that a list of moves is given
abbrev pub listing : Moving → List (Option (List ℕ))
listing asked = Some asked.arrival ∷ Some asked.departure ∷ Some asked.stow ∷ []

-- and those that the rest of a plan is given
abbrev pub resting : Replanning → List (Option (List ℕ))
resting asked =
    asked.inputs.ship ∷ asked.inputs.stow ∷ asked.inputs.plan ∷ asked.inputs.log
    ∷ Some asked.new_ship ∷ Some asked.new_stow ∷ Some asked.own ∷ []

-- the files that the command reads are named
abbrev pub AreNamed : Reader → Names → Type 0
AreNamed reader.Check names = IsSome names.stow × IsSome names.plan × IsSome names.tree
AreNamed reader.CheckTree names = IsSome names.stow × IsSome names.tree
AreNamed reader.Tasks names = IsSome names.stow
AreNamed reader.Watch names = IsSome names.log
AreNamed reader.Dispatch names = IsSome names.stow × IsSome names.plan × IsSome names.log
AreNamed _ names = IsSome names.stow × IsSome names.plan

-- the files that are read are named, the names of a command that writes are different, and each number that is asked for is in its range
abbrev pub KeepsLimits : Asked → Type 0
KeepsLimits (read reader names) = AreNamed reader names
KeepsLimits (plan asked) =
    IsSome asked.inputs.stow × IsTrue (are_different (given asked)) × (asked.nodes ≤ most_branchings)
KeepsLimits (moves asked) = IsTrue (are_different (listing asked))
KeepsLimits (simulate asked) =
    IsSome asked.inputs.stow × IsSome asked.inputs.plan × IsSome asked.inputs.past
    × (1 ≤ asked.runs) × (asked.runs ≤ most_runs) × (asked.seed ≤ most_seed) × IfSome asked.by_tick (λ tick. tick < 10 ^ tick_digits)
KeepsLimits (replan asked) = AreNamed reader.Dispatch asked.inputs × IsTrue (are_different (resting asked))
KeepsLimits (make number hatches cranes) =
    (number ≤ most_number) × (1 ≤ hatches) × (hatches ≤ most_hatches)
    × (1 ≤ cranes) × (cranes ≤ most_cranes)
KeepsLimits _ = Unit {0}
