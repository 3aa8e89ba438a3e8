-- public: the words of a command line, and what they ask for.
use Rattle.std.specs.Prelude.{◌≡◌, ℕ, Bool, ◌&&◌, ◌||◌, nat_le, if◌then◌else◌, List, [], ◌∷◌, map, Option, None, Some, option_and_then, option_map, unwrap_or, codes, string_bytes, String}
use Rattle.std.specs.declared.alloc.Global.{Global}
use Rattle.std.specs.Option.{option_map_or}
use Rattle.std.specs.Str.{bytes_eq}
use Rattle.clap.specs.Words.{Row, first_of}
use Rattle.qc_model.specs.Numbers.{most_branchings, most_cranes, most_hatches}
use Rattle.qc_model.specs.declared.turn.Turn.{Turn}
use Rattle.qc_model.specs.declared.turn.Turn.TheVariants.{OneWay, Free}
use Rattle.qc_num.specs.Digits.{number_in}
use Rattle.qc_run.specs.Inputs.{Moving, Names, Planning, Replanning, no_names}
use Rattle.qc_words.specs.Asked.{Asked, read, plan, moves, simulate, replan, make, help, version, usage, are_different, given, listing, resting, most_number, most_runs, most_seed, tick_digits}
use Rattle.qc_words.specs.declared.asked.Reader.TheVariants as reader
use Rattle.qc_words.specs.Commands.{command_of, named, read_by, command_name}
use Rattle.qc_words.specs.declared.commands.CommandName.{CommandName}
use Rattle.qc_words.specs.declared.commands.CommandName.TheVariants as name

-- the bytes of each word
abbrev pub texts : List (String Global) → List (List ℕ)
texts words = map string_bytes words

-- ---- words about the program

-- the word asks for help, alone or behind a command's name
abbrev pub is_help : List ℕ → Bool
is_help word = bytes_eq word (codes "--help") || bytes_eq word (codes "-h")

-- what one word alone asks for: help, or which program this is
abbrev pub word_about : List ℕ → Option Asked
word_about word =
    if is_help word || bytes_eq word (codes "help") then Some (help None)
    else (if bytes_eq word (codes "--version") || bytes_eq word (codes "-V") then Some version else None)

-- what a word behind a command's name asks for: help on that command
abbrev pub command_about : (name word : List ℕ) → Option Asked
command_about name word = if is_help word then option_map (λ of. help (Some of)) (command_name name) else None

-- what words ask for that ask about the program
abbrev pub about : List (List ℕ) → Option Asked
about (word ∷ []) = word_about word
about (name ∷ word ∷ []) = command_about name word
about _ = None

-- ---- words of a command

-- how many branchings a plan has at most where the words don't say it
abbrev pub usual_branchings : ℕ
usual_branchings = 20000

-- how many runs odds are of where the words don't say it
abbrev pub usual_runs : ℕ
usual_runs = 1000

-- the number that the text is in plain decimal, where it is in range
abbrev pub number_between : (least most : ℕ) → List ℕ → Option ℕ
number_between least most text =
    option_and_then (λ n. if nat_le least n && nat_le n most then Some n else None)
    (number_in 10 text)

-- the value that was read for an operand, of which `clap` has one
abbrev pub value_of : List ℕ → List Row → List ℕ
value_of name rows = unwrap_or (first_of name rows) []

-- how many branchings `--nodes` gives, and where it isn't there
abbrev pub nodes_in : Option (List ℕ) → Option ℕ
nodes_in None = Some usual_branchings
nodes_in (Some text) = number_between 0 most_branchings text

-- how many runs `--runs` gives, and where it isn't there
abbrev pub runs_in : Option (List ℕ) → Option ℕ
runs_in None = Some usual_runs
runs_in (Some text) = number_between 1 most_runs text

-- what `--seed` says that draws begin with, and where it isn't there
abbrev pub seed_in : Option (List ℕ) → Option ℕ
seed_in None = Some 0
seed_in (Some text) = number_between 0 most_seed text

-- the tick that `--by` gives, which needn't be there
abbrev pub by_in : Option (List ℕ) → Option (Option ℕ)
by_in None = Some None
by_in (Some text) = option_map (λ tick. Some tick) (number_in tick_digits text)

-- what is made by three numbers that are in range
abbrev pub make_of : (number hatches cranes : Option ℕ) → Asked
make_of (Some n) (Some h) (Some c) = make n h c
make_of _ _ _ = usage

-- the files of a command that reads a ship file and a list
abbrev pub listed : List Row → Names
listed rows =
    record no_names { ship = Some (value_of (codes "ship") rows); stow = Some (value_of (codes "stow") rows) }

-- these, and a plan
abbrev pub planned : List Row → Names
planned rows = record (listed rows) { plan = Some (value_of (codes "plan") rows) }

-- these, and a log that a plan is followed by
abbrev pub followed : List Row → Names
followed rows = record (planned rows) { log = Some (value_of (codes "log") rows) }

-- a ship file, a list, a plan, and what tasks of past calls took
abbrev pub weighed : List Row → Names
weighed rows = record (planned rows) { past = Some (value_of (codes "past") rows) }

-- a ship file and a log of reported places
abbrev pub watched : List Row → Names
watched rows =
    record no_names { ship = Some (value_of (codes "ship") rows); log = Some (value_of (codes "log") rows) }

-- a check of the tree alone where `-` is named, else of a plan by the tree
abbrev pub check_of : Names → List ℕ → Asked
check_of names word =
    if bytes_eq word (codes "-") then read reader.CheckTree names
    else read reader.Check (record names { plan = Some word })

-- a check by schedules of this turn
abbrev pub check_in : Turn → List Row → Asked
check_in turn rows =
    check_of (record (listed rows) { tree = Some (value_of (codes "tree") rows); turn = turn })
    (value_of (codes "plan") rows)

-- a plan, where its names are different
abbrev pub plan_of : Planning → Asked
plan_of asked = if are_different (given asked) then plan asked else usage

-- a plan by schedules of this turn
abbrev pub plan_in : Turn → List Row → Asked
plan_in turn rows = option_map_or
    (λ nodes. plan_of (record {
      inputs = record (listed rows) { own = first_of (codes "from") rows; turn = turn };
      plan = value_of (codes "plan") rows;
      tree = value_of (codes "tree") rows;
      nodes = nodes;
    }))
    (nodes_in (first_of (codes "nodes") rows)) usage

-- a list of moves, where its names are different
abbrev pub moves_of : Moving → Asked
moves_of asked = if are_different (listing asked) then moves asked else usage

abbrev pub moves_in : List Row → Asked
moves_in rows = moves_of (record {
  arrival = value_of (codes "arrival") rows;
  departure = value_of (codes "departure") rows;
  stow = value_of (codes "stow") rows;
})

-- odds, where each number of the options is in its range
abbrev pub odds_of : Names → (runs seed : Option ℕ) → Option (Option ℕ) → Asked
odds_of names (Some runs) (Some seed) (Some tick) =
    simulate (record { inputs = names; runs = runs; seed = seed; by_tick = tick })
odds_of _ _ _ _ = usage

abbrev pub odds_in : List Row → Asked
odds_in rows = odds_of (weighed rows) (runs_in (first_of (codes "runs") rows)) (seed_in (first_of (codes "seed") rows))
    (by_in (first_of (codes "by") rows))

-- what is left of a plan, where the names are different
abbrev pub rest_of : Replanning → Asked
rest_of asked = if are_different (resting asked) then replan asked else usage

abbrev pub rest_in : List Row → Asked
rest_in rows = rest_of (record {
  inputs = followed rows;
  new_ship = value_of (codes "newship") rows;
  new_stow = value_of (codes "newstow") rows;
  own = value_of (codes "own") rows;
})

-- what a command asks for by the values that were read
abbrev pub asked_in : CommandName → List Row → Asked
asked_in name.Plan rows = plan_in OneWay rows
asked_in name.Check rows = check_in OneWay rows
asked_in name.Free rows = plan_in Free rows
asked_in name.FreeCheck rows = check_in Free rows
asked_in name.Make rows = make_of
    (number_between 0 most_number (value_of (codes "number") rows))
    (number_between 1 most_hatches (value_of (codes "hatches") rows))
    (number_between 1 most_cranes (value_of (codes "cranes") rows))
asked_in name.Tasks rows = read reader.Tasks (listed rows)
asked_in name.Show rows = read reader.Show (planned rows)
asked_in name.Sheet rows = read reader.Sheet (planned rows)
asked_in name.Watch rows = read reader.Watch (watched rows)
asked_in name.Dispatch rows = read reader.Dispatch (followed rows)
asked_in name.Picture rows = read reader.Picture (planned rows)
asked_in name.Report rows = read reader.Report (planned rows)
asked_in name.Moves rows = moves_in rows
asked_in name.Odds rows = odds_in rows
asked_in name.Rest rows = rest_in rows

-- what words ask of a command: Usage where no command begins them, where `clap` refuses them, where a
-- number isn't one in plain decimal and in range, and where the names of a command that writes aren't different
abbrev pub asked_of : List (List ℕ) → Asked
asked_of words = option_map_or
    (λ name. option_map_or (asked_in name) (read_by (command_of name) words) usage)
    (named words) usage

-- what the words ask for, about the program or of a command
abbrev pub asked_by : List (List ℕ) → Asked
asked_by words = unwrap_or (about words) (asked_of words)

-- the words ask for this
abbrev pub Asks : List (List ℕ) → Asked → Type 0
Asks words asked = asked_by words ≡ asked
