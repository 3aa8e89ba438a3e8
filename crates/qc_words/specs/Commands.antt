-- public: the commands as `clap` is told them, and what it reads by one of them.
use Rattle.std.specs.Prelude.{ℕ, true, List, [], ◌∷◌, ◌++◌, map, Option, None, Some, codes, if◌then◌else◌, option_and_then, slice_get}
use Rattle.std.specs.Str.{bytes_eq}
use Rattle.clap.specs.Simple.{new_shape}
use Rattle.clap.specs.Walk.{is_empty}
use Rattle.clap.specs.Words.{App, Row, Rule, fault_of, matches_of, new_app, new_rule}
use Rattle.qc_words.specs.declared.commands.CommandName.{CommandName}
use Rattle.qc_words.specs.declared.commands.CommandName.TheVariants as name

-- the command that the first word names
abbrev pub command_name : List ℕ → Option CommandName
command_name word =
    if bytes_eq word (codes "plan") then Some name.Plan
    else (if bytes_eq word (codes "check") then Some name.Check
    else (if bytes_eq word (codes "tasks") then Some name.Tasks
    else (if bytes_eq word (codes "show") then Some name.Show
    else (if bytes_eq word (codes "make") then Some name.Make
    else (if bytes_eq word (codes "free") then Some name.Free
    else (if bytes_eq word (codes "freecheck") then Some name.FreeCheck
    else (if bytes_eq word (codes "sheet") then Some name.Sheet
    else (if bytes_eq word (codes "watch") then Some name.Watch
    else (if bytes_eq word (codes "dispatch") then Some name.Dispatch
    else (if bytes_eq word (codes "picture") then Some name.Picture
    else (if bytes_eq word (codes "report") then Some name.Report
    else (if bytes_eq word (codes "moves") then Some name.Moves
    else (if bytes_eq word (codes "odds") then Some name.Odds
    else (if bytes_eq word (codes "rest") then Some name.Rest
    else None))))))))))))))

-- and that of a command line
abbrev pub named : List (List ℕ) → Option CommandName
named words = option_and_then command_name (slice_get words 0)

-- an operand, which has to be there
abbrev pub operand : List ℕ → Rule
operand name = record (new_rule name) { required = true }

-- an option that has a value
abbrev pub option : List ℕ → Rule
option name = record (new_rule name) { long = Some name }

-- a command with these rules of words in order
abbrev pub with_rules : List ℕ → List Rule → App
with_rules name rules = record (new_app name) { top = record (new_shape name) { rules = rules } }

-- a command with these operands in order, and with options of these names
abbrev pub command_with_options : List ℕ → List (List ℕ) → List (List ℕ) → App
command_with_options name operands options = with_rules name (map operand operands ++ map option options)

-- a command with these operands in order
abbrev pub command_with : List ℕ → List (List ℕ) → App
command_with name operands = with_rules name (map operand operands)

-- a command that plans: its operands, and the options `--nodes` and `--from`
abbrev pub search_command : List ℕ → App
search_command name =
    command_with_options name (codes "ship" ∷ codes "stow" ∷ codes "plan" ∷ codes "tree" ∷ []) (codes "nodes" ∷ codes "from" ∷ [])

-- the command that tells the odds of a plan: its operands, and the options `--runs`, `--seed` and `--by`
abbrev pub odds_command : App
odds_command =
    command_with_options (codes "odds") (codes "ship" ∷ codes "stow" ∷ codes "plan" ∷ codes "past" ∷ []) (codes "runs" ∷ codes "seed" ∷ codes "by" ∷ [])

-- the command that writes what is left of a plan: the files that it reads, and those that it writes
abbrev pub rest_command : App
rest_command =
    command_with (codes "rest") (codes "ship" ∷ codes "stow" ∷ codes "plan" ∷ codes "log" ∷ codes "newship" ∷ codes "newstow" ∷ codes "own" ∷ [])

-- each command, with its operands
abbrev pub command_of : CommandName → App
command_of name.Plan = search_command (codes "plan")
command_of name.Check =
    command_with (codes "check") (codes "ship" ∷ codes "stow" ∷ codes "plan" ∷ codes "tree" ∷ [])
command_of name.Tasks = command_with (codes "tasks") (codes "ship" ∷ codes "stow" ∷ [])
command_of name.Show = command_with (codes "show") (codes "ship" ∷ codes "stow" ∷ codes "plan" ∷ [])
command_of name.Make =
    command_with (codes "make") (codes "number" ∷ codes "hatches" ∷ codes "cranes" ∷ [])
command_of name.Free = search_command (codes "free")
command_of name.FreeCheck =
    command_with (codes "freecheck") (codes "ship" ∷ codes "stow" ∷ codes "plan" ∷ codes "tree" ∷ [])
command_of name.Sheet = command_with (codes "sheet") (codes "ship" ∷ codes "stow" ∷ codes "plan" ∷ [])
command_of name.Watch = command_with (codes "watch") (codes "ship" ∷ codes "log" ∷ [])
command_of name.Dispatch =
    command_with (codes "dispatch") (codes "ship" ∷ codes "stow" ∷ codes "plan" ∷ codes "log" ∷ [])
command_of name.Picture = command_with (codes "picture") (codes "ship" ∷ codes "stow" ∷ codes "plan" ∷ [])
command_of name.Report = command_with (codes "report") (codes "ship" ∷ codes "stow" ∷ codes "plan" ∷ [])
command_of name.Moves =
    command_with (codes "moves") (codes "arrival" ∷ codes "departure" ∷ codes "stow" ∷ [])
command_of name.Odds = odds_command
command_of name.Rest = rest_command

-- what the command reads from the words, or nothing where it refuses them
abbrev pub read_by : App → List (List ℕ) → Option (List Row)
read_by command words =
    if is_empty (fault_of command words) then Some (matches_of command words) else None
