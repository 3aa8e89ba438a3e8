-- What is asked for keeps the limits, whatever the words are.
use Rattle.std.proofs.Common.{refl, ℕ, ◌<◌, ◌≤◌, ◌^◌, ◌&&◌, ◌||◌, IfSome, IsSome, bytes_eq, lit≤, nat_le, cond, List, [], ◌∷◌, Option, None, Some, codes, arith, option_and_then, option_map, unwrap_or}
use Rattle.std.proofs.lemmas.Bool.{cond_both}
use Rattle.std.proofs.lemmas.Bool.Decides.{nat_tests}
use Rattle.std.specs.Option.{option_map_or}
use Rattle.std.specs.Str.Parse.{digits_value}
use Rattle.clap.proofs.WalkLemmas.{both}
use Rattle.clap.specs.Words.{Row, Text, first_of}
use Rattle.qc_model.specs.Numbers.{most_branchings, most_cranes, most_hatches}
use Rattle.qc_model.specs.declared.turn.Turn.{Turn}
use Rattle.qc_model.specs.declared.turn.Turn.TheVariants.{OneWay, Free}
use Rattle.qc_num.specs.Digits.{is_plain, number_in}
use Rattle.qc_num.proofs.DigitLemmas.{plain_parts, value_fits}
use Rattle.qc_run.specs.Inputs.{Moving, Names, Planning, Replanning}
use Rattle.qc_words.specs.declared.asked.Reader.TheVariants as reader
use Rattle.qc_words.specs.declared.commands.CommandName.{CommandName}
use Rattle.qc_words.specs.declared.commands.CommandName.TheVariants as name
use Rattle.qc_words.specs.Asked.{Asked, KeepsLimits, are_different, given, help, listing, most_number, most_runs, most_seed, moves, plan, read, replan, resting, tick_digits, usage, version}
use Rattle.qc_words.specs.Commands.{command_name, command_of, named, read_by}
use Rattle.qc_words.specs.Words.{about, asked_by, asked_in, asked_of, by_in, check_in, followed, is_help, listed, make_of, moves_in, nodes_in, number_between, odds_of, plan_in, plan_of, rest_in, runs_in, seed_in, value_of, weighed}

abbrev IsBetween : ℕ → ℕ → Option ℕ → Type 0
IsBetween least most number = IfSome number (λ n. (least ≤ n) × (n ≤ most))

number_kept : (least most : ℕ) (text : Text) → IsBetween least most (number_between least most text)
number_kept least most text = go (number_in 10 text)
  where
    go : (o : Option ℕ) → IsBetween least most (option_and_then (λ n. cond (nat_le least n && nat_le n most) (Some n) None) o)
    go None = tt
    go (Some n) = cond_both (nat_le least n && nat_le n most) (Some n) None (IsBetween least most)
        (λ yes. let parts = both (nat_le least n) _ yes in (grind (arith, nat_tests, parts.0), grind (arith, nat_tests, parts.1))) (λ _. tt)

nodes_kept : (text : Option Text) → IsBetween 0 most_branchings (nodes_in text)
nodes_kept None = (lit≤ tt, lit≤ tt)
nodes_kept (Some text) = number_kept 0 most_branchings text

plan_kept : (asked : Planning) → IsSome asked.inputs.stow → asked.nodes ≤ most_branchings → KeepsLimits (plan_of asked)
plan_kept asked stow few =
    cond_both (are_different (given asked)) (plan asked) usage KeepsLimits (λ yes. (stow, yes, few)) (λ _. tt)

make_kept : (number hatches cranes : Option ℕ) → IsBetween 0 most_number number → IsBetween 1 most_hatches hatches → IsBetween 1 most_cranes cranes
    → KeepsLimits (make_of number hatches cranes)
make_kept None h c n few fewer = tt
make_kept (Some k) None c n few fewer = tt
make_kept (Some k) (Some h) None n few fewer = tt
make_kept (Some k) (Some h) (Some c) n few fewer = (n.1, few.0, few.1, fewer.0, fewer.1)

search_kept : (turn : Turn) (rows : List Row) → KeepsLimits (plan_in turn rows)
search_kept turn rows = by (nodes_in (first_of (codes "nodes") rows)) (nodes_kept (first_of (codes "nodes") rows))
  where
    asked : ℕ → Planning
    asked nodes = record {
      inputs = record (listed rows) { own = first_of (codes "from") rows; turn = turn };
      plan = value_of (codes "plan") rows;
      tree = value_of (codes "tree") rows;
      nodes = nodes;
    }

    by : (nodes : Option ℕ) → IsBetween 0 most_branchings nodes
        → KeepsLimits (option_map_or (λ n. plan_of (asked n)) nodes usage)
    by None few = tt
    by (Some n) few = plan_kept (asked n) refl few.1

moves_kept : (rows : List Row) → KeepsLimits (moves_in rows)
moves_kept rows =
    let asked : Moving = record {
      arrival = value_of (codes "arrival") rows;
      departure = value_of (codes "departure") rows;
      stow = value_of (codes "stow") rows;
    } in
    cond_both (are_different (listing asked)) (moves asked) usage KeepsLimits (λ yes. yes) (λ _. tt)

rest_kept : (rows : List Row) → KeepsLimits (rest_in rows)
rest_kept rows =
    let asked : Replanning = record {
      inputs = followed rows;
      new_ship = value_of (codes "newship") rows;
      new_stow = value_of (codes "newstow") rows;
      own = value_of (codes "own") rows;
    } in
    cond_both (are_different (resting asked)) (replan asked) usage KeepsLimits (λ yes. ((refl, refl, refl), yes)) (λ _. tt)

runs_kept : (text : Option Text) → IsBetween 1 most_runs (runs_in text)
runs_kept None = (lit≤ tt, lit≤ tt)
runs_kept (Some text) = number_kept 1 most_runs text

seed_kept : (text : Option Text) → IsBetween 0 most_seed (seed_in text)
seed_kept None = (lit≤ tt, lit≤ tt)
seed_kept (Some text) = number_kept 0 most_seed text

number_small : (most : ℕ) (text : Text) → IfSome (number_in most text) (λ n. n < 10 ^ most)
number_small most text =
    cond_both (is_plain most text) (Some (digits_value 10 text)) None (λ o. IfSome o (λ n. n < 10 ^ most))
    (λ yes. let plain = plain_parts text most yes in value_fits text most plain.digits plain.few) (λ _. tt)

abbrev IsEarly : Option (Option ℕ) → Type 0
IsEarly tick = IfSome tick (λ t. IfSome t (λ n. n < 10 ^ tick_digits))

by_kept : (text : Option Text) → IsEarly (by_in text)
by_kept None = tt
by_kept (Some text) = go (number_in tick_digits text) (number_small tick_digits text)
  where
    go : (o : Option ℕ) → IfSome o (λ n. n < 10 ^ tick_digits) → IsEarly (option_map (λ tick. Some tick) o)
    go None small = tt
    go (Some n) small = small

odds_numbers_kept : (rows : List Row) (runs seed : Option ℕ) (tick : Option (Option ℕ)) → IsBetween 1 most_runs runs → IsBetween 0 most_seed seed → IsEarly tick
    → KeepsLimits (odds_of (weighed rows) runs seed tick)
odds_numbers_kept rows None seed tick some few early = tt
odds_numbers_kept rows (Some n) None tick some few early = tt
odds_numbers_kept rows (Some n) (Some s) None some few early = tt
odds_numbers_kept rows (Some n) (Some s) (Some t) some few early = (refl, refl, refl, some.0, some.1, few.1, early)

check_kept : (turn : Turn) (rows : List Row) → KeepsLimits (check_in turn rows)
check_kept turn rows =
    let word = value_of (codes "plan") rows in
    let names : Names = record (listed rows) { tree = Some (value_of (codes "tree") rows); turn = turn } in
    cond_both (bytes_eq word (codes "-")) (read reader.CheckTree names) (read reader.Check (record names { plan = Some word }))
    KeepsLimits (λ _. (refl, refl)) (λ _. (refl, refl, refl))

command_kept : (n : CommandName) (rows : List Row) → KeepsLimits (asked_in n rows)
command_kept name.Plan rows = search_kept OneWay rows
command_kept name.Free rows = search_kept Free rows
command_kept name.Check rows = check_kept OneWay rows
command_kept name.FreeCheck rows = check_kept Free rows
command_kept name.Tasks rows = refl
command_kept name.Show rows = (refl, refl)
command_kept name.Sheet rows = (refl, refl)
command_kept name.Watch rows = refl
command_kept name.Dispatch rows = (refl, refl, refl)
command_kept name.Picture rows = (refl, refl)
command_kept name.Report rows = (refl, refl)
command_kept name.Moves rows = moves_kept rows
command_kept name.Odds rows = odds_numbers_kept rows _ _ _ (runs_kept (first_of (codes "runs") rows)) (seed_kept (first_of (codes "seed") rows)) (by_kept (first_of (codes "by") rows))
command_kept name.Rest rows = rest_kept rows
command_kept name.Make rows = make_kept _ _ _ (number_kept 0 most_number (value_of (codes "number") rows))
    (number_kept 1 most_hatches (value_of (codes "hatches") rows)) (number_kept 1 most_cranes (value_of (codes "cranes") rows))

pub limits_kept : (n : CommandName) (rows : Option (List Row)) → KeepsLimits (option_map_or (asked_in n) rows usage)
limits_kept n None = tt
limits_kept n (Some rows) = command_kept n rows

-- what asks about the program has none
help_kept : (name : Option CommandName) → IfSome (option_map (λ of. help (Some of)) name) KeepsLimits
help_kept None = tt
help_kept (Some of) = tt

pub about_kept : (words : List Text) → IfSome (about words) KeepsLimits
about_kept [] = tt
about_kept (word ∷ []) =
    cond_both (is_help word || bytes_eq word (codes "help")) (Some (help None)) _ (λ o. IfSome o KeepsLimits) (λ _. tt)
    (λ _. cond_both (bytes_eq word (codes "--version") || bytes_eq word (codes "-V")) (Some version) None (λ o. IfSome o KeepsLimits)
    (λ _. tt) (λ _. tt))
about_kept (name ∷ word ∷ []) =
    cond_both (is_help word) (option_map (λ of. help (Some of)) (command_name name)) None (λ o. IfSome o KeepsLimits)
    (λ _. help_kept (command_name name)) (λ _. tt)
about_kept (a ∷ b ∷ c ∷ words) = tt

command_asked_kept : (words : List Text) → KeepsLimits (asked_of words)
command_asked_kept words = by (named words)
  where
    by : (n : Option CommandName)
        → KeepsLimits (option_map_or (λ name. option_map_or (asked_in name) (read_by (command_of name) words) usage) n usage)
    by None = tt
    by (Some n) = limits_kept n (read_by (command_of n) words)

-- and so does what words ask for
pub asked_kept : (words : List Text) → KeepsLimits (asked_by words)
asked_kept words = by (about words) (about_kept words)
  where
    by : (o : Option Asked) → IfSome o KeepsLimits → KeepsLimits (unwrap_or o (asked_of words))
    by None is = command_asked_kept words
    by (Some asked) is = is
