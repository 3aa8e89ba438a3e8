-- public: a log of reported places: the reports that its lines write, or the fault of the first faulty line.
use Rattle.std.specs.Prelude.{ℕ, ◌+◌, ℤ, pos, negsuc, zero, suc, List, [], length, map, drop, get_or, not, ◌==◌, ◌&&◌, nat_le, nat_lt, Bool, if◌then◌else◌, Option, None, Some, ok_or, option_and_then, option_map, position, Result, Ok}
use Rattle.std.specs.List.{after_first, before_first, filter, list_any, range_with_len}
use Rattle.std.specs.Str.{bytes_eq}
use Rattle.qc_num.specs.Digits.{number_in}
use Rattle.qc_num.specs.Reading.{◌>>=◌, each, require, with_fault}
use Rattle.qc_lines.specs.Lines.{ended, is_space, lines_of}
use Rattle.qc_ship.specs.Ship.{ShipView}
use Rattle.qc_watch.specs.declared.entry.Entry.{Entry}
use Rattle.qc_watch.specs.declared.fault.WatchFault.{WatchFault}
use Rattle.qc_watch.specs.declared.fault.WatchKind.{WatchKind}
use Rattle.qc_watch.specs.declared.fault.WatchKind.TheVariants as kind
use Rattle.qc_watch.specs.declared.report.Report.{Report}
use Rattle.qc_watch.specs.Numbers.{most_lines}

-- the number below 0 by so much; there is none by 0
abbrev pub below_zero : ℕ → Option ℤ
below_zero zero = None
below_zero (suc n) = Some (negsuc n)

-- a place: plain decimal of at most six digits, with a minus sign before it where it is below 0
abbrev pub place_in : List ℕ → Option ℤ
place_in text =
    if get_or text 0 0 == 45
    then option_and_then below_zero (number_in 6 (drop 1 text))
    else option_map pos (number_in 6 text)

-- the crane of this name, counted from 0
abbrev pub crane_named : ShipView → List ℕ → Option ℕ
crane_named ship name = position (λ crane. bytes_eq crane.name name) ship.cranes

-- the report of these three words: a time, the name of a crane, and a place
abbrev pub entry_of : ShipView → (time name place : List ℕ) → Result Entry WatchKind
entry_of ship time name place = do
  at ← ok_or (number_in 12 time) kind.Line
  _ ← require (nat_lt 0 (length name)) kind.Line
  there ← ok_or (place_in place) kind.Line
  crane ← ok_or (crane_named ship name) kind.UnknownCrane
  Ok (record { crane = crane; report = record { at = at; place = there } })

-- the words are cut at the first two spaces, so that a further one would stand in the place
abbrev pub entry_split : ShipView → (time rest : List ℕ) → Result Entry WatchKind
entry_split ship time rest = entry_of ship time (before_first is_space rest) (after_first is_space rest)

-- the report of a line, which a line feed ends
abbrev pub entry_in : ShipView → List ℕ → Result Entry WatchKind
entry_in ship line = do
  text ← ok_or (ended line) kind.Line
  entry_split ship (before_first is_space text) (after_first is_space text)

-- one of these reports is of this crane, at this time or later
abbrev pub has_since : List Entry → ℕ → ℕ → Bool
has_since earlier crane at = list_any (λ e. (e.crane == crane) && nat_le at e.report.at) earlier

-- a report that is later than the earlier ones of its crane
abbrev pub later_than : List Entry → Entry → Result Entry WatchKind
later_than earlier entry = do
  _ ← require (not (has_since earlier entry.crane entry.report.at)) kind.TimeBack
  Ok entry

-- the report of a line after those of all lines before it
abbrev pub entry_after : ShipView → List Entry → List ℕ → Result Entry WatchKind
entry_after ship earlier line = do
  _ ← require (nat_lt (length earlier) most_lines) kind.TooMany
  entry_in ship line >>= later_than earlier

-- the same with the number of the line, from 1
abbrev pub next_entry : ShipView → List Entry → List ℕ → Result Entry WatchFault
next_entry ship earlier line =
    with_fault (λ why. record { line = length earlier + 1; kind = why }) (entry_after ship earlier line)

-- the reports of one crane, in the order of their lines
abbrev pub told_of : List Entry → ℕ → List Report
told_of entries crane = map (λ e. e.report) (filter (λ e. e.crane == crane) entries)

-- a list of reports for each crane of the ship
abbrev pub lists_of : ShipView → List Entry → List (List Report)
lists_of ship entries = map (told_of entries) (range_with_len 0 (length ship.cranes))

-- what a log tells of each crane of the ship, or its first fault
abbrev pub reports_in : ShipView → List ℕ → Result (List (List Report)) WatchFault
reports_in ship text = do
  entries ← each (next_entry ship) [] (lines_of text)
  Ok (lists_of ship entries)
