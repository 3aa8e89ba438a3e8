-- public: the ship file: the keys in their order, each with its checks; the first fault wins.
use Rattle.std.specs.Prelude.{ℕ, ◌+◌, ◌-◌, ℤ, pos, ◌+ℤ◌, List, [], length, slice_index, Bool, true, false, ◌&&◌, ◌==◌, ◌++◌, ◌∷◌, nat_lt, int_le, bytes_eq, decimal, find, if◌then◌else◌, Option, Some, None, Ok, Err, ok_or, option_map, is_some, codes}
use Rattle.std.specs.Ordering.{int_eq}
use Rattle.std.specs.List.{list_any, range_with_len}
use Rattle.std.specs.Option.{option_map_or, option_or}
use Rattle.std.specs.Str.{is_utf8}
use Rattle.toml.specs.Data.{Data, integer, string, array, table, no_items, item, Members, get_member}
use Rattle.toml.specs.Parse.{parse_document}
use Rattle.qc_num.specs.Reading.{◌>>=◌, each}
use Rattle.qc_model.specs.Names.{is_name}
use Rattle.qc_model.specs.declared.crane.Crane.{Crane}
use Rattle.qc_model.specs.declared.task.Phase.{Phase}
use Rattle.qc_model.specs.declared.task.Phase.TheVariants.{DeckOut, HoldOut, HoldIn, DeckIn}
use Rattle.qc_model.specs.Tasks.{phase_rank, phase_text}
use Rattle.qc_model.specs.Numbers.{most_cranes, most_gap_by_places, most_hatches, most_place, most_ready}
use Rattle.qc_ship.specs.Numbers.{greatest_hatch, most_hatch_pairs, most_margin, most_move_ticks, most_name_pairs, most_name_ticks}
use Rattle.qc_ship.specs.Keys.{key_text, fault}
use Rattle.qc_ship.specs.Ship.{ShipView, lowest_bay, highest_bay, most_travel, least_start, greatest_start}
use Rattle.qc_ship.specs.ShipValues.{Reading, required, integer_in, number_in, number_at, number_or, array_in, text_in, next_number, last}
use Rattle.qc_ship.specs.declared.ship.Times.{Times}
use Rattle.qc_ship.specs.declared.ship.HatchPair.{HatchPair}
use Rattle.qc_ship.specs.declared.ship.NamePair.{NamePair}
use Rattle.qc_ship.specs.declared.ship.NameTick.{NameTick}
use Rattle.qc_ship.specs.declared.ship.TaskName.{TaskName}
use Rattle.qc_ship.specs.declared.fault.Key.TheVariants as key
use Rattle.qc_ship.specs.declared.fault.ShipKind.TheVariants as kind

-- a hatch: 1 to 998, its bays wholly behind those of the hatch before it
abbrev pub hatch_in : List ℕ → Data → Reading ℕ
hatch_in before d = do
  hatch ← number_in key.Hatches (next_number before) 1 greatest_hatch d
  if option_map_or (λ previous. nat_lt (highest_bay previous) (lowest_bay hatch)) (last before) true
      then Ok hatch
      else Err (fault kind.HatchOrder key.Hatches (next_number before))

abbrev pub hatches_at : Members → Reading (List ℕ)
hatches_at ms = do
  d ← required key.Hatches 0 ms
  ds ← array_in key.Hatches 1 most_hatches d
  each hatch_in [] ds

-- a place: 1 to 6,000, behind the place before it
abbrev pub place_in : List ℕ → Data → Reading ℕ
place_in before d = do
  place ← number_in key.Places (next_number before) 1 most_place d
  if option_map_or (λ previous. nat_lt previous place) (last before) true
      then Ok place
      else Err (fault kind.HatchOrder key.Places (next_number before))

-- one place for each hatch
abbrev pub places_in : ℕ → Data → Reading (List ℕ)
places_in count d = do
  ds ← array_in key.Places count count d
  each place_in [] ds

-- the places of this many hatches: 1, 2 and so on where they aren't given
abbrev pub places_at : ℕ → Members → Reading (List ℕ)
places_at count ms = option_map_or (places_in count) (get_member (key_text key.Places) ms)
    (Ok (range_with_len 1 count))

-- whether places are given, which are in decimetres
abbrev pub gives_places : Members → Bool
gives_places ms = is_some (get_member (key_text key.Places) ms)

-- the least distance of neighbouring cranes: with places the clear distance, else the margin and one more
abbrev pub gap_at : Members → Reading ℕ
gap_at ms =
    if gives_places ms
    then number_at key.Clear 0 1 most_gap_by_places ms
    else (do
      margin ← number_at key.Margin 0 0 most_margin ms
      Ok (margin + 1))

-- `"ordered"` or `"free"`
abbrev pub restows_in : Data → Reading Bool
restows_in d = do
  text ← text_in key.Restows 0 d
  if bytes_eq text (codes "ordered") then Ok true
      else (if bytes_eq text (codes "free") then Ok false else Err (fault kind.Range key.Restows 0))

abbrev pub ordered_at : Members → Reading Bool
ordered_at ms = option_map_or restows_in (get_member (key_text key.Restows) ms) (Ok false)

-- an array of two integers, and nothing else
abbrev pub two_integers : Data → Option (ℤ × ℤ)
two_integers (array (item (integer a) (item (integer b) no_items))) = Some (a, b)
two_integers _ = None

-- the hatch of this number, if the ship has it
abbrev pub hatch_of : List ℕ → ℤ → Option ℕ
hatch_of hatches number = find (λ hatch. int_eq (pos hatch) number) hatches

-- two different hatches of the ship
abbrev pub pair_in : List ℕ → List HatchPair → Data → Reading HatchPair
pair_in hatches before d = do
  numbers ← ok_or (two_integers d) (fault kind.WrongKind key.Apart (next_number before))
  a ← ok_or (hatch_of hatches numbers.0) (fault kind.Apart key.Apart (next_number before))
  b ← ok_or (hatch_of hatches numbers.1) (fault kind.Apart key.Apart (next_number before))
  if a == b then Err (fault kind.Apart key.Apart (next_number before)) else Ok (record { a = a; b = b })

abbrev pub pairs_in : List ℕ → Data → Reading (List HatchPair)
pairs_in hatches d = do
  ds ← array_in key.Apart 0 most_hatch_pairs d
  each (pair_in hatches) [] ds

abbrev pub apart_at : List ℕ → Members → Reading (List HatchPair)
apart_at hatches ms = option_map_or (pairs_in hatches) (get_member (key_text key.Apart) ms) (Ok [])

-- an array of two texts, and nothing else
abbrev pub two_texts : Data → Option (List ℕ × List ℕ)
two_texts (array (item (string a) (item (string b) no_items))) = Some (a, b)
two_texts _ = None

-- the name of a task: its hatch, '-' and its phase
abbrev pub name_text : ℕ → Phase → List ℕ
name_text hatch phase = decimal hatch ++ 45 ∷ phase_text phase

-- the task of this phase that a text names, of a hatch of the ship
abbrev pub name_in_phase : List ℕ → List ℕ → Phase → Option TaskName
name_in_phase hatches text phase = option_map (λ hatch. record { hatch = hatch; phase = phase })
    (find (λ hatch. bytes_eq (name_text hatch phase) text) hatches)

-- the task that a text names, of a hatch of the ship and of any phase
abbrev pub name_in : List ℕ → List ℕ → Option TaskName
name_in hatches text = option_or (option_or (option_or (name_in_phase hatches text DeckOut)
    (name_in_phase hatches text HoldOut)) (name_in_phase hatches text HoldIn))
    (name_in_phase hatches text DeckIn)

abbrev pub same_name : TaskName → TaskName → Bool
same_name a b = (a.hatch == b.hatch) && (phase_rank a.phase == phase_rank b.phase)

-- the names of two different tasks of the ship
abbrev pub names_in : List ℕ → List NamePair → Data → Reading NamePair
names_in hatches before d = do
  texts ← ok_or (two_texts d) (fault kind.WrongKind key.Before (next_number before))
  first ← ok_or (name_in hatches texts.0) (fault kind.Task key.Before (next_number before))
  second ← ok_or (name_in hatches texts.1) (fault kind.Task key.Before (next_number before))
  if same_name first second then Err (fault kind.Same key.Before (next_number before))
      else Ok (record { first = first; second = second })

abbrev pub order_in : List ℕ → Data → Reading (List NamePair)
order_in hatches d = do
  ds ← array_in key.Before 0 most_name_pairs d
  each (names_in hatches) [] ds

-- the planner's own order of tasks
abbrev pub before_at : List ℕ → Members → Reading (List NamePair)
before_at hatches ms = option_map_or (order_in hatches) (get_member (key_text key.Before) ms) (Ok [])

-- an array of a text and an integer, and nothing else
abbrev pub text_and_integer : Data → Option (List ℕ × ℤ)
text_and_integer (array (item (string a) (item (integer n) no_items))) = Some (a, n)
text_and_integer _ = None

-- the name of a task of the ship that no entry before it names, and a tick
abbrev pub release_in : List ℕ → List NameTick → Data → Reading NameTick
release_in hatches before d = do
  parts ← ok_or (text_and_integer d) (fault kind.WrongKind key.NotBefore (next_number before))
  name ← ok_or (name_in hatches parts.0) (fault kind.Task key.NotBefore (next_number before))
  tick ← number_in key.NotBefore (next_number before) 0 most_ready (integer parts.1)
  if list_any (λ earlier. same_name earlier.name name) before
      then Err (fault kind.TaskTwice key.NotBefore (next_number before))
      else Ok (record { name = name; tick = tick })

abbrev pub releases_in : List ℕ → Data → Reading (List NameTick)
releases_in hatches d = do
  ds ← array_in key.NotBefore 0 most_name_ticks d
  each (release_in hatches) [] ds

-- the ticks before which tasks don't start
abbrev pub not_before_at : List ℕ → Members → Reading (List NameTick)
not_before_at hatches ms =
    option_map_or (releases_in hatches) (get_member (key_text key.NotBefore) ms) (Ok [])

-- a crane's own table
abbrev pub table_in : ℕ → Data → Reading Members
table_in number (table ms) = Ok ms
table_in number _ = Err (fault kind.WrongKind key.Crane number)

abbrev pub name_at : ℕ → Members → Reading (List ℕ)
name_at number ms = do
  d ← required key.Name number ms
  name ← text_in key.Name number d
  if is_name name then Ok name else Err (fault kind.Range key.Name number)

-- the place of the hatch of this number, counted from 1
abbrev pub hatch_place : List ℕ → ℕ → ℤ
hatch_place places hatch = pos (slice_index places (hatch - 1))

-- the start bay of a crane
abbrev pub bay_at : Bool → ℕ → Members → Reading ℤ
bay_at in_decimetres number ms =
    required key.Bay number ms
    >>= integer_in key.Bay number (least_start in_decimetres) (greatest_start in_decimetres)

-- the keys of a crane's table
abbrev pub crane_at : Bool → List ℕ → ℕ → Members → Reading Crane
crane_at in_decimetres places number ms = do
  name ← name_at number ms
  ready ← number_or 0 key.Ready number 0 most_ready ms
  bay ← bay_at in_decimetres number ms
  from ← number_or 1 key.From number 1 (length places) ms
  to ← number_or (length places) key.To number from (length places) ms
  Ok (record { name = name; ready = ready; bay = bay; from = hatch_place places from; to = hatch_place places to })

-- the bay is at least the gap behind the start bay of the crane before
abbrev pub keeps_gap : ℕ → List Crane → ℤ → Bool
keeps_gap gap before bay = option_map_or (λ previous. int_le (previous.bay +ℤ pos gap) bay)
    (last before) true

-- a crane: a table, with a name that no crane before it has, at least the gap behind the crane before it
abbrev pub crane_in : Bool → ℕ → List ℕ → List Crane → Data → Reading Crane
crane_in in_decimetres gap places before d = do
  ms ← table_in (next_number before) d
  crane ← crane_at in_decimetres places (next_number before) ms
  if list_any (λ earlier. bytes_eq earlier.name crane.name) before
      then Err (fault kind.NameTwice key.Name (next_number before))
      else (if keeps_gap gap before crane.bay
      then Ok crane
      else Err (fault kind.CraneOrder key.Crane (next_number before)))

abbrev pub cranes_at : Bool → ℕ → List ℕ → Members → Reading (List Crane)
cranes_at in_decimetres gap places ms = do
  d ← required key.Crane 0 ms
  ds ← array_in key.Crane 1 most_cranes d
  each (crane_in in_decimetres gap places) [] ds

-- the gap, the ticks and the order of restows
unfoldable pub times_at : Members → Reading Times
times_at ms = do
  gap ← gap_at ms
  travel ← number_at key.Travel 0 1 (most_travel (gives_places ms)) ms
  deck_move ← number_at key.DeckMove 0 1 most_move_ticks ms
  hold_move ← number_at key.HoldMove 0 1 most_move_ticks ms
  cover ← number_or 0 key.Cover 0 0 most_move_ticks ms
  ordered ← ordered_at ms
  Ok (record {
    gap = gap;
    travel = travel;
    deck_move = deck_move;
    hold_move = hold_move;
    cover = cover;
    ordered = ordered;
  })

-- the ship of these parts
abbrev pub ship_with :
    Bool → List ℕ → List ℕ → Times → List HatchPair → List NamePair → List NameTick → List Crane → ShipView
ship_with in_decimetres hatches places times apart before not_before cranes = record {
  hatches = hatches;
  places = places;
  in_decimetres = in_decimetres;
  gap = times.gap;
  travel = times.travel;
  deck_move = times.deck_move;
  hold_move = times.hold_move;
  cover = times.cover;
  ordered = times.ordered;
  apart = apart;
  before = before;
  not_before = not_before;
  cranes = cranes;
}

-- the ship of a table, or its first fault
unfoldable pub ship_of : Members → Reading ShipView
ship_of ms = do
  hatches ← hatches_at ms
  places ← places_at (length hatches) ms
  times ← times_at ms
  apart ← apart_at hatches ms
  before ← before_at hatches ms
  not_before ← not_before_at hatches ms
  cranes ← cranes_at (gives_places ms) times.gap places ms
  Ok (ship_with (gives_places ms) hatches places times apart before not_before cranes)

-- the table of a TOML text; bytes that aren't UTF-8 are no such text
abbrev pub table_of : List ℕ → Option Members
table_of bytes = if is_utf8 bytes then parse_document bytes else None

-- the ship of a file, or its first fault
abbrev pub ship_file : List ℕ → Reading ShipView
ship_file bytes = do
  ms ← ok_or (table_of bytes) (fault kind.NotToml key.Whole 0)
  ship_of ms
