-- public: a ship: its hatches, places, times and cranes.
use Rattle.std.specs.Prelude.{◌≡◌, ◌≢◌, ℕ, ◌+◌, ◌-◌, ◌%◌, ◌<◌, ◌≤◌, ℤ, pos, negsuc, ◌+ℤ◌, ◌≤ℤ◌, Bool, false, ◌&&◌, ◌==◌, nat_le, if◌then◌else◌, List, length, map, slice_index, All, AllPairs, Contains, Option, option_map, position}
use Rattle.std.specs.List.{range_with_len}
use Rattle.qc_model.specs.declared.crane.Crane.{Crane}
use Rattle.qc_model.specs.Numbers.{most_cranes, most_gap_by_places, most_hatches, most_place, most_ready, most_travel_by_places}
use Rattle.qc_model.specs.Numbers as by_bays
use Rattle.qc_ship.specs.Numbers.{greatest_hatch, most_hatch_pairs, most_move_ticks, most_name_pairs, most_name_ticks}
use Rattle.qc_ship.specs.declared.ship.HatchPair.{HatchPair}
use Rattle.qc_ship.specs.declared.ship.NamePair.{NamePair}
use Rattle.qc_ship.specs.declared.ship.NameTick.{NameTick}

-- what a ship file says; counts, gaps and ticks are naturals
pub record ShipView : Type 0 where
  -- hatch numbers, bow to stern
  pub hatches : List ℕ
  -- the crane bay of each hatch
  pub places : List ℕ
  -- whether crane bays are places in decimetres, which the file gives
  pub in_decimetres : Bool
  -- how many crane bays neighbouring cranes are apart at least
  pub gap : ℕ
  -- ticks of travel per crane bay
  pub travel : ℕ
  pub deck_move : ℕ
  pub hold_move : ℕ
  pub cover : ℕ
  -- whether a container that is discharged and loaded is discharged first
  pub ordered : Bool
  pub apart : List HatchPair
  -- the planner's own order of tasks
  pub before : List NamePair
  -- the tasks that the planner lets start at no earlier tick than the one that stands with them
  pub not_before : List NameTick
  -- along the rail
  pub cranes : List Crane

-- the bays of a hatch: an even one has the bays beside it too
abbrev pub lowest_bay : ℕ → ℕ
lowest_bay hatch = if hatch % 2 == 0 then hatch - 1 else hatch

abbrev pub highest_bay : ℕ → ℕ
highest_bay hatch = if hatch % 2 == 0 then hatch + 1 else hatch

-- the hatch has a cell's bay among its bays
abbrev pub takes : ℕ → ℕ → Bool
takes hatch cell_bay = nat_le (lowest_bay hatch) cell_bay && nat_le cell_bay (highest_bay hatch)

-- the place of the hatch that takes a bay
abbrev pub place_of_bay : ShipView → ℕ → Option ℤ
place_of_bay ship cell_bay =
    option_map (λ k. pos (slice_index ship.places k))
    (position (λ hatch. takes hatch cell_bay) ship.hatches)

-- the last place, which is the greatest since places rise
abbrev pub greatest_place : ShipView → ℕ
greatest_place ship = slice_index ship.places (length ship.places - 1)

-- the limits with crane bays 1, 2 and so on, and with places in decimetres
abbrev pub most_gap : Bool → ℕ
most_gap in_decimetres = if in_decimetres then most_gap_by_places else by_bays.most_gap

abbrev pub most_travel : Bool → ℕ
most_travel in_decimetres = if in_decimetres then most_travel_by_places else by_bays.most_travel

abbrev pub least_start : Bool → ℤ
least_start in_decimetres = if in_decimetres then negsuc 9999 else negsuc 199

abbrev pub greatest_start : Bool → ℤ
greatest_start in_decimetres = if in_decimetres then pos 16000 else pos 300

-- 1 to 60 hatches of 1 to 998, each with its bays wholly behind those of the hatches before it
pub record HasHatches (hatches : List ℕ) : Type 0 where
  pub count : (1 ≤ length hatches) × (length hatches ≤ most_hatches)
  pub range : All (λ h. (1 ≤ h) × (h ≤ greatest_hatch)) hatches
  pub order : AllPairs (λ g h. highest_bay g < lowest_bay h) hatches

-- a place for each hatch, rising from 1 to 6,000; 1, 2 and so on where they aren't given
pub record HasPlaces (ship : ShipView) : Type 0 where
  pub count : length ship.places ≡ length ship.hatches
  pub range : All (λ p. (1 ≤ p) × (p ≤ most_place)) ship.places
  pub order : AllPairs (λ p q. p < q) ship.places
  pub counted : ship.in_decimetres ≡ false → ship.places ≡ range_with_len 1 (length ship.hatches)

-- gap and ticks are within their limits
pub record HasTimes (ship : ShipView) : Type 0 where
  pub gap : (1 ≤ ship.gap) × (ship.gap ≤ most_gap ship.in_decimetres)
  pub travel : (1 ≤ ship.travel) × (ship.travel ≤ most_travel ship.in_decimetres)
  pub deck_move : (1 ≤ ship.deck_move) × (ship.deck_move ≤ most_move_ticks)
  pub hold_move : (1 ≤ ship.hold_move) × (ship.hold_move ≤ most_move_ticks)
  pub cover : ship.cover ≤ most_move_ticks

-- at most 100 pairs, each of two different hatches of the ship
pub record HasPairs (ship : ShipView) : Type 0 where
  pub count : length ship.apart ≤ most_hatch_pairs
  pub hatches : All (λ pair. Contains ship.hatches pair.a × Contains ship.hatches pair.b
      × (pair.a ≢ pair.b)) ship.apart

-- at most 240 pairs, each of two different tasks at hatches of the ship
pub record HasOrder (ship : ShipView) : Type 0 where
  pub count : length ship.before ≤ most_name_pairs
  pub names : All (λ pair. Contains ship.hatches pair.first.hatch
      × Contains ship.hatches pair.second.hatch × (pair.first ≢ pair.second)) ship.before

-- at most 240 tasks at hatches of the ship, each named once, with ticks of at most 1,000,000
pub record HasReleases (ship : ShipView) : Type 0 where
  pub count : length ship.not_before ≤ most_name_ticks
  pub range : All (λ entry. Contains ship.hatches entry.name.hatch × (entry.tick ≤ most_ready)) ship.not_before
  pub once : AllPairs (λ entry later. entry.name ≢ later.name) ship.not_before

-- 1 to 8 cranes with different names, each at least the gap behind the one before it, reaching from
-- the place of a hatch to that of the same or a later one
pub record HasCranes (ship : ShipView) : Type 0 where
  pub count : (1 ≤ length ship.cranes) × (length ship.cranes ≤ most_cranes)
  pub ready : All (λ c. c.ready ≤ most_ready) ship.cranes
  pub starts : All (λ c. (least_start ship.in_decimetres ≤ℤ c.bay)
      × (c.bay ≤ℤ greatest_start ship.in_decimetres)) ship.cranes
  pub reach : All (λ c. Contains (map pos ship.places) c.from × Contains (map pos ship.places) c.to
      × (c.from ≤ℤ c.to)) ship.cranes
  pub names : AllPairs (λ c d. c.name ≢ d.name) ship.cranes
  pub order : AllPairs (λ c d. (c.bay +ℤ pos ship.gap) ≤ℤ d.bay) ship.cranes

-- what every ship keeps
pub record IsShip (ship : ShipView) : Type 0 where
  pub hatches : HasHatches ship.hatches
  pub places : HasPlaces ship
  pub times : HasTimes ship
  pub apart : HasPairs ship
  pub before : HasOrder ship
  pub not_before : HasReleases ship
  pub cranes : HasCranes ship
