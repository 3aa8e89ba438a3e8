-- What the gap and the ticks that were read are, and that the whole ship keeps its limits.
use Rattle.std.proofs.Common.{◌≡◌, ℕ, ◌+◌, ◌≤◌, Bool, false, List, length, Option, Some, None, Ok, sym, subst, inl, inr, arith, is_some}
use Rattle.std.specs.List.{range_with_len}
use Rattle.std.specs.Option.{option_map_or}
use Rattle.std.proofs.lemmas.Bool.{cases_Bool}
use Rattle.qc_num.proofs.ReadingLemmas.{bind_ok, same_ok}
use Rattle.toml.specs.Data.{Data, Members, get_member}
use Rattle.qc_model.specs.declared.crane.Crane.{Crane}
use Rattle.qc_model.specs.Numbers.{most_gap_by_places}
use Rattle.qc_ship.specs.Numbers.{most_margin, most_move_ticks}
use Rattle.qc_ship.specs.declared.fault.Key.{Key}
use Rattle.qc_ship.specs.declared.fault.Key.TheVariants as key
use Rattle.qc_ship.specs.declared.ship.Times.{Times}
use Rattle.qc_ship.specs.declared.ship.HatchPair.{HatchPair}
use Rattle.qc_ship.specs.declared.ship.NamePair.{NamePair}
use Rattle.qc_ship.specs.declared.ship.NameTick.{NameTick}
use Rattle.qc_ship.specs.Keys.{key_text}
use Rattle.qc_ship.specs.Ship.{most_gap, most_travel, IsShip}
use Rattle.qc_ship.specs.ShipValues.{required, number_in, number_at}
use Rattle.qc_ship.specs.ShipFile.{hatches_at, places_in, places_at, gives_places, gap_at, ordered_at, times_at, apart_at, before_at, cranes_at, not_before_at, ship_with}
use Rattle.qc_ship.proofs.ShipLaws.{number_in-bounds}
use Rattle.qc_ship.proofs.HatchLaws.{HasHatches-from, Places-from, HasPairs-from}
use Rattle.qc_ship.proofs.CraneLaws.{number_or-bounds, Cranes-from}
use Rattle.qc_ship.proofs.NameLaws.{HasOrder-from}
use Rattle.qc_ship.proofs.ReleaseLaws.{HasReleases-from}

number_at-bounds : (k : Key) (number low high : ℕ) (ms : Members) (n : ℕ) → number_at k number low high ms ≡ Ok n → (low ≤ n) × (n ≤ high)
number_at-bounds k number low high ms n e =
    let (d, found, read) = bind_ok (required k number ms) (number_in k number low high) n e in
    number_in-bounds k number low high d n read

gap_at-bounds : (ms : Members) (gap : ℕ) → gap_at ms ≡ Ok gap → (1 ≤ gap) × (gap ≤ most_gap (gives_places ms))
gap_at-bounds ms gap e =
    elim (cases_Bool (gives_places ms)) [
      | inl given ↦ rw given (number_at-bounds key.Clear 0 1 most_gap_by_places ms gap (rw given at e))
      | inr counted ↦ (
          let (margin, read, same) = bind_ok (number_at key.Margin 0 0 most_margin ms) (λ margin. Ok (margin + 1)) gap (rw counted at e) in
          let bounds = number_at-bounds key.Margin 0 0 most_margin ms margin read in
          let equal = same_ok same in
          rw counted (omega (arith, equal), omega (arith, equal, bounds.1)))
    ]

-- the times of a file
record TimesAreIn (in_decimetres : Bool) (times : Times) : Type 0 where
  gap : (1 ≤ times.gap) × (times.gap ≤ most_gap in_decimetres)
  travel : (1 ≤ times.travel) × (times.travel ≤ most_travel in_decimetres)
  deck_move : (1 ≤ times.deck_move) × (times.deck_move ≤ most_move_ticks)
  hold_move : (1 ≤ times.hold_move) × (times.hold_move ≤ most_move_ticks)
  cover : times.cover ≤ most_move_ticks

TimesAreIn-from : (ms : Members) (times : Times) → times_at ms ≡ Ok times → TimesAreIn (gives_places ms) times
unfolding times_at
TimesAreIn-from ms times e =
    let (gap, at_gap, e1) = bind_ok _ _ times e in
    let (travel, at_travel, e2) = bind_ok _ _ times e1 in
    let (deck_move, at_deck, e3) = bind_ok _ _ times e2 in
    let (hold_move, at_hold, e4) = bind_ok _ _ times e3 in
    let (cover, at_cover, e5) = bind_ok _ _ times e4 in
    let (ordered, at_ordered, e6) = bind_ok (ordered_at ms) _ times e5 in
    let P : Times → Type 0 = TimesAreIn (gives_places ms) in
    subst P (same_ok e6) (record {
      gap = gap_at-bounds ms gap at_gap;
      travel = number_at-bounds key.Travel 0 1 (most_travel (gives_places ms)) ms travel at_travel;
      deck_move = number_at-bounds key.DeckMove 0 1 most_move_ticks ms deck_move at_deck;
      hold_move = number_at-bounds key.HoldMove 0 1 most_move_ticks ms hold_move at_hold;
      cover = (number_or-bounds 0 key.Cover 0 0 most_move_ticks ms cover at_cover (omega arith) (omega arith)).1;
    })

-- where no places are given they are 1, 2 and so on
counted_places : (count : ℕ) (ms : Members) (places : List ℕ) → places_at count ms ≡ Ok places → gives_places ms ≡ false → places ≡ range_with_len 1 count
counted_places count ms places e none = at_none (get_member (key_text key.Places) ms) none e
  where
    at_none : (o : Option Data) → is_some o ≡ false → option_map_or (places_in count) o (Ok (range_with_len 1 count)) ≡ Ok places → places ≡ range_with_len 1 count
    at_none None none e = sym (same_ok e)
    at_none (Some d) none e = cc

-- parts that were read make a ship
pub IsShip-from_parts : (ms : Members) (hatches places : List ℕ) (times : Times) (apart : List HatchPair) (before : List NamePair) (not_before : List NameTick) (cranes : List Crane)
    → hatches_at ms ≡ Ok hatches → places_at (length hatches) ms ≡ Ok places → times_at ms ≡ Ok times → apart_at hatches ms ≡ Ok apart → before_at hatches ms ≡ Ok before → not_before_at hatches ms ≡ Ok not_before
    → cranes_at (gives_places ms) times.gap places ms ≡ Ok cranes → IsShip (ship_with (gives_places ms) hatches places times apart before not_before cranes)
IsShip-from_parts ms hatches places times apart before not_before cranes at_hatches at_places at_times at_apart at_before at_not_before at_cranes =
    let has = HasHatches-from ms hatches at_hatches in
    let are = Places-from (length hatches) ms places has.count.1 at_places in
    let within = TimesAreIn-from ms times at_times in
    let pairs = HasPairs-from hatches ms apart at_apart in
    let order = HasOrder-from hatches ms before at_before in
    let releases = HasReleases-from hatches ms not_before at_not_before in
    let along = Cranes-from (gives_places ms) times.gap (length hatches) places ms cranes are has.count.0 at_cranes in
    record {
      hatches = has;
      places = record { count = are.total; range = are.range; order = are.order; counted = counted_places (length hatches) ms places at_places };
      times = record { gap = within.gap; travel = within.travel; deck_move = within.deck_move; hold_move = within.hold_move; cover = within.cover };
      apart = record { count = pairs.0; hatches = pairs.1 };
      before = record { count = order.0; names = order.1 };
      not_before = record { count = releases.0; range = releases.1.0; once = releases.1.1 };
      cranes = record {
        count = along.count;
        ready = λ k d inside. (along.each_one k d inside).0;
        starts = λ k d inside. (along.each_one k d inside).1;
        reach = λ k d inside. (along.each_one k d inside).2;
        names = along.names;
        order = along.order;
      };
    }
