-- The table of a ship is read as the ship.
use Rattle.std.proofs.Common.{◌≡◌, ◌≢◌, ℕ, zero, suc, ◌+◌, ◌-◌, ◌<◌, ◌≤◌, ℤ, pos, ◌+ℤ◌, ◌≤ℤ◌, Bool, true, false, ◌==◌, List, [], ◌∷◌, length, map, take, get_or, slice_index, All, AllPairs, Contains, Some, Ok, refl, sym, ap, ◌∙◌, inl, inr, arith, nat_lt, int_le, bytes_eq}
use Rattle.std.specs.List.{AllByRecursion as Each, position_or_len}
use Rattle.std.specs.Option.{option_map_or}
use Rattle.std.specs.Ordering.{int_eq}
use Rattle.std.proofs.lemmas.Bool.{cases_Bool, cases_lt, lt-ltb}
use Rattle.std.proofs.lemmas.Bool.Decides.{Decides-int_eq, nat_tests}
use Rattle.std.proofs.lemmas.Int.{ints}
use Rattle.std.proofs.lemmas.List.Elements.{recursion_from_All}
use Rattle.std.proofs.lemmas.List.Sums.{position_or_len_is}
use Rattle.std.proofs.lemmas.Slice.Eq.{bytes_eq-Decides}
use Rattle.qc_num.specs.Reading.{◌>>=◌, each}
use Rattle.toml.specs.Data.{Members, string}
use Rattle.qc_model.specs.Names.{is_name}
use Rattle.qc_model.specs.Numbers.{most_cranes, most_gap_by_places, most_hatches, most_place, most_ready, most_travel_by_places}
use Rattle.qc_model.specs.Numbers as bays
use Rattle.qc_model.specs.declared.crane.Crane.{Crane}
use Rattle.qc_model.specs.declared.task.Phase.TheVariants.{DeckOut}
use Rattle.qc_model.specs.Instance.{no_crane}
use Rattle.qc_ship.specs.Numbers.{greatest_hatch, most_hatch_pairs, most_margin, most_move_ticks, most_name_pairs, most_name_ticks}
use Rattle.qc_ship.specs.Ship.{HasHatches, IsShip, ShipView, greatest_start, highest_bay, least_start, lowest_bay}
use Rattle.qc_ship.specs.ShipFile.{apart_at, before_at, crane_at, crane_in, cranes_at, gives_places, hatch_in, hatch_of, hatch_place, hatches_at, keeps_gap, names_in, not_before_at, pair_in, place_in, places_at, release_in, restows_in, same_name, ship_of, times_at}
use Rattle.qc_ship.specs.ShipValues.{array_in, last, next_number}
use Rattle.qc_ship.specs.declared.fault.Key.TheVariants as key
use Rattle.qc_ship.specs.declared.ship.HatchPair.{HatchPair}
use Rattle.qc_ship.specs.declared.ship.NamePair.{NamePair}
use Rattle.qc_ship.specs.declared.ship.NameTick.{NameTick}
use Rattle.qc_ship.specs.declared.ship.TaskName.{TaskName}
use Rattle.qc_rest_files.specs.ShipTable.{apart_value, array_of, before_value, crane_members, crane_value, hatch_at, number, release_value, restows_text, ship_table, table_with}
use Rattle.qc_rest_files.proofs.Backs.{array_back, each_any, each_back, find_only, integer_back, last_test, none_ahead, number_back}
use Rattle.qc_rest_files.proofs.NameBack.{name_back, other_name}

-- ---- hatches and places

hatches_back : (hs : List ℕ) → HasHatches hs → (array_in key.Hatches 1 most_hatches (array_of number hs) >>= each hatch_in []) ≡ Ok hs
hatches_back hs has =
    rw (array_back key.Hatches 1 most_hatches number hs has.count.0 has.count.1)
    (each_back hatch_in number hs 0 (λ i lt.
    let h = get_or hs i 0 in
    let behind : option_map_or (λ previous. nat_lt (highest_bay previous) (lowest_bay h)) (last (take i hs)) true ≡ true =
    last_test (λ previous. nat_lt (highest_bay previous) (lowest_bay h)) hs i 0 (omega (arith, lt)) (λ k next. lt-ltb _ _ (has.order k i 0 (omega (arith, next)) lt)) in
    rw (number_back key.Hatches (next_number (take i hs)) 1 greatest_hatch h (has.range i 0 lt).0 (has.range i 0 lt).1, behind) refl))

module _ (ps : List ℕ) (range : All (λ p. (1 ≤ p) × (p ≤ most_place)) ps) (order : AllPairs (λ p q. p < q) ps) where
  places_back : (count : ℕ) → length ps ≡ count → (array_in key.Places count count (array_of number ps) >>= each place_in []) ≡ Ok ps
  places_back count long =
      rw (array_back key.Places count count number ps (omega (arith, long)) (omega (arith, long)))
      (each_back place_in number ps 0 (λ i lt.
      let p = get_or ps i 0 in
      let behind : option_map_or (λ previous. nat_lt previous p) (last (take i ps)) true ≡ true =
      last_test (λ previous. nat_lt previous p) ps i 0 (omega (arith, lt)) (λ k next. lt-ltb _ _ (order k i 0 (omega (arith, next)) lt)) in
      rw (number_back key.Places (next_number (take i ps)) 1 most_place p (range i 0 lt).0 (range i 0 lt).1, behind) refl))

  -- the number of the hatch at a place
  hatch_is : (k : ℕ) → k < length ps → hatch_at ps (pos (get_or ps k 0)) ≡ k + 1
  hatch_is k lt =
      let here = pos (get_or ps k 0) in
      let first : position_or_len (λ p. int_eq (pos p) here) ps ≡ k = position_or_len_is (λ p. int_eq (pos p) here) ps k 0 (omega (arith, lt))
      (λ i before. elim (cases_Bool (int_eq (pos (get_or ps i 0)) here)) [
        | inl same ↦ (let one = (Decides-int_eq (pos (get_or ps i 0)) here).0 same in let less = order i k 0 before lt in absurd (omega (arith, ints, one, less)))
        | inr apart ↦ apart
      ])
      (λ _. (Decides-int_eq here here).1 refl) in
      rw (first, lt-ltb k (length ps) lt) refl

place_of : (ps : List ℕ) (z : ℤ) → Contains (map pos ps) z → (k : ℕ) × (k < length ps) × (z ≡ pos (get_or ps k 0))
place_of [] z (k, lt, e) = absurd (omega arith)
place_of (p ∷ ps) z (zero, lt, e) = (0, omega arith, sym e)
place_of (p ∷ ps) z (suc k, lt, e) = let (j, low, is) = place_of ps z (k, omega arith, e) in (suc j, omega (arith, low), is)

-- ---- pairs

int_one : (a : ℕ) → int_eq (pos a) (pos a) ≡ true
int_one a = (Decides-int_eq (pos a) (pos a)).1 refl

same_pos : (a b : ℕ) → int_eq (pos a) (pos b) ≡ true → a ≡ b
same_pos a b e = let one = (Decides-int_eq (pos a) (pos b)).0 e in omega (arith, ints, one)

hatch_back : (hs : List ℕ) (h : ℕ) → Contains hs h → hatch_of hs (pos h) ≡ Some h
hatch_back hs h at = find_only (λ hatch. int_eq (pos hatch) (pos h)) hs h at (int_one h) (each_any (λ y. int_eq (pos y) (pos h) ≡ true → y ≡ h) hs (λ y e. same_pos y h e))

other : (a b : ℕ) → a ≢ b → (a == b) ≡ false
other a b differ = elim (cases_Bool (a == b)) [
  | inl same ↦ absurd (differ (grind (arith, nat_tests, same)))
  | inr apart ↦ apart
]

module _ (ship : ShipView) (is : IsShip ship) where
  abbrev hs : List ℕ
  hs = ship.hatches

  low : Each (λ h. h ≤ greatest_hatch) hs
  low = recursion_from_All (λ h. h ≤ greatest_hatch) hs (λ k d lt. (is.hatches.range k d lt).1)

  apart_back : (array_in key.Apart 0 most_hatch_pairs (array_of apart_value ship.apart) >>= each (pair_in hs) []) ≡ Ok ship.apart
  apart_back =
      let none : HatchPair = record { a = 0; b = 0 } in
      rw (array_back key.Apart 0 most_hatch_pairs apart_value ship.apart (omega arith) is.apart.count)
      (each_back (pair_in hs) apart_value ship.apart none (λ i lt.
      let pair = get_or ship.apart i none in
      let (a, b, differ) = is.apart.hatches i none lt in
      rw (hatch_back hs pair.a a, hatch_back hs pair.b b, other pair.a pair.b differ) refl))

  before_back : (array_in key.Before 0 most_name_pairs (array_of before_value ship.before) >>= each (names_in hs) []) ≡ Ok ship.before
  before_back =
      let no_name : TaskName = record { hatch = 0; phase = DeckOut } in
      let none : NamePair = record { first = no_name; second = no_name } in
      rw (array_back key.Before 0 most_name_pairs before_value ship.before (omega arith) is.before.count)
      (each_back (names_in hs) before_value ship.before none (λ i lt.
      let pair = get_or ship.before i none in
      let (a, b, differ) = is.before.names i none lt in
      rw (name_back hs low pair.first.hatch a pair.first.phase, name_back hs low pair.second.hatch b pair.second.phase, other_name pair.first pair.second differ) refl))

  releases_back : (array_in key.NotBefore 0 most_name_ticks (array_of release_value ship.not_before) >>= each (release_in hs) []) ≡ Ok ship.not_before
  releases_back =
      let none : NameTick = record { name = record { hatch = 0; phase = DeckOut }; tick = 0 } in
      let es = ship.not_before in
      rw (array_back key.NotBefore 0 most_name_ticks release_value es (omega arith) is.not_before.count)
      (each_back (release_in hs) release_value es none (λ i lt.
      let e = get_or es i none in
      let (at, soon) = is.not_before.range i none lt in
      let new = none_ahead (λ earlier. same_name earlier.name e.name) es i none (omega (arith, lt)) (λ k before. other_name (get_or es k none).name e.name (is.not_before.once k i none before lt)) in
      rw (name_back hs low e.name.hatch at e.name.phase, number_back key.NotBefore (next_number (take i es)) 0 most_ready e.tick (omega arith) soon, new) refl))

  -- ---- cranes

  crane_back : (number : ℕ) (c : Crane) → is_name c.name ≡ true → c.ready ≤ most_ready
      → (least_start ship.in_decimetres ≤ℤ c.bay) × (c.bay ≤ℤ greatest_start ship.in_decimetres)
      → Contains (map pos ship.places) c.from × Contains (map pos ship.places) c.to × (c.from ≤ℤ c.to)
      → crane_at ship.in_decimetres ship.places number (crane_members ship.places c) ≡ Ok c
  crane_back number c named ready starts (from_at, to_at, order) =
      let ps = ship.places in
      let (i, i_low, from_is) = place_of ps c.from from_at in
      let (j, j_low, to_is) = place_of ps c.to to_at in
      let from : hatch_at ps c.from ≡ i + 1 = ap (hatch_at ps) from_is ∙ hatch_is ps is.places.range is.places.order i i_low in
      let to : hatch_at ps c.to ≡ j + 1 = ap (hatch_at ps) to_is ∙ hatch_is ps is.places.range is.places.order j j_low in
      let up : i ≤ j = elim (cases_lt j i) [
        | inl under ↦ (let less = is.places.order j i 0 under i_low in absurd (omega (arith, ints, order, from_is, to_is, less)))
        | inr past ↦ omega (arith, past)
      ] in
      let from_place : hatch_place ps (hatch_at ps c.from) ≡ c.from = ap (hatch_place ps) from ∙ ap (λ (n : ℕ). pos (slice_index ps n)) (omega arith) ∙ sym from_is in
      let to_place : hatch_place ps (hatch_at ps c.to) ≡ c.to = ap (hatch_place ps) to ∙ ap (λ (n : ℕ). pos (slice_index ps n)) (omega arith) ∙ sym to_is in
      rw (
        named,
        number_back key.Ready number 0 most_ready c.ready (omega arith) ready,
        integer_back key.Bay number (least_start ship.in_decimetres) (greatest_start ship.in_decimetres) c.bay starts.0 starts.1,
        number_back key.From number 1 (length ps) (hatch_at ps c.from) (omega (arith, from)) (omega (arith, from, i_low)),
        number_back key.To number (hatch_at ps c.from) (length ps) (hatch_at ps c.to) (omega (arith, from, to, up)) (omega (arith, to, j_low)),
        from_place,
        to_place,
      ) refl

  module _ (named : (k : ℕ) → k < length ship.cranes → is_name (get_or ship.cranes k no_crane).name ≡ true) where
    cranes_back : (array_in key.Crane 1 most_cranes (array_of (crane_value ship.places) ship.cranes)
        >>= each (crane_in ship.in_decimetres ship.gap ship.places) []) ≡ Ok ship.cranes
    cranes_back =
        let cs = ship.cranes in
        rw (array_back key.Crane 1 most_cranes (crane_value ship.places) cs is.cranes.count.0 is.cranes.count.1)
        (each_back (crane_in ship.in_decimetres ship.gap ship.places) (crane_value ship.places) cs no_crane (λ i lt.
        let c = get_or cs i no_crane in
        let new = none_ahead (λ earlier. bytes_eq earlier.name c.name) cs i no_crane (omega (arith, lt)) (λ k before. other_text (get_or cs k no_crane).name c.name (is.cranes.names k i no_crane before lt)) in
        let behind : keeps_gap ship.gap (take i cs) c.bay ≡ true =
        last_test (λ previous. int_le (previous.bay +ℤ pos ship.gap) c.bay) cs i no_crane (omega (arith, lt)) (λ k next. is_under _ _ (is.cranes.order k i no_crane (omega (arith, next)) lt)) in
        rw (
          crane_back (next_number (take i cs)) c (named i lt) (is.cranes.ready i no_crane lt) (is.cranes.starts i no_crane lt) (is.cranes.reach i no_crane lt),
          new,
          behind,
        ) refl))
      where
        other_text : (a b : List ℕ) → a ≢ b → bytes_eq a b ≡ false
        other_text a b differ = elim (cases_Bool (bytes_eq a b)) [
          | inl same ↦ absurd (differ ((bytes_eq-Decides a b).0 same))
          | inr apart ↦ apart
        ]

        is_under : (x y : ℤ) → x ≤ℤ y → int_le x y ≡ true
        is_under x y under = grind (arith, ints, under)

    -- ---- the whole

    from_parts : (ms : Members) → hatches_at ms ≡ Ok hs → places_at (length hs) ms ≡ Ok ship.places
        → times_at ms ≡ Ok (record { gap = ship.gap; travel = ship.travel; deck_move = ship.deck_move; hold_move = ship.hold_move; cover = ship.cover; ordered = ship.ordered })
        → apart_at hs ms ≡ Ok ship.apart → before_at hs ms ≡ Ok ship.before → not_before_at hs ms ≡ Ok ship.not_before
        → cranes_at (gives_places ms) ship.gap ship.places ms ≡ Ok ship.cranes
        → ship_of ms ≡ Ok (record ship { in_decimetres = gives_places ms })
    unfolding ship_of
    from_parts ms hatches places times apart before not_before cranes =
        rw (hatches, places, times, apart, before, not_before, cranes) refl

    at_hatches : (b : Bool) → hatches_at (table_with b ship) ≡ Ok hs
    at_hatches true = hatches_back hs is.hatches
    at_hatches false = hatches_back hs is.hatches

    at_places : (b : Bool) → ship.in_decimetres ≡ b → places_at (length hs) (table_with b ship) ≡ Ok ship.places
    at_places true given = places_back ship.places is.places.range is.places.order (length hs) is.places.count
    at_places false none = ap Ok (sym (is.places.counted none))

    restows_back : (o : Bool) → restows_in (string (restows_text o)) ≡ Ok o
    restows_back true = refl
    restows_back false = refl

    at_times : (b : Bool) → ship.in_decimetres ≡ b → times_at (table_with b ship)
        ≡ Ok (record { gap = ship.gap; travel = ship.travel; deck_move = ship.deck_move; hold_move = ship.hold_move; cover = ship.cover; ordered = ship.ordered })
    unfolding times_at
    at_times true given =
        let t = is.times in
        let gap = rw given at t.gap in
        let travel = rw given at t.travel in
        rw (
          number_back key.Clear 0 1 most_gap_by_places ship.gap gap.0 gap.1,
          number_back key.Travel 0 1 most_travel_by_places ship.travel travel.0 travel.1,
          number_back key.DeckMove 0 1 most_move_ticks ship.deck_move t.deck_move.0 t.deck_move.1,
          number_back key.HoldMove 0 1 most_move_ticks ship.hold_move t.hold_move.0 t.hold_move.1,
          number_back key.Cover 0 0 most_move_ticks ship.cover (omega arith) t.cover,
          restows_back ship.ordered,
        ) refl
    at_times false none =
        let t = is.times in
        let gap : (1 ≤ ship.gap) × (ship.gap ≤ 21) = rw none at t.gap in
        let travel = rw none at t.travel in
        let one : ship.gap - 1 + 1 ≡ ship.gap = omega (arith, gap.0) in
        rw (
          number_back key.Margin 0 0 most_margin (ship.gap - 1) (omega arith) (omega (arith, gap.1)),
          one,
          number_back key.Travel 0 1 bays.most_travel ship.travel travel.0 travel.1,
          number_back key.DeckMove 0 1 most_move_ticks ship.deck_move t.deck_move.0 t.deck_move.1,
          number_back key.HoldMove 0 1 most_move_ticks ship.hold_move t.hold_move.0 t.hold_move.1,
          number_back key.Cover 0 0 most_move_ticks ship.cover (omega arith) t.cover,
          restows_back ship.ordered,
        ) refl

    at_apart : (b : Bool) → apart_at hs (table_with b ship) ≡ Ok ship.apart
    at_apart true = apart_back
    at_apart false = apart_back

    at_before : (b : Bool) → before_at hs (table_with b ship) ≡ Ok ship.before
    at_before true = before_back
    at_before false = before_back

    at_not_before : (b : Bool) → not_before_at hs (table_with b ship) ≡ Ok ship.not_before
    at_not_before true = releases_back
    at_not_before false = releases_back

    gives : (b : Bool) → gives_places (table_with b ship) ≡ b
    gives true = refl
    gives false = refl

    at_cranes : (b : Bool) → ship.in_decimetres ≡ b → cranes_at b ship.gap ship.places (table_with b ship) ≡ Ok ship.cranes
    at_cranes true given = rw given at cranes_back
    at_cranes false none = rw none at cranes_back

    by : (b : Bool) → ship.in_decimetres ≡ b → ship_of (table_with b ship) ≡ Ok ship
    by b is_b =
        let ms = table_with b ship in
        from_parts ms (at_hatches b) (at_places b is_b) (at_times b is_b) (at_apart b) (at_before b) (at_not_before b)
        (ap (λ (d : Bool). cranes_at d ship.gap ship.places ms) (gives b) ∙ at_cranes b is_b)
        ∙ ap (λ (d : Bool). Ok (record ship { in_decimetres = d })) (gives b ∙ sym is_b)

    pub ship_back : ship_of (ship_table ship) ≡ Ok ship
    ship_back = by ship.in_decimetres refl
