-- By the longest of its ways too, a crane has had the time, when a schedule ends, for what its frame says.
use Rattle.std.proofs.Common.{[], ◌≡◌, ℕ, ◌+◌, ◌*◌, ◌<◌, ◌≤◌, min, ◌⊎◌, inl, inr, Bool, true, ◌||◌, eqb, nat_lt, List, ◌∷◌, length, map, Option, is_some, ℤ, pos, ◌≤ℤ◌, refl, ap, sym, subst, ◌∙◌, arith, filter}
use Rattle.std.proofs.Math.Nat.{mul-add, mul-le-mul_left, mul-zero}
use Rattle.std.proofs.lemmas.Bool.{cond_both, eqb-true, false≢true, le-ltb, or_cases}
use Rattle.std.proofs.lemmas.Int.{by_lt_z, int_max_is, int_min_is, ints}
use Rattle.std.proofs.lemmas.Nat.{mul-le}
use Rattle.std.specs.Int.{int_max, int_min}
use Rattle.std.specs.List.{list_all, range_with_len}
use Rattle.qc_close.specs.Model.{Frame, Slot, Turn, OneWay, Free, Follows, crane_in, all_done, barred_frame, barring, both_done, done_in, lies, own_or_left, at_least_zero, bays_between, bays_up, GoesBy, frame, frame_of, own, turn_high, InstanceView, Valid, bay_of, crane, scaled, Feasible, crane_of, ends, start_of, highest, lowest, task_numbers, ticks_over, frame_along, longest_way, own_bays, own_way, tasks_at, trip_along, trip_from, way_at, way_frame, Trip, Way}
use Rattle.qc_model.proofs.Bays.{bays}
use Rattle.qc_model.proofs.Scaled.{scaled_le}
use Rattle.qc_close.proofs.Extremes.{among_done, greatest_among}
use Rattle.qc_laws.proofs.BarredLemmas.{barred_time}
use Rattle.qc_laws.proofs.FrameLemmas.{HasTime, at_bay, beside, does_open, feasible_by, on_open, own_on, sums}
use Rattle.qc_close.proofs.LoopLemmas.{least_steps}
use Rattle.qc_close.proofs.Members.{Among, among_filter, among_range, filter_among, map_among, range_among}
use Rattle.qc_laws.proofs.Paths.{cut, cut_at, goes_beyond, max_first, max_second, min_first, min_second, moved, scaled_up}
use Rattle.qc_laws.proofs.Tracks.{allows, goes_soon, spent, starts_within, track, waits, works}
use Rattle.qc_laws.proofs.Trips.{AreTimely, HasGone, goes_along, high_rises, low_falls, stays_within, timely_from}
use Rattle.qc_close.proofs.LongestLemmas.{longest_is}

-- ---- ways beyond a trip

-- it grows by as much as the bays to which it comes lie further away
module _ (at low high : ℤ) (at_low : low ≤ℤ at) (at_high : at ≤ℤ high) (l h far deep : ℤ) (low_is : l ≤ℤ low)
    (high_is : high ≤ℤ h) (far_is : h ≤ℤ far) (deep_is : deep ≤ℤ l) where
  abbrev aside : ℤ → ℤ → ℕ
  aside l h =
      min (2 * bays_up high h + 2 * bays_up l low) (min (bays_up at h + 2 * bays_up l low) (2 * bays_up high h + bays_up l at))

  pub aside_grows : aside l h + (bays_up h far + bays_up deep l) ≤ aside deep far
  aside_grows =
      let one : bays_up high far ≡ bays_up high h + bays_up h far = omega (arith, bays, high_is, far_is) in
      let two : bays_up deep low ≡ bays_up l low + bays_up deep l = omega (arith, bays, low_is, deep_is) in
      let three : bays_up at far ≡ bays_up at h + bays_up h far = omega (arith, bays, high_is, far_is, at_high) in
      let four : bays_up deep at ≡ bays_up l at + bays_up deep l = omega (arith, bays, low_is, deep_is, at_low) in
      omega (arith, one, two, three, four)

-- as many times each
times_aside : (n u v p q : ℕ) → n * min (2 * u + 2 * v) (min (p + 2 * v) (2 * u + q))
    ≤ min (2 * (n * u) + 2 * (n * v)) (min (n * p + 2 * (n * v)) (2 * (n * u) + n * q))
times_aside n u v p q =
    let least = min (2 * u + 2 * v) (min (p + 2 * v) (2 * u + q)) in
    let one = mul-le-mul_left n (first u v p q) in
    let two = mul-le-mul_left n (second u v p q) in
    let three = mul-le-mul_left n (third u v p q) in
    let a = parts n (u + u) (v + v) in
    let b = parts n p (v + v) in
    let c = parts n (u + u) q in
    let uu = mul-add n u u in
    let vv = mul-add n v v in
    omega (arith, one, two, three, a, b, c, uu, vv)
  where
    first : (u v p q : ℕ) → min (2 * u + 2 * v) (min (p + 2 * v) (2 * u + q)) ≤ (u + u) + (v + v)
    first u v p q = omega arith

    second : (u v p q : ℕ) → min (2 * u + 2 * v) (min (p + 2 * v) (2 * u + q)) ≤ p + (v + v)
    second u v p q = omega arith

    third : (u v p q : ℕ) → min (2 * u + 2 * v) (min (p + 2 * v) (2 * u + q)) ≤ (u + u) + q
    third u v p q = omega arith

    parts : (n a b : ℕ) → n * (a + b) ≡ n * a + n * b
    parts n a b = mul-add n a b

-- ---- a bay that is at least all of some, and of which something holds that holds of each

module _ (inst : InstanceView) (P : ℤ → Type 0) where
  max_holds : (x y : ℤ) → P x → P y → P (int_max x y)
  max_holds x y p q = by_lt_z x y
      (λ less. subst P (sym (max_second x y (omega (arith, ints, less)))) q)
      (λ most. subst P (sym (max_first x y most)) p)

  min_holds : (x y : ℤ) → P x → P y → P (int_min x y)
  min_holds x y p q = by_lt_z x y
      (λ less. subst P (sym (min_first x y (omega (arith, ints, less)))) p)
      (λ most. subst P (sym (min_second x y most)) q)

  pub record IsTop (x : ℤ) (js : List ℕ) : Type 0 where
    pub top : ℤ
    pub from : x ≤ℤ top
    pub most : (j : ℕ) → Among js j → bay_of inst j ≤ℤ top
    pub holds : P top

  pub top_of : (x : ℤ) (js : List ℕ) → P x → ((j : ℕ) → Among js j → P (bay_of inst j)) → IsTop x js
  top_of x [] first each = record { top = x; from = omega (arith, ints); most = λ j a. absurd a; holds = first }
  top_of x (j ∷ js) first each =
      let rest = top_of x js first (λ k a. each k (inr a)) in
      let is = int_max_is rest.top (bay_of inst j) in
      record {
        top = int_max rest.top (bay_of inst j);
        from = omega (arith, ints, is, rest.from);
        most = all rest.top rest.most;
        holds = max_holds rest.top (bay_of inst j) rest.holds (each j (inl refl));
      }
    where
      all : (z : ℤ) → ((k : ℕ) → Among js k → bay_of inst k ≤ℤ z) → (k : ℕ) → Among (j ∷ js) k
          → bay_of inst k ≤ℤ int_max z (bay_of inst j)
      all z most k (inl e) = let same = ap (bay_of inst) e in omega (arith, ints, same, int_max_is z (bay_of inst j))
      all z most k (inr a) = let le = most k a in omega (arith, ints, le, int_max_is z (bay_of inst j))

  -- and one that is at most all
  pub record IsBottom (x : ℤ) (js : List ℕ) : Type 0 where
    pub bottom : ℤ
    pub to : bottom ≤ℤ x
    pub least : (j : ℕ) → Among js j → bottom ≤ℤ bay_of inst j
    pub holds : P bottom

  pub bottom_of : (x : ℤ) (js : List ℕ) → P x → ((j : ℕ) → Among js j → P (bay_of inst j)) → IsBottom x js
  bottom_of x [] first each = record { bottom = x; to = omega (arith, ints); least = λ j a. absurd a; holds = first }
  bottom_of x (j ∷ js) first each =
      let rest = bottom_of x js first (λ k a. each k (inr a)) in
      let is = int_min_is rest.bottom (bay_of inst j) in
      record {
        bottom = int_min rest.bottom (bay_of inst j);
        to = omega (arith, ints, is, rest.to);
        least = all rest.bottom rest.least;
        holds = min_holds rest.bottom (bay_of inst j) rest.holds (each j (inl refl));
      }
    where
      all : (z : ℤ) → ((k : ℕ) → Among js k → z ≤ℤ bay_of inst k) → (k : ℕ) → Among (j ∷ js) k
          → int_min z (bay_of inst j) ≤ℤ bay_of inst k
      all z least k (inl e) = let same = ap (bay_of inst) e in omega (arith, ints, same, int_min_is z (bay_of inst j))
      all z least k (inr a) = let le = least k a in omega (arith, ints, le, int_min_is z (bay_of inst j))

  -- the frame of some tasks comes no further than to one of them or to the berth
  highest_holds : (j : ℕ) (js : List ℕ) → ((k : ℕ) → Among (j ∷ js) k → P (bay_of inst k)) → P (highest inst j js)
  highest_holds j [] each = each j (inl refl)
  highest_holds j (i ∷ is) each =
      max_holds (bay_of inst j) (highest inst i is) (each j (inl refl)) (highest_holds i is (λ k a. each k (inr a)))

  lowest_holds : (j : ℕ) (js : List ℕ) → ((k : ℕ) → Among (j ∷ js) k → P (bay_of inst k)) → P (lowest inst j js)
  lowest_holds j [] each = each j (inl refl)
  lowest_holds j (i ∷ is) each =
      min_holds (bay_of inst j) (lowest inst i is) (each j (inl refl)) (lowest_holds i is (λ k a. each k (inr a)))

  pub frame_high_holds : (turn : Turn) (w : ℕ) (os : List ℕ) → P (crane inst w).bay
      → ((j : ℕ) → Among os j → P (bay_of inst j)) → P (frame_of inst turn w os).high
  frame_high_holds turn w [] berth each = berth
  frame_high_holds turn w (j ∷ js) berth each = by turn
    where
      by : (turn : Turn) → P (turn_high turn (crane inst w).bay (highest inst j js))
      by OneWay = highest_holds j js each
      by Free = max_holds (highest inst j js) (crane inst w).bay (highest_holds j js each) berth

  pub frame_low_holds : (turn : Turn) (w : ℕ) (os : List ℕ) → P (crane inst w).bay
      → ((j : ℕ) → Among os j → P (bay_of inst j)) → P (frame_of inst turn w os).low
  frame_low_holds turn w [] berth each = berth
  frame_low_holds turn w (j ∷ js) berth each =
      min_holds (lowest inst j js) (crane inst w).bay (lowest_holds j js each) berth

-- ---- the way by the tasks at a bay

module _ (inst : InstanceView) (turn : Turn) (cranes : List (Option ℕ)) (sched : List Slot) (valid : Valid inst)
    (g : GoesBy turn inst sched) (follows : Follows inst cranes sched) (w : ℕ) (is_crane : w < length inst.cranes) where
  abbrev feasible : Feasible inst sched
  feasible = feasible_by turn inst sched g

  abbrev count : ℕ
  count = length inst.tasks

  abbrev end : ℕ
  end = ends inst sched

  abbrev berth : ℤ
  berth = (crane inst w).bay

  abbrev ready : ℕ
  ready = (crane inst w).ready

  abbrev goes_at : ℕ → ℤ
  goes_at m = track inst sched valid feasible w is_crane m

  abbrev place_of : ℤ → ℤ
  place_of y = scaled inst 1 y

  abbrev On : ℕ → Type 0
  On j = (j < count) × (crane_of sched j ≡ w)

  abbrev Time : Frame → Type 0
  Time fr = HasTime inst turn cranes sched valid g follows w fr

  abbrev barred : Frame
  barred = barred_frame inst turn cranes w

  abbrev usual : Frame
  usual = frame inst turn cranes w

  has : Time (barred_frame inst turn cranes w)
  has = barred_time inst turn cranes sched valid g follows w

  abbrev opens : ℕ → Bool
  opens j = does_open inst turn cranes sched valid g follows w j

  abbrev extra : ℕ
  extra = beside inst turn cranes sched valid g follows w

  abbrev own_ticks : ℕ
  own_ticks = ticks_over inst (own inst cranes w)

  lies_at : (j : ℕ) → j < count → pos (at_least_zero (bay_of inst j)) ≡ bay_of inst j
  lies_at j low = at_bay inst turn cranes sched valid g follows w j low

  begins : goes_at 0 ≡ place_of berth
  begins = waits inst sched valid feasible w is_crane 0 (omega arith) (omega arith)

  -- what the crane has spent where its neighbours bar it is over by the end
  idle : (os : List ℕ) → os ≡ own inst cranes w → ((frame_of inst turn w os).works ≡ true) ⊎ (barred.gone ≤ ready)
  idle (j ∷ js) e = inl refl
  idle [] e = inr (by (greatest_among (frame inst turn cranes w).gone (all_done inst turn cranes w (own_or_left inst cranes w))))
    where
      none : (low high : ℤ) → done_in inst turn cranes w low high ≤ ready
      none low high =
          cond_both (list_all (λ j. is_some (crane_in cranes j) || lies inst low high j) (task_numbers inst))
          (both_done inst turn cranes w (filter (lies inst low high) (own inst cranes w)) (barring inst cranes w low high)) 0
          (λ n. n ≤ ready)
          (λ _. subst (λ (os : List ℕ). both_done inst turn cranes w (filter (lies inst low high) os) (barring inst cranes w low high) ≤ ready) e (omega arith))
          (λ _. omega arith)

      by : {n : ℕ} → Among ((frame inst turn cranes w).gone ∷ all_done inst turn cranes w (own_or_left inst cranes w)) n → n ≤ ready
      by (inl same) = let is = ap (λ os. (frame_of inst turn w os).gone) e in omega (arith, same, is)
      by (inr a) = among_done inst turn cranes w (λ n. n ≤ ready) none (own_or_left inst cranes w) _ a

  barred_done : ready ≤ end → barred.gone ≤ end
  barred_done soon = elim (idle (own inst cranes w) refl) [
    | inl t ↦ has.done t
    | inr le ↦ omega (arith, le, soon)
  ]

  -- ---- by the tasks at bay x

  module _ (x : ℕ) where
    abbrev trip : Trip
    trip = trip_along inst cranes w (trip_from berth) (tasks_at inst x)

    abbrev way : Way
    way = way_at inst turn cranes w x

    abbrev l : ℤ
    l = place_of trip.low

    abbrev h : ℤ
    h = place_of trip.high

    trip_low : trip.low ≤ℤ berth
    trip_low = low_falls inst cranes w (tasks_at inst x) (trip_from berth)

    trip_high : berth ≤ℤ trip.high
    trip_high = high_rises inst cranes w (tasks_at inst x) (trip_from berth)

    within : (trip.low ≤ℤ trip.at) × (trip.at ≤ℤ trip.high)
    within = stays_within inst cranes w (tasks_at inst x) (trip_from berth) (omega (arith, ints), omega (arith, ints))

    low_in : l ≤ℤ place_of berth
    low_in = scaled_le (1 * inst.travel) trip.low berth trip_low

    high_in : place_of berth ≤ℤ h
    high_in = scaled_le (1 * inst.travel) berth trip.high trip_high

    order : l ≤ℤ h
    order = let a = low_in in let b = high_in in omega (arith, ints, a, b)

    abbrev at_x : ℕ → Bool
    at_x j = eqb (at_least_zero (bay_of inst j)) x

    follow : (i j : ℕ) → i < j → j < count → at_x i ≡ true → at_x j ≡ true → start_of sched i ≤ start_of sched j
    follow i j less low s t =
        let low_i : i < count = omega arith in
        let same : at_least_zero (bay_of inst i) ≡ at_least_zero (bay_of inst j) = eqb-true (at_least_zero (bay_of inst i)) x s ∙ sym (eqb-true (at_least_zero (bay_of inst j)) x t) in
        let bay : bay_of inst i ≡ bay_of inst j = sym (lies_at i low_i) ∙ ap pos same ∙ lies_at j low in
        let hatch = (valid.tasks.hatches i j low_i low).0 bay in
        let rule = feasible.before i j low_i low (valid.before.phases i j less low hatch) in
        omega (arith, rule)

    timely : AreTimely inst cranes w goes_at end (start_of sched) 0 (tasks_at inst x)
    timely =
        timely_from inst cranes w goes_at end (start_of sched) at_x 0 count 0
        (λ j up low t. (omega arith, (starts_within inst sched valid feasible j (omega arith)).0))
        (λ i j less low s t. follow i j less (omega arith) s t)

    gone : HasGone inst cranes w goes_at end (start_of sched) l h order trip end
    gone =
        goes_along inst cranes w goes_at end (start_of sched) l h order (tasks_at inst x) (trip_from berth) 0 (omega arith)
        first timely
        (λ j a v e.
        let low = range_low j a in
        allows inst sched valid feasible w is_crane cranes j v low (follows j v low e))
        (omega (arith, ints)) (omega (arith, ints))
      where
        range_low : (j : ℕ) → Among (tasks_at inst x) j → j < count
        range_low j a = omega (arith, (range_among j 0 count (filter_among at_x (task_numbers inst) j a).0).1)

        first : HasGone inst cranes w goes_at end (start_of sched) l h order (trip_from berth) 0
        first =
            let is = ap (cut l h) begins ∙ cut_at l h order (place_of berth) low_in high_in in
            let none : bays_between (cut l h (goes_at 0)) (place_of berth) ≡ 0 = omega (arith, bays, is) in
            omega (arith, none, mul-zero (1 * inst.travel))

    -- at some tick the crane is at this bay, or the trip goes beyond it
    abbrev Upto : ℤ → Type 0
    Upto y = (k : ℕ) × (k ≤ end) × (bays_up h (place_of y) ≤ bays_up h (goes_at k))

    abbrev Downto : ℤ → Type 0
    Downto y = (k : ℕ) × (k ≤ end) × (bays_up (place_of y) l ≤ bays_up (goes_at k) l)

    at_task : (j : ℕ) → On j → goes_at (start_of sched j) ≡ place_of (bay_of inst j)
    at_task j on = works inst sched valid feasible w is_crane j (start_of sched j) on.0 on.1 (omega arith) (omega arith)

    up_task : (j : ℕ) → On j → Upto (bay_of inst j)
    up_task j on = (
      start_of sched j,
      (starts_within inst sched valid feasible j on.0).0,
      omega (arith, ap (λ y. bays_up h y) (at_task j on)),
    )

    down_task : (j : ℕ) → On j → Downto (bay_of inst j)
    down_task j on = (
      start_of sched j,
      (starts_within inst sched valid feasible j on.0).0,
      omega (arith, ap (λ y. bays_up y l) (at_task j on)),
    )

    up_way : Upto way.high
    up_way =
        max_holds inst Upto trip.high usual.high
        (0, omega arith, let none : bays_up h h ≡ 0 = omega (arith, bays) in omega (arith, none))
        (frame_high_holds inst Upto turn w (own inst cranes w)
        (0, omega arith, omega (arith, ap (λ y. bays_up h y) begins))
        (λ j a. up_task j (own_on inst turn cranes sched valid g follows w j a)))

    down_way : Downto way.low
    down_way =
        min_holds inst Downto trip.low usual.low
        (0, omega arith, let none : bays_up l l ≡ 0 = omega (arith, bays) in omega (arith, none))
        (frame_low_holds inst Downto turn w (own inst cranes w)
        (0, omega arith, omega (arith, ap (λ y. bays_up y l) begins))
        (λ j a. down_task j (own_on inst turn cranes sched valid g follows w j a)))

    way_low : way.low ≤ℤ trip.low
    way_low = omega (arith, ints, int_min_is trip.low usual.low)

    way_low_usual : way.low ≤ℤ usual.low
    way_low_usual = omega (arith, ints, int_min_is trip.low usual.low)

    way_high : trip.high ≤ℤ way.high
    way_high = omega (arith, ints, int_max_is trip.high usual.high)

    way_high_usual : usual.high ≤ℤ way.high
    way_high_usual = omega (arith, ints, int_max_is trip.high usual.high)

    -- it goes at least so far where it comes to bays further away
    goes_far : (deep far : ℤ) → way.high ≤ℤ far → deep ≤ℤ way.low → Upto far → Downto deep
        → inst.travel * (way.bays + (bays_up way.high far + bays_up deep way.low)) ≤ moved goes_at end
    goes_far deep far far_is deep_is up down =
        let n = 1 * inst.travel in
        let all =
        goes_beyond l h order goes_at end (1 * inst.travel * trip.bays) (place_of trip.at)
        (scaled_le (1 * inst.travel) trip.low trip.at within.0) (scaled_le (1 * inst.travel) trip.at trip.high within.1)
        begins_low begins_high gone (place_of deep) (place_of far) up.0 down.0 up.1 down.1 up.2 down.2 in
        let u = bays_up trip.high far in
        let v = bays_up deep trip.low in
        let p = bays_up trip.at far in
        let q = bays_up deep trip.at in
        let times = times_aside (1 * inst.travel) (bays_up trip.high far) (bays_up deep trip.low) (bays_up trip.at far) (bays_up deep trip.at) in
        let su = scaled_up (1 * inst.travel) trip.high far in
        let sv = scaled_up (1 * inst.travel) deep trip.low in
        let sp = scaled_up (1 * inst.travel) trip.at far in
        let sq = scaled_up (1 * inst.travel) deep trip.at in
        let grows = aside_grows trip.at trip.low trip.high within.0 within.1 way.low way.high far deep way_low way_high far_is deep_is in
        let more : way.bays + (bays_up way.high far + bays_up deep way.low) ≤ trip.bays + aside trip.at trip.low trip.high within.0 within.1 way.low way.high far deep way_low way_high far_is deep_is deep far = omega (arith, grows) in
        let raised = mul-le-mul_left (1 * inst.travel) more in
        let split = mul-add (1 * inst.travel) trip.bays (aside trip.at trip.low trip.high within.0 within.1 way.low way.high far deep way_low way_high far_is deep_is deep far) in
        let one : 1 * inst.travel ≡ inst.travel = omega arith in
        let same = ap (λ t. t * (way.bays + (bays_up way.high far + bays_up deep way.low))) one in
        omega (arith, all, times, su, sv, sp, sq, raised, split, same)
      where
        begins_low : l ≤ℤ goes_at 0
        begins_low = let a = low_in in omega (arith, ints, a, begins)

        begins_high : goes_at 0 ≤ℤ h
        begins_high = let a = high_in in omega (arith, ints, a, begins)

    -- and has had the time for that, and for its work
    way_fits : (deep far : ℤ) → way.high ≤ℤ far → deep ≤ℤ way.low → Upto far → Downto deep → 0 < way.bays
        → (ready ≤ end)
        × (ready + own_ticks + extra + inst.travel * (way.bays + (bays_up way.high far + bays_up deep way.low)) ≤ end)
    way_fits deep far far_is deep_is up down some =
        let far_gone = goes_far deep far far_is deep_is up down in
        let travels = (least_steps inst valid).0 in
        let bays_on = way.bays + (bays_up way.high far + bays_up deep way.low) in
        let least = mul-le 1 1 inst.travel (way.bays + (bays_up way.high far + bays_up deep way.low)) travels (omega arith) in
        let soon = goes_soon inst sched valid feasible w is_crane (omega (arith, far_gone, least)) in
        let all = spent inst sched valid feasible w is_crane soon in
        let parts = sums inst turn cranes sched valid g follows w in
        (soon, omega (arith, far_gone, all, parts))

    abbrev left : List ℕ
    left = filter opens (task_numbers inst)

    is_left : (j : ℕ) → Among left j → (j < count) × (opens j ≡ true)
    is_left j a =
        let r = filter_among opens (task_numbers inst) j a in
        (omega (arith, (range_among j 0 count r.0).1), r.1)

    among_left : (j : ℕ) → j < count → opens j ≡ true → Among left j
    among_left j low t = among_filter opens (task_numbers inst) j (among_range j 0 count (omega arith) (omega arith)) t

    abbrev TopIs : ℤ → Type 0
    TopIs y = Upto y × (bays_up way.high y ≤ has.far)

    abbrev BottomIs : ℤ → Type 0
    BottomIs y = Downto y × (bays_up y way.low ≤ has.deep)

    top : IsTop inst TopIs way.high left
    top =
        top_of inst TopIs way.high left
        (up_way, let none : bays_up way.high way.high ≡ 0 = omega (arith, bays) in omega (arith, none))
        (λ j a.
        let r = is_left j a in
        (up_task j (on_open inst turn cranes sched valid g follows w j r.0 r.1), near j r.0 r.1))
      where
        near : (j : ℕ) → j < count → opens j ≡ true → bays_up way.high (bay_of inst j) ≤ has.far
        near j low t =
            let above = has.above j low t in
            let bay = ap (λ y. bays_up usual.high y) (lies_at j low) in
            let over = way_high_usual in
            let less : bays_up way.high (bay_of inst j) ≤ bays_up usual.high (bay_of inst j) = omega (arith, bays, over) in
            omega (arith, above, bay, less)

    bottom : IsBottom inst BottomIs way.low left
    bottom =
        bottom_of inst BottomIs way.low left
        (down_way, let none : bays_up way.low way.low ≡ 0 = omega (arith, bays) in omega (arith, none))
        (λ j a.
        let r = is_left j a in
        (down_task j (on_open inst turn cranes sched valid g follows w j r.0 r.1), near j r.0 r.1))
      where
        near : (j : ℕ) → j < count → opens j ≡ true → bays_up (bay_of inst j) way.low ≤ has.deep
        near j low t =
            let below = has.below j low t in
            let bay = ap (λ y. bays_up y usual.low) (lies_at j low) in
            let under = way_low_usual in
            let less : bays_up (bay_of inst j) way.low ≤ bays_up (bay_of inst j) usual.low = omega (arith, bays, under) in
            omega (arith, below, bay, less)

    along_time : 0 < way.bays → Time (frame_along inst turn cranes w (way_at inst turn cranes w x))
    along_time some =
        let t = top in
        let b = bottom in
        let fit = way_fits b.bottom t.top t.from b.to t.holds.0 b.holds.0 some in
        let split = mul-add inst.travel way.bays (bays_up way.high t.top + bays_up b.bottom way.low) in
        let less : bays_up way.high t.top + bays_up b.bottom way.low ≤ has.far + has.deep = omega (arith, t.holds.1, b.holds.1) in
        let lower = mul-le-mul_left inst.travel less in
        record {
          far = bays_up way.high t.top;
          deep = bays_up b.bottom way.low;
          above = λ j low is.
              let most = t.most j (among_left j low is) in
              let bay = ap (λ y. bays_up way.high y) (lies_at j low) in
              let less : bays_up way.high (bay_of inst j) ≤ bays_up way.high t.top = omega (arith, bays, most) in
              omega (arith, bay, less);
          below = λ j low is.
              let least = b.least j (among_left j low is) in
              let bay = ap (λ y. bays_up y way.low) (lies_at j low) in
              let less : bays_up (bay_of inst j) way.low ≤ bays_up b.bottom way.low = omega (arith, bays, least) in
              omega (arith, bay, less);
          done = λ _. omega (arith, barred_done fit.0, fit.1, split);
          fits = λ work. omega (arith, has.fits work, fit.1, split, lower);
        }

  -- ---- to its own tasks alone

  own_gone : (os : List ℕ) → ready + ticks_over inst os + inst.travel * own_bays inst turn w os ≡ (frame_of inst turn w os).gone
  own_gone [] = omega (arith, mul-zero inst.travel)
  own_gone (j ∷ js) = refl

  barred_over : usual.gone ≤ barred.gone
  barred_over = omega arith

  own_time : Time (frame_along inst turn cranes w (own_way inst turn cranes w))
  own_time =
      let same = own_gone (own inst cranes w) in
      let over = barred_over in
      record {
        far = has.far;
        deep = has.deep;
        above = has.above;
        below = has.below;
        done = λ works. elim (or_cases usual.works (nat_lt (own_way inst turn cranes w).bays (own_way inst turn cranes w).bays) works) [
          | inl t ↦ omega (arith, has.done t, same, over)
          | inr t ↦ absurd (false≢true (sym (le-ltb (own_way inst turn cranes w).bays (own_way inst turn cranes w).bays (omega arith)) ∙ t))
        ];
        fits = λ work. omega (arith, has.fits work, same, over);
      }

  -- by the longest of them
  pub way_time : HasTime inst turn cranes sched valid g follows w (way_frame inst turn cranes w)
  way_time =
      let all = range_with_len 1 inst.bays in
      elim (longest_is (own_way inst turn cranes w) (map (way_at inst turn cranes w) (range_with_len 1 inst.bays))) [
        | inl e ↦ subst (λ (way : Way). Time (frame_along inst turn cranes w way)) (sym e) own_time
        | inr h ↦
            let r = map_among (way_at inst turn cranes w) (range_with_len 1 inst.bays) (longest_way inst turn cranes w) h.0 in
            subst (λ (way : Way). Time (frame_along inst turn cranes w way)) r.2
            (along_time r.0 (omega (arith, h.1, ap (λ (way : Way). way.bays) r.2)))
      ]
