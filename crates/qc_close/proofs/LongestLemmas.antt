-- The longest way of a crane, found from the spots of its trips; and that ways are short.
use Rattle.std.proofs.Common.{[], ◌≡◌, ℕ, zero, suc, ◌+◌, ◌-◌, ◌*◌, ◌<◌, ◌≤◌, min, inl, inr, Bool, true, false, eqb, nat_lt, cond, List, ◌∷◌, length, get_or, map, Option, max, ◌||◌, ℤ, pos, ◌≤ℤ◌, refl, ap, sym, subst, ◌∙◌, arith, add-one, ◌⊎◌}
use Rattle.std.proofs.lemmas.Bool.{cases_lt, cond-false, cond_both, le-ltb, ltb-true, ne_eqb}
use Rattle.std.proofs.lemmas.Int.{by_lt_z, int_max_is, int_min_is, ints}
use Rattle.std.specs.Int.{int_max, int_min}
use Rattle.std.specs.List.{range_with_len}
use Rattle.qc_close.specs.Model.{Frame, Turn, OneWay, Free, Trip, Way, AreInRange, barred_frame, at_least_zero, bays_up, frame, frame_of, own, turn_bays, turn_high, InstanceView, Valid, bay_of, crane, frame_along, longest, longest_way, own_bays, own_way, tasks_at, trip_along, trip_from, way_at, way_frame, way_with, highest, lowest, task_numbers, ticks_over}
use Rattle.qc_model.proofs.Bays.{bays}
use Rattle.qc_model.proofs.LimitsOf.{counted}
use Rattle.qc_close.specs.Owns.{bays_by, own_of, spent_with, ticks_by}
use Rattle.qc_close.specs.declared.frames.Own.{Own}
use Rattle.qc_close.specs.Spots.{AreSpots, spot_bay}
use Rattle.qc_close.specs.Trips.{AreTrips, IsShortWay, IsWide, IsWideTrip, no_trip}
use Rattle.qc_close.specs.declared.spots.Spots.{Spots}
use Rattle.qc_close.specs.declared.trip.Trips.{Trips}
use Rattle.qc_close.proofs.BarLemmas.{none_pass}
use Rattle.qc_close.proofs.Extremes.{highest_at, lowest_at}
use Rattle.qc_close.proofs.Members.{map_among, range_among, Among}
use Rattle.qc_close.proofs.TripLemmas.{all_stays, max_wide, min_wide, tasks_there, trip_wide}

-- ---- the longest way

-- it is the first of them, or a longer one
pub longest_is : (first : Way) (others : List Way)
    → (longest first others ≡ first) ⊎ (Among others (longest first others) × (first.bays < (longest first others).bays))
longest_is first [] = inl refl
longest_is first (other ∷ others) =
    cond_both (nat_lt first.bays other.bays) (longest other others) (longest first others)
    (λ way. (way ≡ first) ⊎ (Among (other ∷ others) way × (first.bays < way.bays)))
    (λ t.
    let less = ltb-true first.bays other.bays t in
    elim (longest_is other others) [
      | inl e ↦ inr (inl (sym e), omega (arith, less, ap (λ (way : Way). way.bays) e))
      | inr h ↦ inr (inr h.0, omega (arith, less, h.1))
    ])
    (λ _. elim (longest_is first others) [
      | inl e ↦ inl e
      | inr h ↦ inr (inr h.0, h.1)
    ])

-- ---- ways that aren't longer

cond_longest : (b : Bool) (u v : Way) (vs : List Way) → cond b (longest v vs) (longest u vs) ≡ longest (cond b v u) vs
cond_longest true u v vs = refl
cond_longest false u v vs = refl

module _ (f : ℕ → Way) where
  skips : (u : Way) (a k n : ℕ) → ((x : ℕ) → a ≤ x → x < a + k → (f x).bays ≤ u.bays)
      → longest u (map f (range_with_len a (k + n))) ≡ longest u (map f (range_with_len (a + k) n))
  skips u a zero n idle =
      let e : zero + n ≡ n = omega arith in
      let g : a ≡ a + zero = omega arith in
      ap (λ m. longest u (map f (range_with_len a m))) e ∙ ap (λ b. longest u (map f (range_with_len b n))) g
  skips u a (suc k) n idle =
      let e : suc k + n ≡ suc (k + n) = omega arith in
      let g : a + 1 + k ≡ a + suc k = omega arith in
      let none = le-ltb u.bays (f a).bays (idle a (omega arith) (omega arith)) in
      ap (λ m. longest u (map f (range_with_len a m))) e
      ∙ ap (λ b. cond b (longest (f a) (map f (range_with_len (a + 1) (k + n)))) (longest u (map f (range_with_len (a + 1) (k + n))))) none
      ∙ skips u (a + 1) k n (λ x up low. idle x (omega (arith, up)) (omega (arith, low)))
      ∙ ap (λ b. longest u (map f (range_with_len b n))) g

  -- on to bay x
  pub goes_on : (u : Way) (a x most : ℕ) → a ≤ x → x ≤ most → ((y : ℕ) → a ≤ y → y < x → (f y).bays ≤ u.bays)
      → longest (cond (nat_lt u.bays (f x).bays) (f x) u) (map f (range_with_len (x + 1) (most + 1 - (x + 1))))
      ≡ longest u (map f (range_with_len a (most + 1 - a)))
  goes_on u a x most le within idle =
      let k = x - a in
      let rest = most + 1 - (x + 1) in
      let e : most + 1 - a ≡ (x - a) + suc (most + 1 - (x + 1)) = omega arith in
      let g : a + (x - a) ≡ x = omega arith in
      sym (ap (λ m. longest u (map f (range_with_len a m))) e
      ∙ skips u a (x - a) (suc (most + 1 - (x + 1))) (λ y up low. idle y up (omega (arith, low)))
      ∙ ap (λ b. longest u (map f (range_with_len b (suc (most + 1 - (x + 1)))))) g
      ∙ cond_longest (nat_lt u.bays (f x).bays) u (f x) (map f (range_with_len (x + 1) (most + 1 - (x + 1)))))

  -- no bay is left
  pub goes_out : (u : Way) (a most : ℕ) → ((y : ℕ) → a ≤ y → y ≤ most → (f y).bays ≤ u.bays)
      → longest u (map f (range_with_len a (most + 1 - a))) ≡ u
  goes_out u a most idle =
      let e : most + 1 - a ≡ (most + 1 - a) + 0 = omega arith in
      ap (λ m. longest u (map f (range_with_len a m))) e
      ∙ skips u a (most + 1 - a) 0 (λ y up low. idle y up (omega (arith, up, low)))

-- ---- a bay without tasks

-- the way there and back over the berth is no longer than the way to the own tasks
idle_turn : (turn : Turn) (b f l : ℤ) → f ≤ℤ l
    → min (2 * bays_up b l + 2 * bays_up f b) (min (bays_up b l + 2 * bays_up f b) (2 * bays_up b l + bays_up f b))
    ≤ turn_bays turn b f l
idle_turn OneWay b f l le = omega (arith, bays, le)
idle_turn Free b f l le = omega (arith, bays, le)

over_high : (turn : Turn) (b l : ℤ) → bays_up b (int_max b (turn_high turn b l)) ≡ bays_up b l
over_high OneWay b l = by_lt_z b l
    (λ less. let e : int_max b l ≡ l = omega (arith, ints, int_max_is b l) in ap (bays_up b) e)
    (λ most.
    let e : int_max b l ≡ b = omega (arith, ints, int_max_is b l) in
    let none : bays_up b l ≡ 0 = omega (arith, bays, most) in
    let same : bays_up b b ≡ 0 = omega (arith, bays) in
    ap (bays_up b) e ∙ same ∙ sym none)
over_high Free b l = by_lt_z b l
    (λ less.
    let e : int_max b (int_max l b) ≡ l = omega (arith, ints, int_max_is b (int_max l b), int_max_is l b) in
    ap (bays_up b) e)
    (λ most.
    let e : int_max b (int_max l b) ≡ b = omega (arith, ints, int_max_is b (int_max l b), int_max_is l b) in
    let none : bays_up b l ≡ 0 = omega (arith, bays, most) in
    let same : bays_up b b ≡ 0 = omega (arith, bays) in
    ap (bays_up b) e ∙ same ∙ sym none)

under_low : (b f : ℤ) → bays_up (int_min b (int_min f b)) b ≡ bays_up f b
under_low b f = by_lt_z f b
    (λ less.
    let e : int_min b (int_min f b) ≡ f = omega (arith, ints, int_min_is b (int_min f b), int_min_is f b) in
    ap (λ x. bays_up x b) e)
    (λ most.
    let e : int_min b (int_min f b) ≡ b = omega (arith, ints, int_min_is b (int_min f b), int_min_is f b) in
    let none : bays_up f b ≡ 0 = omega (arith, bays, most) in
    let same : bays_up b b ≡ 0 = omega (arith, bays) in
    ap (λ x. bays_up x b) e ∙ same ∙ sym none)

module _ (inst : InstanceView) (turn : Turn) (w : ℕ) where
  abbrev berth : ℤ
  berth = (crane inst w).bay

  idle_own : (os : List ℕ)
      → (way_with (trip_from (crane inst w).bay) (int_min (crane inst w).bay (frame_of inst turn w os).low) (int_max (crane inst w).bay (frame_of inst turn w os).high)).bays
      ≤ own_bays inst turn w os
  idle_own [] =
      let up : int_max (crane inst w).bay (crane inst w).bay ≡ (crane inst w).bay = omega (arith, ints, int_max_is (crane inst w).bay (crane inst w).bay) in
      let same : bays_up (crane inst w).bay (crane inst w).bay ≡ 0 = omega (arith, bays) in
      let down : int_min (crane inst w).bay (crane inst w).bay ≡ (crane inst w).bay = omega (arith, ints, int_min_is (crane inst w).bay (crane inst w).bay) in
      omega (arith, same, ap (bays_up (crane inst w).bay) up, ap (λ x. bays_up x (crane inst w).bay) down)
  idle_own (j ∷ js) =
      let f = lowest inst j js in
      let l = highest inst j js in
      let one = lowest_at inst j js j (inl refl) in
      let two = highest_at inst j js j (inl refl) in
      let order : lowest inst j js ≤ℤ highest inst j js = omega (arith, ints, one, two) in
      omega (
        arith,
        idle_turn turn (crane inst w).bay (lowest inst j js) (highest inst j js) order,
        over_high turn (crane inst w).bay (highest inst j js),
        under_low (crane inst w).bay (lowest inst j js),
      )

  -- where no task lies at a bay the way with its trip is no longer than the usual one
  pub idle_way : (cranes : List (Option ℕ)) (x : ℕ) → tasks_at inst x ≡ []
      → (way_at inst turn cranes w x).bays ≤ (own_way inst turn cranes w).bays
  idle_way cranes x none =
      let P : List ℕ → ℕ = λ js.
      (way_with (trip_along inst cranes w (trip_from (crane inst w).bay) js) (int_min (trip_along inst cranes w (trip_from (crane inst w).bay) js).low (frame inst turn cranes w).low)
      (int_max (trip_along inst cranes w (trip_from (crane inst w).bay) js).high (frame inst turn cranes w).high)).bays in
      let is = ap P none in
      let idle = idle_own (own inst cranes w) in
      omega (arith, is, idle)

  -- nor where the crane goes nowhere
  pub idle_trip : (cranes : List (Option ℕ)) (x : ℕ)
      → (trip_along inst cranes w (trip_from (crane inst w).bay) (tasks_at inst x)).bays ≡ 0
      → (way_at inst turn cranes w x).bays ≤ (own_way inst turn cranes w).bays
  idle_trip cranes x none =
      let P : Trip → ℕ = λ t.
      (way_with t (int_min t.low (frame inst turn cranes w).low) (int_max t.high (frame inst turn cranes w).high)).bays in
      let is = ap P (all_stays inst cranes w (crane inst w).bay (tasks_at inst x) none) in
      let idle = idle_own (own inst cranes w) in
      omega (arith, is, idle)

-- ---- from spot to spot

-- the first bay behind the spot before this one
abbrev pub next_bay : List ℤ → ℕ → ℕ
next_bay along zero = 1
next_bay along (suc k) = at_least_zero (spot_bay along k) + 1

-- from there on the longest way is that of a way and the others
pub record IsFollowed (inst : InstanceView) (turn : Turn) (cranes : List (Option ℕ)) (w : ℕ) (along : List ℤ) (u : Way) (k : ℕ) : Type 0
  where
    pub goes : longest u (map (way_at inst turn cranes w) (range_with_len (next_bay along k) (inst.bays + 1 - next_bay along k)))
        ≡ longest_way inst turn cranes w
    pub over : (own_way inst turn cranes w).bays ≤ u.bays

pub follow_none : (inst : InstanceView) (turn : Turn) (cranes : List (Option ℕ)) (w : ℕ) (along : List ℤ)
    → IsFollowed inst turn cranes w along (own_way inst turn cranes w) 0
follow_none inst turn cranes w along =
    let e : inst.bays + 1 - 1 ≡ inst.bays = omega arith in
    record {
      goes = ap (λ n. longest (own_way inst turn cranes w) (map (way_at inst turn cranes w) (range_with_len 1 n))) e;
      over = omega arith;
    }

module _ (inst : InstanceView) (valid : Valid inst) (s : Spots) (spots : AreSpots inst s) where
  abbrev at : ℕ → ℕ
  at k = at_least_zero (spot_bay s.bays.items k)

  pub on_ship : (k : ℕ) → k < length s.bays.items → (spot_bay s.bays.items k ≡ pos (at k)) × (1 ≤ at k) × (at k ≤ inst.bays)
  on_ship k low =
      let r = spots.bays.used k low in
      let there = valid.tasks.bays r.0 r.1 in
      let is = r.2 in
      let some : 1 ≤ at k = omega (arith, bays, there.0, is) in
      let e = counted (spot_bay s.bays.items k) some in
      let most = there.1 in
      (e, some, omega (arith, ints, e, most, is))

  rises : (i k : ℕ) → i < k → k < length s.bays.items → at i < at k
  rises i k less low =
      let up = spots.bays.along.rising i k less low in
      let one = (on_ship i (omega (arith, less, low))).0 in
      let two = (on_ship k low).0 in
      omega (arith, ints, up, one, two)

  behind : (k i y : ℕ) → k ≤ length s.bays.items → i < k → next_bay s.bays.items k ≤ y → at i ≡ y → ⊥
  behind zero i y within less from e = omega (arith, less)
  behind (suc k) i y within less from e = elim (cases_lt i k) [
    | inl before ↦
        let up = rises i k before (omega (arith, within)) in
        omega (arith, up, from, e)
    | inr here ↦
        let same : i ≡ k = omega (arith, less, here) in
        omega (arith, from, e, ap at same)
  ]

  ahead : (k i y : ℕ) → k ≤ i → i < length s.bays.items → (k < length s.bays.items → y < at k) → at i ≡ y → ⊥
  ahead k i y le low to e = elim (cases_lt k i) [
    | inl before ↦
        let up = rises k i before low in
        let most = to (omega (arith, le, low)) in
        omega (arith, up, most, e)
    | inr here ↦
        let same : i ≡ k = omega (arith, le, here) in
        let most = to (omega (arith, le, low)) in
        omega (arith, most, e, ap at same)
  ]

  -- no task lies between two spots
  none_there : (k y : ℕ) → k ≤ length s.bays.items → next_bay s.bays.items k ≤ y → (k < length s.bays.items → y < at k)
      → tasks_at inst y ≡ []
  none_there k y within from to =
      none_pass (λ j. eqb (at_least_zero (bay_of inst j)) y) (task_numbers inst) (λ j a.
      let low : j < length inst.tasks = omega (arith, (range_among j 0 (length inst.tasks) a).1) in
      let r = spots.bays.all j low in
      let same = ap at_least_zero r.2 in
      ne_eqb (at_least_zero (bay_of inst j)) y (λ e. elim (cases_lt r.0 k) [
        | inl before ↦ behind k r.0 y within before from (omega (arith, same, e))
        | inr after ↦ ahead k r.0 y after r.1 to (omega (arith, same, e))
      ]))

  next_at : (k : ℕ) → k < length s.bays.items → next_bay s.bays.items k ≤ at k
  next_at zero low = (on_ship 0 low).1
  next_at (suc k) low = let up = rises k (suc k) (omega arith) low in omega (arith, up)

  module _ (cranes : List (Option ℕ)) (turn : Turn) (w : ℕ) (is_crane : w < length inst.cranes) (trips : Trips)
      (are : AreTrips inst cranes s.of_task.items trips) where
    abbrev found : ℕ → Way
    found x = way_at inst turn cranes w x

    abbrev Followed : Way → ℕ → Type 0
    Followed u k = IsFollowed inst turn cranes w s.bays.items u k

    -- the way with the trip of a spot
    way_there : (k : ℕ) → k < length s.bays.items → (low high : ℤ) → low ≡ (frame inst turn cranes w).low
        → high ≡ (frame inst turn cranes w).high → (t : Trip) → t ≡ get_or trips.cells.items (240 * w + k) no_trip
        → way_with t (int_min t.low low) (int_max t.high high) ≡ way_at inst turn cranes w (at k)
    way_there k in_k low high low_is high_is t t_is =
        let few = spots.bays.along.few in
        let cell = are.each w k is_crane (omega (arith, in_k, few)) in
        let there = tasks_there inst valid s.bays.items spots.bays s.of_task.items spots.of_task k (at k) in_k (on_ship k in_k).0 in
        let trip = t_is ∙ cell ∙ ap (trip_along inst cranes w (trip_from (crane inst w).bay)) there in
        ap (λ (u : Trip). way_with u (int_min u.low low) (int_max u.high high)) trip
        ∙ ap (λ l. way_with (trip_along inst cranes w (trip_from (crane inst w).bay) (tasks_at inst (at k)))
        (int_min (trip_along inst cranes w (trip_from (crane inst w).bay) (tasks_at inst (at k))).low l)
        (int_max (trip_along inst cranes w (trip_from (crane inst w).bay) (tasks_at inst (at k))).high high)) low_is
        ∙ ap (λ h. way_with (trip_along inst cranes w (trip_from (crane inst w).bay) (tasks_at inst (at k)))
        (int_min (trip_along inst cranes w (trip_from (crane inst w).bay) (tasks_at inst (at k))).low (frame inst turn cranes w).low)
        (int_max (trip_along inst cranes w (trip_from (crane inst w).bay) (tasks_at inst (at k))).high h)) high_is

    follow_one : (u : Way) (k : ℕ) → k < length s.bays.items → Followed u k → (v : Way) → v ≡ way_at inst turn cranes w (at k)
        → Followed (cond (nat_lt u.bays v.bays) v u) (k + 1)
    follow_one u k low before v is =
        let next = ap (next_bay s.bays.items) (add-one k) in
        let this = ap (λ (x : Way). cond (nat_lt u.bays x.bays) x u) is in
        record {
          goes = ap (λ n. longest (cond (nat_lt u.bays v.bays) v u) (map found (range_with_len n (inst.bays + 1 - n)))) next
              ∙ ap (λ (x : Way). longest x (map found (range_with_len (at k + 1) (inst.bays + 1 - (at k + 1))))) this
              ∙ goes_on found u (next_bay s.bays.items k) (at k) inst.bays (next_at k low) (on_ship k low).2
              (λ y from to. omega (arith, before.over, idle_way inst turn w cranes y (none_there k y (omega (arith, low)) from (λ _. to))))
              ∙ before.goes;
          over = cond_both (nat_lt u.bays v.bays) v u (λ (x : Way). (own_way inst turn cranes w).bays ≤ x.bays)
              (λ t. omega (arith, before.over, ltb-true u.bays v.bays t))
              (λ _. before.over);
        }

    -- where the trip goes nowhere
    follow_idle : (u : Way) (k : ℕ) → k < length s.bays.items → Followed u k → (t : Trip)
        → t ≡ get_or trips.cells.items (240 * w + k) no_trip → t.bays ≡ 0 → Followed u (k + 1)
    follow_idle u k low before t t_is none =
        let few = spots.bays.along.few in
        let cell = are.each w k is_crane (omega (arith, low, few)) in
        let there = tasks_there inst valid s.bays.items spots.bays s.of_task.items spots.of_task k (at k) low (on_ship k low).0 in
        let trip = t_is ∙ cell ∙ ap (trip_along inst cranes w (trip_from (crane inst w).bay)) there in
        let idle = idle_trip inst turn w cranes (at k) (sym (ap (λ (x : Trip). x.bays) trip) ∙ none) in
        let v = way_at inst turn cranes w (at k) in
        subst (λ (x : Way). Followed x (k + 1))
        (cond-false (nat_lt u.bays v.bays) v u (le-ltb u.bays v.bays (omega (arith, idle, before.over))))
        (follow_one u k low before v refl)

    pub follow_with : (u : Way) (k : ℕ) → k < length s.bays.items → Followed u k → (low high : ℤ) → low ≡ (frame inst turn cranes w).low
        → high ≡ (frame inst turn cranes w).high → (t : Trip) → t ≡ get_or trips.cells.items (240 * w + k) no_trip → (new : Way)
        → (t.bays ≤ 0 → new ≡ u)
        → (0 < t.bays → new ≡ cond (nat_lt u.bays (way_with t (int_min t.low low) (int_max t.high high)).bays)
        (way_with t (int_min t.low low) (int_max t.high high)) u)
        → Followed new (k + 1)
    follow_with u k in_k before low high low_is high_is t t_is new idle goes = elim (cases_lt 0 t.bays) [
      | inl some ↦
          subst (λ (x : Way). Followed x (k + 1)) (sym (goes some))
          (follow_one u k in_k before (way_with t (int_min t.low low) (int_max t.high high))
          (way_there k in_k low high low_is high_is t t_is))
      | inr none ↦
          subst (λ (x : Way). Followed x (k + 1)) (sym (idle none))
          (follow_idle u k in_k before t t_is (omega (arith, none)))
    ]

    pub follow_all : (u : Way) (k : ℕ) → k ≡ length s.bays.items → Followed u k → u ≡ longest_way inst turn cranes w
    follow_all u k end before =
        sym (goes_out found u (next_bay s.bays.items k) inst.bays (λ y from most.
        omega (arith, before.over, idle_way inst turn w cranes y (none_there k y (omega (arith, end)) from (λ low. absurd (omega (arith, end, low)))))))
        ∙ before.goes

-- ---- the frame with a way

module _ (inst : InstanceView) (turn : Turn) (cranes : List (Option ℕ)) (w : ℕ) (o : Option Own) (o_is : o ≡ own_of inst (own inst cranes w)) where
  bays_same : (os : List ℕ) → bays_by inst turn w (own_of inst os) ≡ own_bays inst turn w os
  bays_same [] = refl
  bays_same (j ∷ js) = refl

  ticks_same : (os : List ℕ) → ticks_by (own_of inst os) ≡ ticks_over inst os
  ticks_same [] = refl
  ticks_same (j ∷ js) = refl

  pub own_way_is : (from : Way) → from.bays ≡ bays_by inst turn w o → from.low ≡ (frame inst turn cranes w).low
      → from.high ≡ (frame inst turn cranes w).high → from ≡ own_way inst turn cranes w
  own_way_is from bays_is low_is high_is =
      let is = bays_is ∙ ap (bays_by inst turn w) o_is ∙ bays_same (own inst cranes w) in
      ap {B = Way} (λ n. record { bays = n; low = from.low; high = from.high }) is
      ∙ ap {B = Way} (λ l. record { bays = own_bays inst turn w (own inst cranes w); low = l; high = from.high }) low_is
      ∙ ap {B = Way} (λ h. record { bays = own_bays inst turn w (own inst cranes w); low = (frame inst turn cranes w).low; high = h }) high_is

  pub way_frame_is : (usual : Frame) (from way : Way) (spent : ℕ) → usual ≡ barred_frame inst turn cranes w
      → from ≡ own_way inst turn cranes w → way ≡ longest_way inst turn cranes w → spent ≡ spent_with inst w o way.bays
      → ◌≡◌ {A = Frame}
      (record { works = usual.works || nat_lt from.bays way.bays; gone = max usual.gone spent; low = way.low; high = way.high })
      (way_frame inst turn cranes w)
  way_frame_is usual from way spent usual_is from_is way_is spent_is =
      let is = spent_is ∙ ap (λ n. (crane inst w).ready + n + inst.travel * way.bays) (ap ticks_by o_is ∙ ticks_same (own inst cranes w)) in
      ap {B = Frame} (λ n. record { works = usual.works || nat_lt from.bays way.bays; gone = max usual.gone n; low = way.low; high = way.high }) is
      ∙ ap {B = Frame} (λ (u : Frame). record {
        works = u.works || nat_lt from.bays way.bays;
        gone = max u.gone ((crane inst w).ready + ticks_over inst (own inst cranes w) + inst.travel * way.bays);
        low = way.low;
        high = way.high;
      }) usual_is
      ∙ ap {B = Frame} (λ (u : Way). record {
        works = (frame inst turn cranes w).works || nat_lt u.bays way.bays;
        gone = max (barred_frame inst turn cranes w).gone ((crane inst w).ready + ticks_over inst (own inst cranes w) + inst.travel * way.bays);
        low = way.low;
        high = way.high;
      }) from_is
      ∙ ap (frame_along inst turn cranes w) way_is

-- ---- ways are short

module _ (inst : InstanceView) (valid : Valid inst) (turn : Turn) (w : ℕ) (is_crane : w < length inst.cranes)
    (cranes : List (Option ℕ)) (range : AreInRange inst cranes) (low_wide : IsWide (frame inst turn cranes w).low)
    (high_wide : IsWide (frame inst turn cranes w).high) (own_few : own_bays inst turn w (own inst cranes w) ≤ 68000) where
  way_short : (x : ℕ) → IsShortWay (way_at inst turn cranes w x)
  way_short x =
      let p = λ (j : ℕ). eqb (at_least_zero (bay_of inst j)) x in
      by (trip_along inst cranes w (trip_from (crane inst w).bay) (tasks_at inst x))
      (trip_wide inst valid w is_crane cranes range p)
    where
      by : (t : Trip) → IsWideTrip 240 t
          → IsShortWay (way_with t (int_min t.low (frame inst turn cranes w).low) (int_max t.high (frame inst turn cranes w).high))
      by t r =
          let low = min_wide t.low (frame inst turn cranes w).low r.low low_wide.0 in
          let high = max_wide t.high (frame inst turn cranes w).high r.high high_wide.1 in
          let up : bays_up t.high (int_max t.high (frame inst turn cranes w).high) ≤ 68000 = omega (arith, bays, r.high.0, high.1) in
          let down : bays_up (int_min t.low (frame inst turn cranes w).low) t.low ≤ 68000 = omega (arith, bays, r.low.1, low.0) in
          record { bays = omega (arith, r.bays, up, down); low = low; high = high }

  own_short : IsShortWay (own_way inst turn cranes w)
  own_short = record { bays = omega (arith, own_few); low = low_wide; high = high_wide }

  pub longest_short : IsShortWay (longest_way inst turn cranes w)
  longest_short = elim (longest_is (own_way inst turn cranes w) (map (way_at inst turn cranes w) (range_with_len 1 inst.bays))) [
    | inl e ↦ subst IsShortWay (sym e) own_short
    | inr h ↦
        let r = map_among (way_at inst turn cranes w) (range_with_len 1 inst.bays) (longest_way inst turn cranes w) h.0 in
        subst IsShortWay r.2 (way_short r.0)
  ]
