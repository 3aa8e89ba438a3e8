-- No schedule that follows an assignment ends before an end at which it is closed.
use Rattle.std.proofs.Common.{[], ◌≡◌, ℕ, ℤ, zero, suc, ◌+◌, ◌-◌, ◌*◌, ◌<◌, ◌≤◌, inl, inr, Bool, true, false, ◌&&◌, ◌||◌, eqb, cond, List, ◌∷◌, length, get_or, map, max, min, reverse, Option, None, Some, refl, ap, sym, subst, ◌∙◌, arith, filter, is_none, nat_lt, sum, sum_by, count_by}
use Prim.Native.Nat.{◌∣◌}
use Rattle.std.proofs.Math.Nat.{dvd-add, dvd-mul_right_of_dvd, dvd-zero, mul-add, mul-le-mul_left, mul-zero}
use Rattle.std.proofs.lemmas.Bool.{and_from, and_parts, cases_Bool, cases_lt, cond-true, cond_both, eq-eqb, eqb-true, le-ltb, lt-ltb, ltb-true, or_cases, true≢false}
use Rattle.std.proofs.lemmas.Int.{ints}
use Rattle.std.proofs.lemmas.List.{get_or_past, length-map, length-reverse}
use Rattle.std.proofs.lemmas.List.Sums.{count_by-le-length, sum-map, sum_by-cons}
use Rattle.std.proofs.lemmas.Simd.{map-map}
use Rattle.std.specs.Option.{option_map_or}
use Rattle.std.specs.List.{range_with_len}
use Rattle.qc_close.specs.Model.{Direction, Up, Down, Frame, Slot, Turn, Follows, crane_in, no_cranes, IsClosedBound, Try, bays_to, fewest, grain, is_closed, is_short, is_short_along, is_short_before, last_before, left_at, left_bays, leg, legs, load, most, room, try_of, try_with, work_at, all_done, barred_frame, barring, both_done, done_in, lies, own_or_left, soonest, GoesBy, frame, frame_of, own, InstanceView, Valid, bay_of, crane, no_crane, no_task, release_of, ticks_of, berth_wait, free, greatest, least, crane_of, ends, arrival, berth_clear, berth_distance, crane_numbers, task_numbers, ticks_over, frame_along, longest_way, way_frame, Way}
use Rattle.qc_close.proofs.CountLemmas.{fewest_le, passing, passing_le, shared, sum_filter, sum_le, sums_within, times_sum, some_term}
use Rattle.qc_close.proofs.Extremes.{among_done}
use Rattle.qc_laws.proofs.BarredLemmas.{barred_time}
use Rattle.qc_laws.proofs.FrameLemmas.{HasTime, at_bay, bay_at, beside, does_open, feasible_by}
use Rattle.qc_close.proofs.GrainLemmas.{AreMultiples, grain_is, multiple_to}
use Rattle.qc_close.proofs.LoopLemmas.{least_steps}
use Rattle.qc_laws.proofs.WayLemmas.{way_time}
use Rattle.qc_close.proofs.Members.{Among, among_filter, among_range, filter_among, map_among, range_among}
use Rattle.qc_close.proofs.CrewLemmas.{none_there}
use Rattle.qc_close.proofs.OrderLemmas.{not_short as serves, After, InOrder, rising, falling, beyond, beyond_at, beyond_after, to_rises, to_reverse, not_before, beyond_first}

-- ---- the cranes that come to a bay

module _ (inst : InstanceView) (turn : Turn) (cranes : List (Option ℕ)) (sched : List Slot) (valid : Valid inst)
    (g : GoesBy turn inst sched) (follows : Follows inst cranes sched) (fr : ℕ → Frame)
    (time : (w : ℕ) → HasTime inst turn cranes sched valid g follows w (fr w)) where
  abbrev ws : List ℕ
  ws = crane_numbers inst

  abbrev js : List ℕ
  js = task_numbers inst

  abbrev opens : ℕ → ℕ → Bool
  opens w j = does_open inst turn cranes sched valid g follows w j

  abbrev at : ℕ → ℕ
  at j = bay_at inst turn cranes sched valid g follows 0 j

  abbrev far : ℕ → ℕ
  far w = (time w).far

  abbrev deep : ℕ → ℕ
  deep w = (time w).deep

  -- how far it goes
  abbrev way_of : Direction → ℕ → ℕ
  way_of Up w = far w
  way_of Down w = deep w

  -- the ticks of tasks that no crane has, which crane w does and which pass a test
  abbrev ticks_if : (ℕ → Bool) → ℕ → ℕ
  ticks_if p w = sum_by (λ j. cond (opens w j && p j) (ticks_of inst j) 0) js

  abbrev all_ticks : ℕ → ℕ
  all_ticks w = beside inst turn cranes sched valid g follows w

  -- those at this bay and at those behind it, and at it
  abbrev over : Direction → ℕ → ℕ → ℕ
  over way x w = ticks_if (λ j. beyond way x (at j)) w

  abbrev here : ℕ → ℕ → ℕ
  here x w = ticks_if (λ j. eqb (at j) x) w

  cond_le : (b c : Bool) (n : ℕ) → (b ≡ true → c ≡ true) → cond b n 0 ≤ cond c n 0
  cond_le true c n h = let e = ap (λ b. cond b n 0) (h refl) in omega (arith, e)
  cond_le false c n h = omega arith

  part_le : (p : ℕ → Bool) (w : ℕ) → ticks_if p w ≤ all_ticks w
  part_le p w =
      sum_le (λ j. cond (opens w j && p j) (ticks_of inst j) 0) (λ j. cond (opens w j) (ticks_of inst j) 0) js
      (λ j _. cond_le (opens w j && p j) (opens w j) (ticks_of inst j) (λ t. (and_parts (opens w j) (p j) t).0))

  -- two tests that no task passes both of, and that are within a third
  two_parts : (p q r : ℕ → Bool) (w : ℕ) → ((j : ℕ) → p j ≡ true → q j ≡ true → ⊥)
      → ((j : ℕ) → p j ≡ true → r j ≡ true) → ((j : ℕ) → q j ≡ true → r j ≡ true)
      → ticks_if p w + ticks_if q w ≤ ticks_if r w
  two_parts p q r w apart left right =
      sums_within (λ j. cond (opens w j && p j) (ticks_of inst j) 0) (λ j. cond (opens w j && q j) (ticks_of inst j) 0)
      (λ j. cond (opens w j && r j) (ticks_of inst j) 0) js (λ j _. one (opens w j) (p j) (q j) (r j) (ticks_of inst j) (apart j) (left j) (right j))
    where
      one : (o b c d : Bool) (n : ℕ) → (b ≡ true → c ≡ true → ⊥) → (b ≡ true → d ≡ true) → (c ≡ true → d ≡ true)
          → cond (o && b) n 0 + cond (o && c) n 0 ≤ cond (o && d) n 0
      one false b c d n apart left right = omega arith
      one true true true d n apart left right = absurd (apart refl refl)
      one true true false d n apart left right = let e = ap (λ b. cond b n 0) (left refl) in omega (arith, e)
      one true false c d n apart left right = let e = cond_le c d n right in omega (arith, e)

  over_next : (way : Direction) (x y w : ℕ) → After way x y → here x w + over way y w ≤ over way x w
  over_next way x y w after =
      two_parts (λ j. eqb (at j) x) (λ j. beyond way y (at j)) (λ j. beyond way x (at j)) w
      (λ j s t. not_before way x y (at j) after (eqb-true (at j) x s) t)
      (λ j s. beyond_at way x (at j) (eqb-true (at j) x s))
      (λ j t. beyond_after way x y (at j) after t)

  here_over : (way : Direction) (x w : ℕ) → here x w ≤ over way x w
  here_over way x w =
      sum_le (λ j. cond (opens w j && eqb (at j) x) (ticks_of inst j) 0)
      (λ j. cond (opens w j && beyond way x (at j)) (ticks_of inst j) 0) js
      (λ j _. cond_le (opens w j && eqb (at j) x) (opens w j && beyond way x (at j)) (ticks_of inst j) (λ t.
      let parts = and_parts (opens w j) (eqb (at j) x) t in
      and_from (opens w j) (beyond way x (at j)) parts.0 (beyond_at way x (at j) (eqb-true (at j) x parts.1))))

  -- the work at a bay is shared by the cranes
  work_shared : (x : ℕ) → work_at inst cranes x ≤ sum_by (here x) ws
  work_shared x =
      let p = λ (j : ℕ). is_none (crane_in cranes j) && eqb (at j) x in
      let q = λ (w j : ℕ). opens w j && eqb (at j) x in
      let split =
      shared (ticks_of inst) p q ws js
      (λ j a t.
      let low : j < length inst.tasks = omega (arith, (range_among j 0 (length inst.tasks) a).1) in
      let parts = and_parts (is_none (crane_in cranes j)) (eqb (at j) x) t in
      let there = (feasible_by turn inst sched g).crane_range j low in (
        crane_of sched j,
        among_range (crane_of sched j) 0 (length inst.cranes) (omega arith) (omega arith),
        and_from (opens (crane_of sched j) j) (eqb (at j) x)
            (and_from (is_none (crane_in cranes j)) (eqb (crane_of sched j) (crane_of sched j)) parts.0 (eq-eqb (crane_of sched j) (crane_of sched j) refl))
            parts.1,
      )) in
      omega (arith, split, sum_filter (ticks_of inst) p js)

  goes : (way : Direction) (w j : ℕ) → j < length inst.tasks → opens w j ≡ true → bays_to way (fr w) (at j) ≤ way_of way w
  goes Up w j low t = (time w).above j low t
  goes Down w j low t = (time w).below j low t

  -- a crane that has work from this bay on comes so far
  comes : (way : Direction) (x w : ℕ) → 0 < over way x w → bays_to way (fr w) x ≤ way_of way w
  comes way x w some =
      let r = some_term (λ j. cond (opens w j && beyond way x (at j)) (ticks_of inst j) 0) js some in
      let low : r.0 < length inst.tasks = omega (arith, (range_among r.0 0 (length inst.tasks) r.1).1) in
      elim (cases_Bool (opens w r.0 && beyond way x (at r.0))) [
        | inl t ↦
            let parts = and_parts (opens w r.0) (beyond way x (at r.0)) t in
            omega (arith, goes way w r.0 low parts.0, to_rises way (fr w) x (at r.0) parts.1)
        | inr t ↦ let none = ap (λ b. cond b (ticks_of inst r.0) 0) t in absurd (omega (arith, r.2, none))
      ]

  -- the bay of a task that no crane has is one of those that are left
  abbrev xs : List ℕ
  xs = left_bays inst cranes

  some_length : (ys : List ℕ) (y : ℕ) → Among ys y → 0 < length ys
  some_length [] y a = absurd a
  some_length (z ∷ zs) y a = omega arith

  is_left : (w j : ℕ) → j < length inst.tasks → opens w j ≡ true → Among xs (at j)
  is_left w j low t =
      let none = (and_parts (is_none (crane_in cranes j)) (eqb (crane_of sched j) w) t).0 in
      let on_ship = valid.tasks.bays j low in
      let is = at_bay inst turn cranes sched valid g follows 0 j low in
      let found =
      among_filter (λ j'. is_none (crane_in cranes j') && eqb (at j') (at j)) js j (among_range j 0 (length inst.tasks) (omega arith) (omega arith))
      (and_from (is_none (crane_in cranes j)) (eqb (at j) (at j)) none (eq-eqb (at j) (at j) refl)) in
      among_filter (λ y. nat_lt 0 (length (left_at inst cranes y))) (range_with_len 1 inst.bays) (at j)
      (among_range (at j) 1 inst.bays (omega (arith, ints, is, on_ship.0)) (omega (arith, ints, is, on_ship.1)))
      (lt-ltb 0 (length (left_at inst cranes (at j))) (some_length (left_at inst cranes (at j)) j found))

  all_over : (way : Direction) (x w : ℕ) → ((y : ℕ) → Among xs y → beyond way x y ≡ true) → all_ticks w ≤ over way x w
  all_over way x w first_is =
      sum_le (λ j. cond (opens w j) (ticks_of inst j) 0) (λ j. cond (opens w j && beyond way x (at j)) (ticks_of inst j) 0) js
      (λ j a. cond_le (opens w j) (opens w j && beyond way x (at j)) (ticks_of inst j) (λ t.
      let low : j < length inst.tasks = omega (arith, (range_among j 0 (length inst.tasks) a).1) in
      and_from (opens w j) (beyond way x (at j)) t (first_is (at j) (is_left w j low t))))

  -- ---- numbers of cranes that serve

  abbrev comers : Direction → ℕ → ℕ
  comers way x = count_by (λ w. nat_lt 0 (over way x w)) ws

  abbrev tried : ℕ → Try
  tried tick = try_with inst cranes fr tick

  -- what crane w has still to go beyond bay x
  abbrev ahead : Direction → ℕ → ℕ → ℕ
  ahead way x w = way_of way w - bays_to way (fr w) x

  module _ (tick : ℕ) where
    leg_le : (way : Direction) (x y : ℕ) → leg (tried tick) way (comers way y) x y
        ≤ passing (λ w. bays_to way (fr w) y - bays_to way (fr w) x) (λ w. nat_lt 0 (over way y w)) ws
    leg_le way x y =
        subst (λ (ns : List ℕ). fewest (comers way y) ns
        ≤ passing (λ w. bays_to way (fr w) y - bays_to way (fr w) x) (λ w. nat_lt 0 (over way y w)) ws)
        (sym (map-map (λ f. bays_to way f y - bays_to way f x) fr ws))
        (fewest_le (λ w. bays_to way (fr w) y - bays_to way (fr w) x) (λ w. nat_lt 0 (over way y w)) ws)

    legs_le : (way : Direction) (x : ℕ) (ys : List ℕ) → InOrder way (x ∷ ys)
        → legs (tried tick) way (x ∷ ys) (map (comers way) (x ∷ ys)) ≤ passing (ahead way x) (λ w. nat_lt 0 (over way x w)) ws
    legs_le way x [] r = omega arith
    legs_le way x (y ∷ ys) r =
        let rest = legs_le way y ys r.1 in
        let after = r.0 y (inl refl) in
        let both =
        sums_within (λ w. cond (nat_lt 0 (over way y w)) (bays_to way (fr w) y - bays_to way (fr w) x) 0)
        (λ w. cond (nat_lt 0 (over way y w)) (ahead way y w) 0) (λ w. cond (nat_lt 0 (over way x w)) (ahead way x w) 0) ws
        (λ w _. one w after (nat_lt 0 (over way y w)) (nat_lt 0 (over way x w))
        (λ t. comes way y w (ltb-true 0 (over way y w) t))
        (λ t. let some = ltb-true 0 (over way y w) t in lt-ltb 0 (over way x w) (omega (arith, some, over_next way x y w after)))) in
        omega (arith, rest, both, leg_le way x y)
      where
        one : (w : ℕ) → After way x y → (b c : Bool) → (b ≡ true → bays_to way (fr w) y ≤ way_of way w) → (b ≡ true → c ≡ true)
            → cond b (bays_to way (fr w) y - bays_to way (fr w) x) 0 + cond b (ahead way y w) 0 ≤ cond c (ahead way x w) 0
        one w after false c near also = omega arith
        one w after true c near also =
            let most = near refl in
            let e = ap (λ b. cond b (ahead way x w) 0) (also refl) in
            omega (arith, most, e, to_rises way (fr w) x y (beyond_after way x y y after (beyond_at way y y refl)))

    works_over : (way : Direction) (x : ℕ) (ys : List ℕ) → InOrder way (x ∷ ys)
        → sum_by (work_at inst cranes) (x ∷ ys) ≤ sum_by (over way x) ws
    works_over way x [] r =
        omega (
          arith,
          work_shared x,
          sum_le (here x) (over way x) ws (λ w _. here_over way x w),
          sum_by-cons (work_at inst cranes) x [],
        )
    works_over way x (y ∷ ys) r =
        let rest = works_over way y ys r.1 in
        let both = sums_within (here x) (over way y) (over way x) ws (λ w _. over_next way x y w (r.0 y (inl refl))) in
        omega (arith, rest, both, work_shared x, sum_by-cons (work_at inst cranes) x (y ∷ ys))

  -- ---- where the tick leaves each crane the time that it needs, these numbers serve

  module _ (tick : ℕ) (done : (w : ℕ) → (fr w).works ≡ true → (fr w).gone ≤ tick)
      (fits : (w : ℕ) → 0 < all_ticks w → (fr w).gone + all_ticks w + inst.travel * (far w + deep w) ≤ tick) where
    abbrev t : Try
    t = tried tick

    -- so many ticks are left to crane w once it has gone so many bays
    abbrev left : ℕ → ℕ → ℕ
    left way w = room t way (fr w)

    -- a part of what it goes, and the rest
    part_of : (part whole : ℕ) → part ≤ whole → inst.travel * whole ≡ inst.travel * part + inst.travel * (whole - part)
    part_of part whole le =
        let e : whole ≡ part + (whole - part) = omega arith in
        ap (λ n. inst.travel * n) e ∙ mul-add inst.travel part (whole - part)

    one_way : (way : Direction) (w : ℕ) → way_of way w ≤ far w + deep w
    one_way Up w = omega arith
    one_way Down w = omega arith

    over_fits : (way : Direction) (x w : ℕ) → over way x w + inst.travel * cond (nat_lt 0 (over way x w)) (ahead way x w) 0
        ≤ cond (nat_lt 0 (over way x w)) (left (bays_to way (fr w) x) w) 0
    over_fits way x w = elim (cases_lt 0 (over way x w)) [
      | inl some ↦
          let yes_is = lt-ltb 0 (over way x w) some in
          let near = comes way x w some in
          let one = ap (λ b. cond b (left (bays_to way (fr w) x) w) 0) yes_is in
          let two = ap (λ b. inst.travel * cond b (ahead way x w) 0) yes_is in
          let part = part_le (λ j. beyond way x (at j)) w in
          let all = fits w (omega (arith, some, part)) in
          omega (arith, one, two, part, all, part_of (bays_to way (fr w) x) (way_of way w) near, mul-le-mul_left inst.travel (one_way way w))
      | inr none ↦
          let no_is = le-ltb 0 (over way x w) none in
          let one = ap (λ b. cond b (left (bays_to way (fr w) x) w) 0) no_is in
          let two = ap (λ b. inst.travel * cond b (ahead way x w) 0) no_is in
          omega (arith, one, two, none, mul-zero inst.travel)
    ]

    enough : (way : Direction) (x : ℕ) (ys : List ℕ) → InOrder way (x ∷ ys)
        → load t way (x ∷ ys) (map (comers way) (x ∷ ys)) ≤ most (comers way x) (map (λ f. room t (bays_to way f x) f) t.frames)
    enough way x ys r =
        let works = works_over tick way x ys r in
        let ways = legs_le tick way x ys r in
        let times = times_sum inst.travel (λ w. cond (nat_lt 0 (over way x w)) (ahead way x w) 0) ws in
        let both =
        sums_within (over way x) (λ w. inst.travel * cond (nat_lt 0 (over way x w)) (ahead way x w) 0)
        (λ w. cond (nat_lt 0 (over way x w)) (left (bays_to way (fr w) x) w) 0) ws (λ w _. over_fits way x w) in
        let greatest = passing_le (λ w. left (bays_to way (fr w) x) w) (λ w. nat_lt 0 (over way x w)) ws in
        let same = ap (most (comers way x)) (map-map (λ f. room t (bays_to way f x) f) fr ws) in
        omega (arith, works, mul-le-mul_left inst.travel ways, times, both, greatest, same)

    all_fit : (x z w : ℕ) → all_ticks w ≤ over Up x w → all_ticks w ≤ over Down z w
        → all_ticks w
        + inst.travel * (cond (nat_lt 0 (over Up x w)) (ahead Up x w) 0 + cond (nat_lt 0 (over Down z w)) (ahead Down z w) 0)
        ≤ left (bays_to Up (fr w) x + bays_to Down (fr w) z) w
    all_fit x z w up_all down_all = elim (cases_lt 0 (all_ticks w)) [
      | inl some ↦
          let over_all : 0 < over Up x w = omega (arith, some, up_all) in
          let under_all : 0 < over Down z w = omega (arith, some, down_all) in
          let one = ap (λ b. cond b (ahead Up x w) 0) (lt-ltb 0 (over Up x w) over_all) in
          let two = ap (λ b. cond b (ahead Down z w) 0) (lt-ltb 0 (over Down z w) under_all) in
          let goes_up = part_of (bays_to Up (fr w) x) (far w) (comes Up x w over_all) in
          let goes_down = part_of (bays_to Down (fr w) z) (deep w) (comes Down z w under_all) in
          let whole = mul-add inst.travel (far w) (deep w) in
          let parts = mul-add inst.travel (bays_to Up (fr w) x) (bays_to Down (fr w) z) in
          let behind = mul-add inst.travel (ahead Up x w) (ahead Down z w) in
          let is =
          ap (λ n. inst.travel * n)
          (ap (λ a. a + cond (nat_lt 0 (over Down z w)) (ahead Down z w) 0) one ∙ ap (λ b. ahead Up x w + b) two) in
          omega (arith, fits w some, goes_up, goes_down, whole, parts, behind, is)
      | inr none ↦
          let over_none = le-ltb 0 (over Up x w) (omega (arith, none, part_le (λ j. beyond Up x (at j)) w)) in
          let under_none = le-ltb 0 (over Down z w) (omega (arith, none, part_le (λ j. beyond Down z (at j)) w)) in
          let is =
          ap (λ n. inst.travel * n)
          (ap (λ b. cond b (ahead Up x w) 0 + cond (nat_lt 0 (over Down z w)) (ahead Down z w) 0) over_none
          ∙ ap (λ b. 0 + cond b (ahead Down z w) 0) under_none) in
          omega (arith, none, is, mul-zero inst.travel)
    ]

    together : (x z : ℕ) (ys zs : List ℕ) → InOrder Up (x ∷ ys) → InOrder Down (z ∷ zs)
        → ((w : ℕ) → all_ticks w ≤ over Up x w) → ((w : ℕ) → all_ticks w ≤ over Down z w)
        → sum_by (work_at inst cranes) (x ∷ ys)
        + inst.travel * (legs t Up (x ∷ ys) (map (comers Up) (x ∷ ys)) + legs t Down (z ∷ zs) (map (comers Down) (z ∷ zs)))
        ≤ sum (map (λ f. room t (bays_to Up f x + bays_to Down f z) f) t.frames)
    together x z ys zs r s up_all down_all =
        let works = works_over tick Up x ys r in
        let all = sum_le (over Up x) all_ticks ws (λ w _. part_le (λ j. beyond Up x (at j)) w) in
        let ways_up = legs_le tick Up x ys r in
        let ways_down = legs_le tick Down z zs s in
        let a = λ (w : ℕ). cond (nat_lt 0 (over Up x w)) (ahead Up x w) 0 in
        let b = λ (w : ℕ). cond (nat_lt 0 (over Down z w)) (ahead Down z w) 0 in
        let sides = sums_within a b (λ w. a w + b w) ws (λ w _. omega arith) in
        let times = times_sum inst.travel (λ w. a w + b w) ws in
        let both =
        sums_within all_ticks (λ w. inst.travel * (a w + b w)) (λ w. left (bays_to Up (fr w) x + bays_to Down (fr w) z) w) ws
        (λ w _. all_fit x z w (up_all w) (down_all w)) in
        let ways : legs t Up (x ∷ ys) (map (comers Up) (x ∷ ys)) + legs t Down (z ∷ zs) (map (comers Down) (z ∷ zs))
        ≤ sum_by (λ w. a w + b w) ws = omega (arith, ways_up, ways_down, sides) in
        let same = ap sum (map-map (λ f. room t (bays_to Up f x + bays_to Down f z) f) fr ws) in
        let is = sum-map (λ w. left (bays_to Up (fr w) x + bays_to Down (fr w) z) w) ws in
        omega (arith, works, all, mul-le-mul_left inst.travel ways, times, both, is, same)

    abbrev Fits : List ℕ → List ℕ → Type 0
    Fits bs cs =
        sum_by (work_at inst cranes) bs + inst.travel * (legs t Up bs (map (comers Up) bs) + legs t Down cs (map (comers Down) cs))
        ≤ sum (map (λ f. room t (bays_to Up f (get_or bs 0 0) + bays_to Down f (get_or cs 0 0)) f) t.frames)

    fit : (bs cs : List ℕ) → length cs ≡ length bs → InOrder Up bs → InOrder Down cs
        → ((y : ℕ) → Among xs y → Among bs y) → ((y : ℕ) → Among xs y → Among cs y) → Fits bs cs
    fit [] [] same r s in_b in_c = omega (arith, mul-zero inst.travel)
    fit [] (z ∷ zs) same r s in_b in_c = absurd (omega arith)
    fit (x ∷ ys) [] same r s in_b in_c = absurd (omega arith)
    fit (x ∷ ys) (z ∷ zs) same r s in_b in_c =
        together x z ys zs r s
        (λ w. all_over Up x w (λ y a. beyond_first Up x y ys r (in_b y a)))
        (λ w. all_over Down z w (λ y a. beyond_first Down z y zs s (in_c y a)))

    few : (way : Direction) (x : ℕ) → comers way x ≤ length t.frames
    few way x = omega (arith, count_by-le-length (λ w. nat_lt 0 (over way x w)) ws, length-map ws fr)

    rises : InOrder Up xs
    rises = rising (λ y. nat_lt 0 (length (left_at inst cranes y))) 1 inst.bays

    -- so not too little time is left
    pub not_short : is_short t ≡ true → ⊥
    not_short short =
        true≢false (sym short
        ∙ serves t comers few rises (λ way x ys r _. enough way x ys r)
        (fit xs (reverse xs) (length-reverse xs) rises (falling xs rises) (λ y a. a) (to_reverse xs))
        (λ f a works.
        let w = map_among fr ws f a in
        omega (arith, done w.0 (ap (λ (f : Frame). f.works) w.2 ∙ works), ap (λ (f : Frame). f.gone) w.2)))

-- ---- multiples of the grain

map_range : {X : Type 0} (f g : ℕ → X) (a n : ℕ) → ((k : ℕ) → k < a + n → f k ≡ g k)
    → map f (range_with_len a n) ≡ map g (range_with_len a n)
map_range f g a zero h = refl
map_range f g a (suc n) h =
    ap (λ y. y ∷ map f (range_with_len (a + 1) n)) (h a (omega arith))
    ∙ ap (λ ys. g a ∷ ys) (map_range f g (a + 1) n (λ k low. h k (omega (arith, low))))

dvd_sum : (g : ℕ) (f : ℕ → ℕ) (xs : List ℕ) → ((x : ℕ) → Among xs x → g ∣ f x) → g ∣ sum_by f xs
dvd_sum g f [] h = dvd-zero g
dvd_sum g f (x ∷ xs) h =
    subst (λ (n : ℕ). g ∣ n) (sym (sum_by-cons f x xs)) (dvd-add g (h x (inl refl)) (dvd_sum g f xs (λ y a. h y (inr a))))

module _ (inst : InstanceView) (g : ℕ) (grain : AreMultiples inst g) where
  dvd_ready : (w : ℕ) → g ∣ (crane inst w).ready
  dvd_ready w = elim (cases_lt w (length inst.cranes)) [
    | inl low ↦ grain.ready w low
    | inr high ↦ subst (λ c. g ∣ c.ready) (sym (get_or_past inst.cranes w no_crane high)) (dvd-zero g)
  ]

  dvd_release : (j : ℕ) → g ∣ release_of inst j
  dvd_release j = elim (cases_lt j (length inst.tasks)) [
    | inl low ↦ grain.releases j low
    | inr high ↦ subst (λ t. g ∣ t.release) (sym (get_or_past inst.tasks j no_task high)) (dvd-zero g)
  ]

  dvd_gone : (turn : Turn) (w : ℕ) (os : List ℕ) → ((j : ℕ) → Among os j → j < length inst.tasks)
      → g ∣ (frame_of inst turn w os).gone
  dvd_gone turn w [] range = dvd_ready w
  dvd_gone turn w (j ∷ js) range =
      dvd-add g (dvd-add g (dvd_ready w) (dvd_sum g (ticks_of inst) (j ∷ js) (λ k a. grain.tasks k (range k a))))
      (dvd-mul_right_of_dvd g grain.travel _)

  dvd_cond : (b : Bool) (n : ℕ) → g ∣ n → g ∣ cond b n 0
  dvd_cond true n d = d
  dvd_cond false n d = dvd-zero g

  dvd_min : (m n : ℕ) → g ∣ m → g ∣ n → g ∣ min m n
  dvd_min m n a b = elim (cases_lt m n) [
    | inl less ↦ let same : m ≡ min m n = omega arith in subst (λ (k : ℕ). g ∣ k) same a
    | inr more ↦ let same : n ≡ min m n = omega arith in subst (λ (k : ℕ). g ∣ k) same b
  ]

  dvd_max : (m n : ℕ) → g ∣ m → g ∣ n → g ∣ max m n
  dvd_max m n a b = elim (cases_lt m n) [
    | inl less ↦ let same : n ≡ max m n = omega arith in subst (λ (k : ℕ). g ∣ k) same b
    | inr more ↦ let same : m ≡ max m n = omega arith in subst (λ (k : ℕ). g ∣ k) same a
  ]

  dvd_greatest : (ns : List ℕ) → ((n : ℕ) → Among ns n → g ∣ n) → g ∣ greatest ns
  dvd_greatest [] h = dvd-zero g
  dvd_greatest (n ∷ ns) h = dvd_max n (greatest ns) (h n (inl refl)) (dvd_greatest ns (λ m a. h m (inr a)))

  dvd_least : (f : ℕ → ℕ) (js : List ℕ) → ((j : ℕ) → g ∣ f j) → g ∣ least (map f js)
  dvd_least f [] h = dvd-zero g
  dvd_least f (j ∷ []) h = h j
  dvd_least f (j ∷ k ∷ ks) h = dvd_min (f j) (least (map f (k ∷ ks))) (h j) (dvd_least f (k ∷ ks) h)

  dvd_free : (j k : ℕ) → g ∣ free inst j k
  dvd_free j k =
      dvd_max (max (release_of inst j) (arrival inst k (bay_of inst j))) _
      (dvd_max (release_of inst j) _ (dvd_release j)
      (dvd-add g (dvd_ready k) (dvd-mul_right_of_dvd g grain.travel _)))
      (dvd_greatest (map (berth_wait inst j k) (range_with_len 0 (length inst.cranes))) (λ n a.
      let r = map_among (berth_wait inst j k) (range_with_len 0 (length inst.cranes)) n a in
      subst (λ (n : ℕ). g ∣ n) r.2 (waits r.0)))
    where
      waits : (v : ℕ) → g ∣ berth_wait inst j k v
      waits v =
          cond_both (eqb (berth_distance inst v k (bay_of inst j)) 0) 0 (berth_clear inst v k (bay_of inst j)) (λ n. g ∣ n)
          (λ _. dvd-zero g)
          (λ _. dvd-add g (dvd_ready v) (dvd-mul_right_of_dvd g grain.travel _))

  module _ (turn : Turn) (cranes : List (Option ℕ)) (w : ℕ) where
    dvd_soonest : (j : ℕ) → g ∣ soonest inst cranes j
    dvd_soonest j = by (crane_in cranes j)
      where
        by : (o : Option ℕ) → g ∣ option_map_or (free inst j) o 0
        by None = dvd-zero g
        by (Some k) = dvd_free j k

    dvd_ticks : (js : List ℕ) → ((j : ℕ) → Among js j → j < length inst.tasks) → g ∣ ticks_over inst js
    dvd_ticks js range = dvd_sum g (ticks_of inst) js (λ j a. grain.tasks j (range j a))

    dvd_both : (is bs : List ℕ) → ((j : ℕ) → Among is j → j < length inst.tasks)
        → ((j : ℕ) → Among bs j → j < length inst.tasks) → g ∣ both_done inst turn cranes w is bs
    dvd_both [] bs own_in bars_in = dvd-zero g
    dvd_both (i ∷ is) [] own_in bars_in = dvd-zero g
    dvd_both (i ∷ is) (b ∷ bs) own_in bars_in =
        dvd-add g (dvd_ticks (b ∷ bs) bars_in)
        (dvd_min _ _ (dvd_gone turn w (i ∷ is) own_in)
        (dvd-add g (dvd-add g (dvd_least (soonest inst cranes) (b ∷ bs) dvd_soonest) (dvd_ticks (i ∷ is) own_in))
        (dvd-mul_right_of_dvd g grain.travel _)))

    in_all : (p : ℕ → Bool) (j : ℕ) → Among (filter p (task_numbers inst)) j → j < length inst.tasks
    in_all p j a = omega (arith, (range_among j 0 (length inst.tasks) (filter_among p (task_numbers inst) j a).0).1)

    dvd_done : (low high : ℤ) → g ∣ done_in inst turn cranes w low high
    dvd_done low high =
        dvd_cond _ _ (dvd_both (filter (lies inst low high) (own inst cranes w)) (barring inst cranes w low high)
        (λ j a. in_all _ j (filter_among (lies inst low high) (own inst cranes w) j a).0)
        (λ j a. in_all _ j a))

    dvd_barred : g ∣ (barred_frame inst turn cranes w).gone
    dvd_barred =
        dvd_greatest ((frame inst turn cranes w).gone ∷ all_done inst turn cranes w (own_or_left inst cranes w)) one
      where
        one : (n : ℕ) → Among ((frame inst turn cranes w).gone ∷ all_done inst turn cranes w (own_or_left inst cranes w)) n → g ∣ n
        one n (inl e) = subst (λ (n : ℕ). g ∣ n) e (dvd_gone turn w (own inst cranes w) (λ j a. in_all _ j a))
        one n (inr a) = among_done inst turn cranes w (λ (n : ℕ). g ∣ n) dvd_done (own_or_left inst cranes w) n a

    dvd_way : (way : Way) → g ∣ (frame_along inst turn cranes w way).gone
    dvd_way way =
        dvd_max (barred_frame inst turn cranes w).gone _ dvd_barred
        (dvd_add3 (dvd_ready w) (dvd_ticks (own inst cranes w) (λ j a. in_all _ j a)) (dvd-mul_right_of_dvd g grain.travel way.bays))
      where
        dvd_add3 : {a b c : ℕ} → g ∣ a → g ∣ b → g ∣ c → g ∣ a + b + c
        dvd_add3 p q r = dvd-add g (dvd-add g p q) r

module _ (inst : InstanceView) (turn : Turn) (cranes : List (Option ℕ)) (sched : List Slot) (valid : Valid inst)
    (goes : GoesBy turn inst sched) (follows : Follows inst cranes sched) (g : ℕ) (grain : AreMultiples inst g)
    (end : ℕ) (early : ends inst sched < end) where
  abbrev tick : ℕ
  tick = last_before g end

  abbrev work : ℕ → ℕ
  work w = beside inst turn cranes sched valid goes follows w

  abbrev Time : ℕ → Frame → Type 0
  Time w fr = HasTime inst turn cranes sched valid goes follows w fr

  -- what is a multiple and over when the schedule ends is so by the tick
  by_tick : (n : ℕ) → g ∣ n → n ≤ ends inst sched → n ≤ tick
  by_tick n divides low = multiple_to g (end - 1) n grain.some divides (omega (arith, low, early))

  -- with frames that the cranes have the time for, and that are multiples
  module _ (fr : ℕ → Frame) (has : (w : ℕ) → Time w (fr w)) (gone_divides : (w : ℕ) → g ∣ (fr w).gone) where
    done_by : (w : ℕ) → (fr w).works ≡ true → (fr w).gone ≤ tick
    done_by w works = by_tick (fr w).gone (gone_divides w) ((has w).done works)

    fits_by : (w : ℕ) → 0 < work w → (fr w).gone + work w + inst.travel * ((has w).far + (has w).deep) ≤ tick
    fits_by w some =
        by_tick ((fr w).gone + work w + inst.travel * ((has w).far + (has w).deep))
        (dvd-add g (dvd-add g (gone_divides w) work_divides) (dvd-mul_right_of_dvd g grain.travel ((has w).far + (has w).deep)))
        ((has w).fits some)
      where
        work_divides : g ∣ work w
        work_divides =
            dvd_sum g (λ j. cond (does_open inst turn cranes sched valid goes follows w j) (ticks_of inst j) 0) (task_numbers inst)
            (λ j a. dvd_cond inst g grain (does_open inst turn cranes sched valid goes follows w j) (ticks_of inst j)
            (grain.tasks j (omega (arith, (range_among j 0 (length inst.tasks) a).1))))

    -- the cranes have the time by the greatest multiple of the grain before an end that comes later
    long_enough : is_short (try_with inst cranes fr tick) ≡ true → ⊥
    long_enough = not_short inst turn cranes sched valid goes follows fr has tick done_by fits_by

  -- where neighbours bar their ways
  barred_enough : is_short (try_of inst turn cranes tick) ≡ true → ⊥
  barred_enough =
      long_enough (barred_frame inst turn cranes) (barred_time inst turn cranes sched valid goes follows)
      (dvd_barred inst g grain turn cranes)

  -- by the longest of their ways; a number of no crane counts as if it had none
  abbrev is_crane : ℕ → Bool
  is_crane w = nat_lt w (length inst.cranes)

  abbrev frame_of_way : ℕ → Frame
  frame_of_way w = cond (is_crane w) (way_frame inst turn cranes w) (barred_frame inst turn cranes w)

  along_time : (w : ℕ) → Time w (frame_of_way w)
  along_time w =
      cond_both (is_crane w) (way_frame inst turn cranes w) (barred_frame inst turn cranes w) (Time w)
      (λ t. way_time inst turn cranes sched valid goes follows w (ltb-true w (length inst.cranes) t))
      (λ _. barred_time inst turn cranes sched valid goes follows w)

  along_divides : (w : ℕ) → g ∣ (frame_of_way w).gone
  along_divides w =
      cond_both (is_crane w) (way_frame inst turn cranes w) (barred_frame inst turn cranes w) (λ fr. g ∣ fr.gone)
      (λ _. dvd_way inst g grain turn cranes w (longest_way inst turn cranes w))
      (λ _. dvd_barred inst g grain turn cranes w)

  along_enough : is_short (try_with inst cranes (way_frame inst turn cranes) tick) ≡ true → ⊥
  along_enough short = long_enough frame_of_way along_time along_divides (subst Short (sym same) short)
    where
      Short : List Frame → Type 0
      Short frames =
          is_short (record { travel = inst.travel; frames = frames; bays = left_bays inst cranes; work = work_at inst cranes; tick = tick }) ≡ true

      same : map frame_of_way (crane_numbers inst) ≡ map (way_frame inst turn cranes) (crane_numbers inst)
      same =
          map_range frame_of_way (way_frame inst turn cranes) 0 (length inst.cranes) (λ w low.
          cond-true (is_crane w) _ _ (lt-ltb w (length inst.cranes) (omega arith)))

-- every schedule follows the assignment in which no task has a crane
bare_follows : (inst : InstanceView) (sched : List Slot) → Follows inst (no_cranes inst) sched
bare_follows inst sched j k low e = absurd (other (sym (none_there (length inst.tasks) j) ∙ e))
  where
    other : None ≡ Some k → ⊥
    other e = cc

-- an end at which an assignment is closed is at most that of each schedule that follows it and that cranes which turn so
-- can keep
pub closed_end_le : (inst : InstanceView) (turn : Turn) (cranes : List (Option ℕ)) (end : ℕ) → Valid inst
    → is_closed inst turn cranes end ≡ true → IsClosedBound inst turn cranes end
closed_end_le inst turn cranes end valid closed sched goes follows = elim (cases_lt (ends inst sched) end) [
  | inl early ↦
      let multiples = grain_is inst (least_steps inst valid).0 in
      let bare = is_short_before inst turn (no_cranes inst) end in
      absurd (elim (or_cases (is_short_before inst turn (no_cranes inst) end)
      (is_short_before inst turn cranes end || is_short_along inst turn cranes end) closed) [
        | inl bare ↦
            barred_enough inst turn (no_cranes inst) sched valid goes (bare_follows inst sched) (grain inst) multiples end early bare
        | inr some ↦ elim (or_cases (is_short_before inst turn cranes end) (is_short_along inst turn cranes end) some) [
          | inl own ↦ barred_enough inst turn cranes sched valid goes follows (grain inst) multiples end early own
          | inr way ↦ along_enough inst turn cranes sched valid goes follows (grain inst) multiples end early way
        ]
      ])
  | inr long ↦ long
]
