-- No assignment is closed at a late end: by then one crane alone has the time for all that is left.
use Rattle.std.proofs.Common.{[], ◌≡◌, ℕ, suc, ◌+◌, ◌-◌, ◌*◌, ◌/◌, ◌%◌, ◌<◌, ◌≤◌, inl, inr, Bool, true, false, ◌&&◌, ◌||◌, eqb, nat_lt, cond, ℤ, List, ◌∷◌, length, get_or, filter, map, reverse, Option, is_none, is_some, sum, sum_by, refl, ap, sym, subst, ◌∙◌, arith}
use Rattle.std.proofs.Math.Nat.{mul-add, mul-le-mul_left, mul-zero, mul_comm}
use Rattle.std.proofs.lemmas.Bool.{and_parts, cases_Bool, cases_lt, cond_both, eqb-true, false_from_ne_true, or_from, true≢false}
use Rattle.std.proofs.lemmas.Int.{ints}
use Rattle.std.proofs.lemmas.List.{length-reverse}
use Rattle.std.proofs.lemmas.List.FromFn.{get_or-map-range_with_len, length-map-range_with_len, length-range_with_len}
use Rattle.std.proofs.lemmas.List.Sums.{sum_by-cons}
use Rattle.std.proofs.lemmas.Nat.Gcd.{le_of_dvd}
use Rattle.std.specs.Option.{option_map_or}
use Rattle.std.specs.List.{list_all, range_with_len}
use Rattle.qc_close.specs.Model.{Direction, Up, Down, Frame, Turn, OneWay, Free, AreInRange, crane_in, no_cranes, Try, bays_to, fewest, grain, is_closed, is_short, is_short_along, is_short_before, last_before, left_at, left_bays, legs, load, most, room, work_at, all_done, barred_frame, barring, both_done, done_in, is_barred, lies, own_or_left, frame, frame_of, own, turn_bays, turn_high, InstanceView, IsOnRail, Valid, bay_of, crane, ticks_of, crane_numbers, highest, lowest, task_numbers, ticks_over, MOST_START, longest_way, own_bays, way_frame}
use Rattle.qc_model.proofs.Bays.{bays}
use Rattle.qc_model.proofs.LimitsOf.{limits_of, travel_of}
use Rattle.qc_model.proofs.OnRail.{ticks_bounded}
use Rattle.qc_close.specs.Counts.{AreNear, IsNear}
use Rattle.std.specs.Int.{int_min}
use Rattle.qc_close.specs.Trips.{IsShortWay}
use Rattle.qc_close.proofs.LongestLemmas.{longest_short}
use Rattle.qc_close.proofs.TripLemmas.{rail_wide}
use Rattle.qc_close.specs.Lasts.{IsLatest}
use Rattle.qc_close.proofs.OrderLemmas.{After, beyond, not_before, not_short, InOrder, beyond_after, beyond_at, falling, from_reverse, rising, to_rises}
use Rattle.qc_close.proofs.CountLemmas.{most_cons, sum_filter, sum_le, sums_within}
use Rattle.qc_close.proofs.CrewLemmas.{at, sum_few, term, work_is}
use Rattle.qc_close.proofs.GrainLemmas.{grain_is}
use Rattle.qc_close.proofs.KeptLemmas.{closed_falls}
use Rattle.qc_close.proofs.Extremes.{among_done, greatest_among}
use Rattle.qc_close.proofs.Members.{Among, filter_among, map_among, range_among}
use Rattle.qc_close.proofs.OwnLemmas.{rail_high, rail_max, rail_min}
use Rattle.qc_close.proofs.SumLemmas.{most_all}

-- ---- one crane to each bay

abbrev ones : List ℕ → List ℕ
ones xs = map (λ _. 1) xs

-- with frames of which the first has spent so much, bays to come that lie so far at the most, and so much work
module _ (travel : ℕ) (f : Frame) (fs : List Frame) (bays_left : List ℕ) (work : ℕ → ℕ) (tick gone all far : ℕ)
    (spent : f.gone ≤ gone) (late : gone + all + travel * (far + far) ≤ tick) (rises : InOrder Up bays_left)
    (reach : (way : Direction) (x : ℕ) → Among bays_left x → bays_to way f x ≤ far)
    (total : (way : Direction) (xs : List ℕ) → InOrder way xs → sum_by work xs ≤ all) where
  abbrev t : Try
  t = record { travel = travel; frames = f ∷ fs; bays = bays_left; work = work; tick = tick }

  abbrev Within : List ℕ → Type 0
  Within xs = (x : ℕ) → Among xs x → Among bays_left x

  -- the first crane goes no fewer bays than the one that goes the fewest
  one_of : (g : Frame → ℕ) → fewest 1 (map g (f ∷ fs)) ≤ g f
  one_of g =
      let ys = map g fs in
      let others = ap (λ n. most n (g f ∷ ys)) (less (length ys)) in
      omega (arith, sum_by-cons (λ (k : ℕ). k) (g f) ys, others, most_cons (length ys) (g f) ys, most_all (length ys) ys (omega arith))
    where
      less : (n : ℕ) → suc n - 1 ≡ n
      less n = omega arith

  most_one : (g : Frame → ℕ) → g f ≤ most 1 (map g (f ∷ fs))
  most_one g = omega arith

  sum_one : (g : Frame → ℕ) → g f ≤ sum (map g (f ∷ fs))
  sum_one g = omega (arith, sum_by-cons (λ (k : ℕ). k) (g f) (map g fs))

  legs_le : (way : Direction) (x : ℕ) (ys : List ℕ) → InOrder way (x ∷ ys) → Within (x ∷ ys)
      → legs t way (x ∷ ys) (ones (x ∷ ys)) + bays_to way f x ≤ far
  legs_le way x [] r h = omega (arith, reach way x (h x (inl refl)))
  legs_le way x (y ∷ ys) r h =
      let rest = legs_le way y ys r.1 (λ z a. h z (inr a)) in
      let rises = to_rises way f x y (beyond_after way x y y (r.0 y (inl refl)) (beyond_at way y y refl)) in
      omega (arith, rest, rises, one_of (λ g. bays_to way g y - bays_to way g x))

  -- what one crane has left at a bay is enough for it and for what lies behind it
  enough : (way : Direction) (x : ℕ) (ys : List ℕ) → InOrder way (x ∷ ys) → Within (x ∷ ys)
      → load t way (x ∷ ys) (ones (x ∷ ys)) ≤ most 1 (map (λ g. room t (bays_to way g x) g) (f ∷ fs))
  enough way x ys r h =
      let go = legs t way (x ∷ ys) (ones (x ∷ ys)) in
      let come = bays_to way f x in
      omega (
        arith,
        total way (x ∷ ys) r,
        most_one (λ g. room t (bays_to way g x) g),
        mul-add travel go come,
        mul-add travel far far,
        mul-le-mul_left travel (legs_le way x ys r h),
      )

  abbrev Fits : List ℕ → List ℕ → Type 0
  Fits bs cs =
      sum_by work bs + travel * (legs t Up bs (ones bs) + legs t Down cs (ones cs))
      ≤ sum (map (λ g. room t (bays_to Up g (get_or bs 0 0) + bays_to Down g (get_or cs 0 0)) g) (f ∷ fs))

  fit : (bs cs : List ℕ) → length cs ≡ length bs → InOrder Up bs → InOrder Down cs → Within bs → Within cs → Fits bs cs
  fit [] [] same r s up down = omega (arith, mul-zero travel)
  fit [] (z ∷ zs) same r s up down = absurd (omega arith)
  fit (x ∷ ys) [] same r s up down = absurd (omega arith)
  fit (x ∷ ys) (z ∷ zs) same r s up down =
      let one = legs t Up (x ∷ ys) (ones (x ∷ ys)) in
      let other = legs t Down (z ∷ zs) (ones (z ∷ zs)) in
      let come = bays_to Up f x + bays_to Down f z in
      let goes : one + other + come ≤ far + far = omega (arith, legs_le Up x ys r up, legs_le Down z zs s down) in
      omega (
        arith,
        total Up (x ∷ ys) r,
        sum_one (λ g. room t (bays_to Up g x + bays_to Down g z) g),
        mul-add travel (one + other) come,
        mul-le-mul_left travel goes,
      )

  -- one crane to each bay serves, where each crane is done with what it has
  pub not_late : ((g : Frame) → Among (f ∷ fs) g → g.gone ≤ tick) → is_short t ≡ false
  not_late done =
      not_short t (λ _ _. 1) (λ way x. omega arith) rises enough
      (fit bays_left (reverse bays_left) (length-reverse bays_left) rises (falling bays_left rises) (λ y a. a) (from_reverse bays_left))
      (λ g a _. done g a)

-- ---- the work at all bays together

module _ (inst : InstanceView) (cranes : List (Option ℕ)) where
  -- the tasks at this bay and at those behind it
  abbrev over : Direction → ℕ → ℕ
  over way x = sum_by (λ j. cond (beyond way x (at inst j)) (ticks_of inst j) 0) (task_numbers inst)

  here : (way : Direction) (x : ℕ) (b : Bool) (a n : ℕ) → cond (b && eqb a x) n 0 ≤ cond (beyond way x a) n 0
  here way x b a n = elim (cases_Bool (b && eqb a x)) [
    | inl s ↦
        let is = beyond_at way x a (eqb-true a x (and_parts b (eqb a x) s).1) in
        omega (arith, ap (λ c. cond c n 0) s, ap (λ c. cond c n 0) is)
    | inr s ↦ omega (arith, ap (λ c. cond c n 0) s)
  ]

  here_over : (way : Direction) (x : ℕ) → work_at inst cranes x ≤ over way x
  here_over way x =
      let all = sum_le (term inst cranes x) (λ j. cond (beyond way x (at inst j)) (ticks_of inst j) 0) (task_numbers inst)
      (λ j _. here way x (is_none (crane_in cranes j)) (at inst j) (ticks_of inst j)) in
      omega (arith, work_is inst cranes x, all)

  over_next : (way : Direction) (x y : ℕ) → After way x y → work_at inst cranes x + over way y ≤ over way x
  over_next way x y after =
      let parts =
      sums_within (term inst cranes x) (λ j. cond (beyond way y (at inst j)) (ticks_of inst j) 0)
      (λ j. cond (beyond way x (at inst j)) (ticks_of inst j) 0) (task_numbers inst)
      (λ j _. one (is_none (crane_in cranes j)) (at inst j) (ticks_of inst j)) in
      omega (arith, work_is inst cranes x, parts)
    where
      one : (b : Bool) (a n : ℕ) → cond (b && eqb a x) n 0 + cond (beyond way y a) n 0 ≤ cond (beyond way x a) n 0
      one b a n = elim (cases_Bool (beyond way y a)) [
        | inl t ↦
            let none : b && eqb a x ≡ false = false_from_ne_true (b && eqb a x) (λ s.
            not_before way x y a after (eqb-true a x (and_parts b (eqb a x) s).1) t) in
            omega (
              arith,
              ap (λ c. cond c n 0) none,
              ap (λ c. cond c n 0) t,
              ap (λ c. cond c n 0) (beyond_after way x y a after t),
            )
        | inr t ↦ omega (arith, ap (λ c. cond c n 0) t, here way x b a n)
      ]

  work_over : (way : Direction) (x : ℕ) (ys : List ℕ) → InOrder way (x ∷ ys)
      → sum_by (work_at inst cranes) (x ∷ ys) ≤ over way x
  work_over way x [] r = omega (arith, sum_by-cons (work_at inst cranes) x [], here_over way x)
  work_over way x (y ∷ ys) r =
      omega (arith, sum_by-cons (work_at inst cranes) x (y ∷ ys), work_over way y ys r.1, over_next way x y (r.0 y (inl refl)))

  module _ (valid : Valid inst) where
    over_le : (way : Direction) (x : ℕ) → over way x ≤ 120576000000
    over_le way x =
        let few = sum_few (λ j. cond (beyond way x (at inst j)) (ticks_of inst j) 0) 502400000 0 (length inst.tasks)
        (λ j low. one (beyond way x (at inst j)) (ticks_of inst j) (ticks_bounded inst valid j (omega arith))) in
        omega (arith, few, valid.tasks.count)
      where
        one : (b : Bool) (n : ℕ) → n ≤ 502400000 → cond b n 0 ≤ 502400000
        one true n le = le
        one false n le = omega arith

    work_le : (way : Direction) (xs : List ℕ) → InOrder way xs → sum_by (work_at inst cranes) xs ≤ 120576000000
    work_le way [] r = omega arith
    work_le way (x ∷ ys) r = omega (arith, work_over way x ys r, over_le way x)

-- ---- what a crane has spent

-- the bays of a crane lie on the rail, and it has spent no more than this
pub record IsModest (most : ℕ) (fr : Frame) : Type 0 where
  pub near : IsNear fr
  pub gone : fr.gone ≤ most

module _ (inst : InstanceView) (valid : Valid inst) where
  low_rail : (j : ℕ) (js : List ℕ) → ((k : ℕ) → Among (j ∷ js) k → IsOnRail (bay_of inst k)) → IsOnRail (lowest inst j js)
  low_rail j [] h = h j (inl refl)
  low_rail j (i ∷ is) h =
      rail_min (bay_of inst j) (lowest inst i is) (h j (inl refl)) (low_rail i is (λ k a. h k (inr a)))

  high_rail : (j : ℕ) (js : List ℕ) → ((k : ℕ) → Among (j ∷ js) k → IsOnRail (bay_of inst k)) → IsOnRail (highest inst j js)
  high_rail j [] h = h j (inl refl)
  high_rail j (i ∷ is) h =
      rail_max (bay_of inst j) (highest inst i is) (h j (inl refl)) (high_rail i is (λ k a. h k (inr a)))

  turn_few : (turn : Turn) (b low high : ℤ) → IsOnRail b → IsOnRail low → IsOnRail high → turn_bays turn b low high ≤ 68000
  turn_few OneWay b low high r s u = omega (arith, bays, r.0, r.1, s.0, s.1, u.0, u.1)
  turn_few Free b low high r s u = omega (arith, bays, r.0, r.1, s.0, s.1, u.0, u.1)

  travel_few : (n m : ℕ) → n ≤ m → inst.travel * n ≤ 10000 * m
  travel_few n m le =
      omega (arith, mul-le-mul_left inst.travel le, mul-le-mul_left m (travel_of inst valid).1, mul_comm m inst.travel, mul_comm m 10000)

  module _ (turn : Turn) (w : ℕ) (low : w < length inst.cranes) where
    berth : IsOnRail (crane inst w).bay
    berth = ((limits_of inst valid).berths w low).0

    modest_by : (os : List ℕ) → ((j : ℕ) → Among os j → j < length inst.tasks) → ticks_over inst os ≤ 120576000000
        → IsModest 500000000000 (frame_of inst turn w os)
    modest_by [] range few = record {
      near = record { low = rail_wide (crane inst w).bay berth; high = rail_wide (crane inst w).bay berth };
      gone = omega (arith, valid.cranes.ready w low);
    }
    modest_by (j ∷ js) range few =
        let on = λ (k : ℕ) (a : Among (j ∷ js) k). task_rail k (range k a) in
        let l = low_rail j js on in
        let h = high_rail j js on in
        let way = travel_few (turn_bays turn (crane inst w).bay (lowest inst j js) (highest inst j js)) 68000
        (turn_few turn (crane inst w).bay (lowest inst j js) (highest inst j js) berth l h) in
        record {
          near = record {
            low = rail_wide (int_min (lowest inst j js) (crane inst w).bay) (rail_min (lowest inst j js) (crane inst w).bay l berth);
            high = rail_wide (turn_high turn (crane inst w).bay (highest inst j js)) (rail_high turn (crane inst w).bay (highest inst j js) berth h);
          };
          gone = omega (arith, valid.cranes.ready w low, few, way);
        }
      where
        task_rail : (k : ℕ) → k < length inst.tasks → IsOnRail (bay_of inst k)
        task_rail k low =
            let at_bay = valid.tasks.bays k low in
            let most = (limits_of inst valid).bays.1 in
            (omega (arith, ints, at_bay.0), omega (arith, ints, at_bay.1, most))

    -- of the tasks of the instance none that pass a test take longer
    among_tasks_few : (p : ℕ → Bool) → ticks_over inst (filter p (task_numbers inst)) ≤ 120576000000
    among_tasks_few p =
        omega (
          arith,
          sum_filter (ticks_of inst) p (task_numbers inst),
          sum_few (λ j. cond (p j) (ticks_of inst j) 0) 502400000 0 (length inst.tasks)
              (λ j low. one (p j) (ticks_of inst j) (ticks_bounded inst valid j (omega arith))),
          valid.tasks.count,
        )
      where
        one : (b : Bool) (n : ℕ) → n ≤ 502400000 → cond b n 0 ≤ 502400000
        one true n le = le
        one false n le = omega arith

    module _ (cranes : List (Option ℕ)) where
      abbrev is_own : ℕ → Bool
      is_own j = option_map_or (λ k. eqb k w) (crane_in cranes j) false

      own_range : (j : ℕ) → Among (own inst cranes w) j → j < length inst.tasks
      own_range j a = omega (arith, (range_among j 0 (length inst.tasks) (filter_among is_own (task_numbers inst) j a).0).1)

      -- of its own tasks neither do those that pass a test
      own_few : (p : ℕ → Bool) → ticks_over inst (filter p (own inst cranes w)) ≤ 120576000000
      own_few p =
          omega (
            arith,
            sum_filter (ticks_of inst) p (own inst cranes w),
            among_tasks_few is_own,
            sum_le (λ j. cond (p j) (ticks_of inst j) 0) (ticks_of inst) (own inst cranes w)
                (λ j _. one (p j) (ticks_of inst j)),
          )
        where
          one : (b : Bool) (n : ℕ) → cond b n 0 ≤ n
          one true n = omega arith
          one false n = omega arith

      modest : IsModest 500000000000 (frame inst turn cranes w)
      modest = modest_by (own inst cranes w) own_range (among_tasks_few is_own)

      both_few : (is js : List ℕ) → ((j : ℕ) → Among is j → j < length inst.tasks) → ticks_over inst is ≤ 120576000000
          → ticks_over inst js ≤ 120576000000 → both_done inst turn cranes w is js ≤ 650000000000
      both_few [] js range few bars = omega arith
      both_few (i ∷ is) [] range few bars = omega arith
      both_few (i ∷ is) (j ∷ js) range few bars = omega (arith, bars, (modest_by (i ∷ is) range few).gone)

      done_few : (low high : ℤ) → done_in inst turn cranes w low high ≤ 650000000000
      done_few low high =
          cond_both (list_all (λ j. is_some (crane_in cranes j) || lies inst low high j) (task_numbers inst)) _ 0
          (λ n. n ≤ 650000000000)
          (λ _. both_few (filter (lies inst low high) (own inst cranes w)) (barring inst cranes w low high)
          (λ j a. own_range j (filter_among (lies inst low high) (own inst cranes w) j a).0)
          (own_few (lies inst low high))
          (among_tasks_few (λ j. option_map_or (λ v. is_barred inst w low high v (bay_of inst j)) (crane_in cranes j) false)))
          (λ _. omega arith)

      -- the same while neighbours bar its way
      barred_modest : IsModest 650000000000 (barred_frame inst turn cranes w)
      barred_modest = record {
        near = record { low = modest.near.low; high = modest.near.high };
        gone = by (greatest_among (frame inst turn cranes w).gone (all_done inst turn cranes w (own_or_left inst cranes w)));
      }
        where
          by : {n : ℕ} → Among ((frame inst turn cranes w).gone ∷ all_done inst turn cranes w (own_or_left inst cranes w)) n
              → n ≤ 650000000000
          by (inl e) = omega (arith, e, modest.gone)
          by (inr a) = among_done inst turn cranes w (λ n. n ≤ 650000000000) done_few (own_or_left inst cranes w) _ a

      -- and with the longest of its ways
      own_way_few : (os : List ℕ) → ((j : ℕ) → Among os j → j < length inst.tasks) → own_bays inst turn w os ≤ 68000
      own_way_few [] range = omega arith
      own_way_few (j ∷ js) range =
          let on = λ (k : ℕ) (a : Among (j ∷ js) k). task_on_rail k (range k a) in
          turn_few turn (crane inst w).bay (lowest inst j js) (highest inst j js) berth (low_rail j js on) (high_rail j js on)
        where
          task_on_rail : (k : ℕ) → k < length inst.tasks → IsOnRail (bay_of inst k)
          task_on_rail k low =
              let at_bay = valid.tasks.bays k low in
              let most = (limits_of inst valid).bays.1 in
              (omega (arith, ints, at_bay.0), omega (arith, ints, at_bay.1, most))

      pub short_way : AreInRange inst cranes → IsShortWay (longest_way inst turn cranes w)
      short_way range =
          longest_short inst valid turn w low cranes range modest.near.low modest.near.high
          (own_way_few (own inst cranes w) own_range)

      pub way_modest : AreInRange inst cranes → IsModest 650000000000 (way_frame inst turn cranes w)
      way_modest range =
          let way = short_way range in
          let far = travel_few (longest_way inst turn cranes w).bays 16592000 way.bays in
          record {
            near = record { low = way.low; high = way.high };
            gone = omega (arith, barred_modest.gone, valid.cranes.ready w low, among_tasks_few is_own, far);
          }

  -- ---- late ends

  module _ (turn : Turn) (cranes : List (Option ℕ)) where
    abbrev xs : List ℕ
    xs = left_bays inst cranes

    rises : InOrder Up xs
    rises = rising (λ y. nat_lt 0 (length (left_at inst cranes y))) 1 inst.bays

    on_ship : (x : ℕ) → Among xs x → (1 ≤ x) × (x ≤ 6000)
    on_ship x a =
        let r = range_among x 1 inst.bays (filter_among (λ y. nat_lt 0 (length (left_at inst cranes y))) (range_with_len 1 inst.bays) x a).0 in
        (r.0, omega (arith, r.1, (limits_of inst valid).bays.1))

    far_few : (way : Direction) (fr : Frame) (x : ℕ) → IsNear fr → x ≤ 6000 → bays_to way fr x ≤ 40000
    far_few Up fr x n le = omega (arith, bays, n.high.0, n.high.1, le)
    far_few Down fr x n le = omega (arith, bays, n.low.0, n.low.1, le)

    -- whatever frames there are that are modest
    pub served_late : (of : ℕ → Frame) → ((w : ℕ) → w < length inst.cranes → IsModest 650000000000 (of w)) → (tick : ℕ)
        → 900000000000 ≤ tick → (ws : List ℕ) → 0 < length ws → ((w : ℕ) → Among ws w → w < length inst.cranes)
        → is_short (record { travel = inst.travel; frames = map of ws; bays = xs; work = work_at inst cranes; tick = tick }) ≡ false
    served_late of each tick late [] some range = absurd (omega arith)
    served_late of each tick late (w ∷ ws) some range =
        let m = each w (range w (inl refl)) in
        not_late inst.travel (of w) (map of ws) xs (work_at inst cranes) tick 650000000000 120576000000 40000
        m.gone (omega (arith, late, travel_few (40000 + 40000) 80000 (omega arith)))
        rises (λ way x a. far_few way (of w) x m.near (on_ship x a).1) (work_le inst cranes valid)
        (λ g a.
        let v = map_among of (w ∷ ws) g a in
        omega (arith, late, (each v.0 (range v.0 v.1)).gone, ap (λ (h : Frame). h.gone) v.2))

    pub late_tick : (end : ℕ) → MOST_START < end → 900000000000 ≤ last_before (grain inst) end
    late_tick end late =
        let travel = travel_of inst valid in
        let g = grain_is inst travel.0 in
        let few : grain inst ≤ 10000 = omega (arith, le_of_dvd travel.0 g.travel, travel.1) in
        let some = g.some in
        let parts : grain inst * ((end - 1) / grain inst) + (end - 1) % grain inst ≡ end - 1 = omega arith in
        let rest : (end - 1) % grain inst < grain inst = omega arith in
        omega (arith, late, few, parts, rest, mul_comm ((end - 1) / grain inst) (grain inst))

    never_short : (end : ℕ) → MOST_START < end → is_short_before inst turn cranes end ≡ false
    never_short end late =
        served_late (barred_frame inst turn cranes) (λ w low. barred_modest turn w low cranes) (last_before (grain inst) end)
        (late_tick end late) (crane_numbers inst)
        (omega (arith, length-range_with_len 0 (length inst.cranes), valid.cranes.count.0))
        (λ w a. omega (arith, (range_among w 0 (length inst.cranes) a).1))

    never_along : AreInRange inst cranes → (end : ℕ) → MOST_START < end → is_short_along inst turn cranes end ≡ false
    never_along range end late =
        served_late (way_frame inst turn cranes) (λ w low. way_modest turn w low cranes range) (last_before (grain inst) end)
        (late_tick end late) (crane_numbers inst)
        (omega (arith, length-range_with_len 0 (length inst.cranes), valid.cranes.count.0))
        (λ w a. omega (arith, (range_among w 0 (length inst.cranes) a).1))

-- the bays of frames with the longest ways are near
pub ways_near : (inst : InstanceView) (turn : Turn) (cranes : List (Option ℕ)) → Valid inst → AreInRange inst cranes
    → (frames : List Frame) → frames ≡ map (way_frame inst turn cranes) (crane_numbers inst) → AreNear frames
ways_near inst turn cranes valid range frames are i d low =
    let many : i < length inst.cranes = omega (arith, low, ap length are, length-map-range_with_len (way_frame inst turn cranes) 0 (length inst.cranes)) in
    let is = ap (λ fs. get_or fs i d) are ∙ get_or-map-range_with_len (way_frame inst turn cranes) 0 (length inst.cranes) i i d many (omega arith) in
    subst IsNear (sym is) (way_modest inst valid turn i many cranes range).near

-- no assignment is closed at an end of more than twelve digits
pub closed_never : (inst : InstanceView) (turn : Turn) (cranes : List (Option ℕ)) (end : ℕ) → Valid inst
    → AreInRange inst cranes → MOST_START < end → is_closed inst turn cranes end ≡ false
closed_never inst turn cranes end valid range late =
    or_from (is_short_before inst turn (no_cranes inst) end)
    (is_short_before inst turn cranes end || is_short_along inst turn cranes end)
    (never_short inst valid turn (no_cranes inst) end late)
    (or_from (is_short_before inst turn cranes end) (is_short_along inst turn cranes end)
    (never_short inst valid turn cranes end late) (never_along inst valid turn cranes range end late))

pub closed_soon : (inst : InstanceView) (turn : Turn) (cranes : List (Option ℕ)) (end : ℕ) → Valid inst
    → AreInRange inst cranes → is_closed inst turn cranes end ≡ true → end ≤ MOST_START
closed_soon inst turn cranes end valid range closed = elim (cases_lt MOST_START end) [
  | inl late ↦ absurd (true≢false (sym closed ∙ closed_never inst turn cranes end valid range late))
  | inr soon ↦ soon
]

-- one at which it is closed, or 0
pub closed_or_none : (inst : InstanceView) (turn : Turn) (cranes : List (Option ℕ)) (end : ℕ) → Valid inst
    → AreInRange inst cranes → (0 < end → is_closed inst turn cranes end ≡ true) → end ≤ MOST_START
closed_or_none inst turn cranes end valid range closed = elim (cases_lt 0 end) [
  | inl some ↦ closed_soon inst turn cranes end valid range (closed some)
  | inr none ↦ omega arith
]

-- an end at which it is closed is the last of all where it isn't closed at the next one
pub latest_by : (inst : InstanceView) (turn : Turn) (cranes : List (Option ℕ)) (low high : ℕ) → Valid inst
    → (0 < low → is_closed inst turn cranes low ≡ true) → is_closed inst turn cranes high ≡ false → high ≤ low + 1
    → IsLatest (is_closed inst turn cranes) low
latest_by inst turn cranes low high valid passes open_at near = record {
  passes = passes;
  others = λ k after. false_from_ne_true (is_closed inst turn cranes k) (λ closed.
      true≢false (sym (closed_falls inst turn cranes high k valid (omega (arith, near, after)) closed) ∙ open_at));
}
