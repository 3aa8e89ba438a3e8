-- A crane has had the time, when a schedule ends, for what it has spent on its own tasks, for the others that it does,
-- and for the way that it goes beyond its own for these.
use Rattle.std.proofs.Common.{[], ◌≡◌, ◌≢◌, ℕ, ◌+◌, ◌*◌, ◌<◌, ◌≤◌, ◌⊎◌, inl, inr, Bool, true, false, ◌&&◌, eqb, cond, List, ◌∷◌, length, Option, None, Some, ℤ, pos, ◌≤ℤ◌, refl, ap, sym, subst, ◌∙◌, arith, filter, is_none, sum_by}
use Rattle.std.proofs.Math.Nat.{mul-add, mul-le-mul_left}
use Rattle.std.proofs.lemmas.Bool.{and_parts, cases_Bool, eq-eqb, eqb-true, false≢true}
use Rattle.std.proofs.lemmas.Int.{by_lt_z, int_max_is, int_min_is, ints}
use Rattle.std.specs.Int.{int_min}
use Rattle.std.specs.List.{list_any, range_with_len}
use Rattle.std.specs.Option.{option_map_or}
use Rattle.qc_close.specs.Model.{Frame, Slot, at_least_zero, bays_between, bays_up, InstanceView, Valid, bay_of, crane, ticks_of, highest, lowest, task_numbers, ticks_over, GoesUp, Feasible, crane_of, ends, start_of, arrival, Up, Down, Turn, OneWay, Free, Follows, crane_in, bays_to, GoesBy, frame, frame_of, own, turn_bays, turn_high}
use Rattle.qc_model.proofs.Bays.{bays}
use Rattle.qc_model.proofs.LimitsOf.{counted}
use Rattle.qc_close.proofs.CountLemmas.{sum_filter, sums_within, some_term}
use Rattle.qc_close.proofs.Members.{Among, among_filter, among_range, any_at, any_from, filter_among, first_of, range_among}
use Rattle.qc_laws.proofs.PackLemmas.{ends_in}
use Rattle.qc_laws.proofs.Paths.{max_first, max_second, min_first, min_second}
use Rattle.qc_laws.proofs.Rows.{AllClear, AreClear, Row, clear_from, row_after, row_fits, row_of, way, way_between, way_to}
use Rattle.qc_close.proofs.Extremes.{lowest_from, highest_to}

pub feasible_by : (turn : Turn) (inst : InstanceView) (sched : List Slot) → GoesBy turn inst sched → Feasible inst sched
feasible_by OneWay inst sched g = g.feasible
feasible_by Free inst sched g = g

-- ---- the tasks of one crane in a schedule

module _ (inst : InstanceView) (sched : List Slot) (valid : Valid inst) (f : Feasible inst sched) (w : ℕ) where
  abbrev count : ℕ
  count = length inst.tasks

  abbrev starts_at : ℕ → ℕ
  starts_at j = start_of sched j

  abbrev lasts : ℕ → ℕ
  lasts j = ticks_of inst j

  abbrev ways : ℕ → ℕ → ℕ
  ways i j = inst.travel * bays_between (bay_of inst i) (bay_of inst j)

  abbrev berth : ℤ
  berth = (crane inst w).bay

  abbrev ready : ℕ
  ready = (crane inst w).ready

  -- crane w does the task
  abbrev pub does : ℕ → Bool
  does j = eqb (crane_of sched j) w

  abbrev pub IsOn : ℕ → Type 0
  IsOn j = (j < count) × (crane_of sched j ≡ w)

  turned : (i j : ℕ) → ways i j ≡ ways j i
  turned i j =
      let same : bays_between (bay_of inst i) (bay_of inst j) ≡ bays_between (bay_of inst j) (bay_of inst i) = omega (arith, bays) in
      ap (λ n. inst.travel * n) same

  two_clear : (i j : ℕ) → IsOn i → IsOn j → i ≢ j → AreClear starts_at lasts ways i j
  two_clear i j on_i on_j differ = elim (f.travel i j on_i.0 on_j.0 differ (on_i.1 ∙ sym on_j.1)) [
    | inl h ↦ inl (omega (arith, h))
    | inr h ↦ inr (omega (arith, h, turned i j))
  ]

  on_of : (a n j : ℕ) → a + n ≤ count → Among (filter does (range_with_len a n)) j → (a ≤ j) × IsOn j
  on_of a n j inside is =
      let r = filter_among does (range_with_len a n) j is in
      let k = range_among j a n r.0 in
      (k.0, (omega (arith, k.1), eqb-true (crane_of sched j) w r.1))

  abbrev tasks : List ℕ
  tasks = filter does (range_with_len 0 count)

  all_clear : AllClear starts_at lasts ways tasks
  all_clear =
      clear_from starts_at lasts ways does 0 count
      (λ i j less low s t. two_clear i j (omega arith, eqb-true (crane_of sched i) w s)
      (omega arith, eqb-true (crane_of sched j) w t) (λ e. omega arith))

  pub arrives : (j : ℕ) → IsOn j → ready + inst.travel * bays_between berth (bay_of inst j) ≤ starts_at j
  arrives j on = subst (λ (v : ℕ). arrival inst v (bay_of inst j) ≤ start_of sched j) on.1 (f.ready j on.0).1

  -- what the crane needs for all its tasks, which lie from low to high
  pub record HasTasks (turn : Turn) : Type 0 where
    pub low : ℤ
    pub high : ℤ
    pub within : (j : ℕ) → IsOn j → (low ≤ℤ bay_of inst j) × (bay_of inst j ≤ℤ high)
    pub fits : ready + ticks_over inst tasks + inst.travel * turn_bays turn berth low high ≤ ends inst sched

  abbrev from_berth : ℕ → ℕ
  from_berth k = ready + inst.travel * bays_between berth (bay_of inst k)

  -- the way of a crane that goes one way begins at the lowest
  lowest_first : GoesUp inst sched → (j : ℕ) (js : List ℕ) → Row starts_at lasts ways from_berth (j ∷ js)
      → ((k : ℕ) → Among (j ∷ js) k → IsOn k) → (k : ℕ) → Among (j ∷ js) k → bay_of inst j ≤ℤ bay_of inst k
  lowest_first g j js row on k (inl e) = let same = ap (bay_of inst) e in omega (arith, ints, same)
  lowest_first g j js row on k (inr a) =
      let on_j = on j (inl refl) in
      let on_k = on k (inr a) in
      by_lt_z (bay_of inst k) (bay_of inst j)
      (λ less.
      let climbs = g.upward.one_crane k j on_k.0 on_j.0 (on_k.1 ∙ sym on_j.1) less in
      let later = row_after (bay_of inst) starts_at lasts inst.travel (ends inst sched) (starts_at j + lasts j) (bay_of inst j) js row.1 k a in
      absurd (omega (arith, climbs, later, valid.tasks.ticks j on_j.0)))
      (λ h. h)

  turns : (turn : Turn) → GoesBy turn inst sched → (j : ℕ) (js : List ℕ) → Row starts_at lasts ways from_berth (j ∷ js)
      → ((k : ℕ) → Among (j ∷ js) k → IsOn k) → (low high : ℕ) → Among (j ∷ js) low → Among (j ∷ js) high
      → ((k : ℕ) → Among (j ∷ js) k → bay_of inst low ≤ℤ bay_of inst k)
      → ((k : ℕ) → Among (j ∷ js) k → bay_of inst k ≤ℤ bay_of inst high)
      → turn_bays turn berth (bay_of inst low) (bay_of inst high) ≤ way (bay_of inst) berth (j ∷ js)
  turns Free g j js row on low high is_low is_high least most =
      let both = way_between (bay_of inst) berth (j ∷ js) low high is_low is_high in
      let up = least high is_high in
      omega (arith, bays, both, up)
  turns OneWay g j js row on low high is_low is_high least most =
      let first = lowest_first g j js row on low is_low in
      let other = least j (inl refl) in
      let far = way_to (bay_of inst) (bay_of inst j) (j ∷ js) high is_high in
      omega (arith, bays, first, other, far)

  pub tasks_fit : (turn : Turn) → GoesBy turn inst sched → (k : ℕ) → IsOn k → HasTasks turn
  tasks_fit turn g k on_k =
      let row = row_of starts_at lasts ways from_berth tasks (λ j is. arrives j (on_of 0 count j (omega arith) is).1) all_clear in
      with_order row.order row.row row.ticks
      (λ j on. row.has j (among_filter does (range_with_len 0 count) j (among_range j 0 count (omega arith) (omega (arith, on.0))) (eq-eqb (crane_of sched j) w on.1)))
      (λ j is. (on_of 0 count j (omega arith) (row.only j is)).1)
    where
      with_order : (order : List ℕ) → Row starts_at lasts ways from_berth order → sum_by lasts order ≡ sum_by lasts tasks
          → ((j : ℕ) → IsOn j → Among order j) → ((j : ℕ) → Among order j → IsOn j) → HasTasks turn
      with_order [] row same has only = absurd (has k on_k)
      with_order (j ∷ js) row same has only =
          let low = first_of (λ i k. bay_of inst i ≤ℤ bay_of inst k) either_way (λ i k l p q. omega (arith, ints)) j js in
          let high = first_of (λ i k. bay_of inst k ≤ℤ bay_of inst i) (λ i k. either_way k i) (λ i k l p q. omega (arith, ints)) j js in
          let on_j = only j (inl refl) in
          let soon : ready ≤ ends inst sched = omega (arith, arrives j on_j, ends_in inst sched f j on_j.0) in
          let all =
          row_fits (bay_of inst) starts_at lasts inst.travel (ends inst sched) ready berth (j ∷ js) soon row
          (λ i a. ends_in inst sched f i (only i a).0) in
          let least = turns turn g j js row only low.one high.one low.is_one high.is_one low.first high.first in
          record {
            low = bay_of inst low.one;
            high = bay_of inst high.one;
            within = λ i on. (low.first i (has i on), high.first i (has i on));
            fits = omega (arith, all, mul-le-mul_left inst.travel least, same);
          }
        where
          either_way : (i k : ℕ) → (bay_of inst i ≤ℤ bay_of inst k) ⊎ (bay_of inst k ≤ℤ bay_of inst i)
          either_way i k = by_lt_z (bay_of inst i) (bay_of inst k) (λ h. inl (omega (arith, ints))) (λ h. inr h)

-- ---- the way beyond a crane's own tasks

-- with its own tasks from f to l and all from low to high
module _ (b f l low high : ℤ) (down : low ≤ℤ f) (own_up : f ≤ℤ l) (up_to : l ≤ℤ high) where
  pub parts : bays_up low high ≡ bays_up low f + bays_up f l + bays_up l high
  parts = omega (arith, bays)

  above_low : f ≤ℤ b → bays_between b f ≤ bays_between b low
  above_low h = omega (arith, bays)

  below_low : b ≤ℤ f → bays_between b f + bays_up low b ≤ bays_up low f + bays_between b low
  below_low h = omega (arith, bays)

  below_low_too : b ≤ℤ f → bays_between b f + bays_up low b ≤ bays_up low f + bays_between b high
  below_low_too h =
      let near : bays_between b f ≤ bays_between b high = omega (arith, bays) in
      let little : bays_up low b ≤ bays_up low f = omega (arith, bays) in
      omega (arith, near, little)

  below_high : b ≤ℤ l → bays_between b l ≤ bays_between b high
  below_high h = omega (arith, bays)

  above_high : l ≤ℤ b → bays_between b l + bays_up b high ≤ bays_up l high + bays_between b high
  above_high h = omega (arith, bays)

  above_high_too : l ≤ℤ b → bays_between b l + bays_up b high ≤ bays_up l high + bays_between b low
  above_high_too h =
      let near : bays_between b l ≤ bays_between b low = omega (arith, bays) in
      let little : bays_up b high ≤ bays_up l high = omega (arith, bays) in
      omega (arith, near, little)

  pub beyond : (turn : Turn)
      → turn_bays turn b f l + (bays_up (turn_high turn b l) high + bays_up low (int_min f b)) ≤ turn_bays turn b low high
  beyond OneWay = by_lt_z b f
      (λ under.
      let low_at : b ≤ℤ f = omega (arith, ints) in
      let less = below_low low_at in
      let is = ap (bays_up low) (min_second f b low_at) in
      omega (arith, less, is, parts))
      (λ over.
      let less = above_low over in
      let is = ap (bays_up low) (min_first f b over) in
      omega (arith, less, is, parts))
  beyond Free = by_lt_z b f
      (λ under.
      let low_at : b ≤ℤ f = omega (arith, ints) in
      let high_at : b ≤ℤ l = omega (arith, ints) in
      let less = below_low low_at in
      let less_too = below_low_too low_at in
      let is = ap (bays_up low) (min_second f b low_at) in
      let is_high = ap (λ x. bays_up x high) (max_first l b high_at) in
      omega (arith, less, less_too, is, is_high, parts))
      (λ over.
      let less = above_low over in
      let is = ap (bays_up low) (min_first f b over) in
      by_lt_z l b
      (λ above.
      let high_at : l ≤ℤ b = omega (arith, ints) in
      let more = above_high high_at in
      let more_too = above_high_too high_at in
      let is_high = ap (λ x. bays_up x high) (max_second l b high_at) in
      omega (arith, more, more_too, is, is_high, parts))
      (λ within.
      let more = below_high within in
      let is_high = ap (λ x. bays_up x high) (max_first l b within) in
      omega (arith, less, more, is, is_high, parts)))

-- with none of its own
beyond_berth : (turn : Turn) (b low high : ℤ) → low ≤ℤ high
    → bays_up b high + bays_up low b ≤ turn_bays turn b low high
beyond_berth OneWay b low high p = omega (arith, bays)
beyond_berth Free b low high p = omega (arith, bays)

-- ---- what is left to a crane

lowest_le : (inst : InstanceView) (j : ℕ) (js : List ℕ) → lowest inst j js ≤ℤ highest inst j js
lowest_le inst j [] = omega (arith, ints)
lowest_le inst j (i ∷ is) =
    let rest = lowest_le inst i is in
    let min_is = int_min_is (bay_of inst j) (lowest inst i is) in
    let max_is = int_max_is (bay_of inst j) (highest inst i is) in
    omega (arith, ints, rest, min_is, max_is)

module _ (inst : InstanceView) (turn : Turn) (cranes : List (Option ℕ)) (sched : List Slot) (valid : Valid inst)
    (g : GoesBy turn inst sched) (follows : Follows inst cranes sched) (w : ℕ) where
  abbrev feasible : Feasible inst sched
  feasible = feasible_by turn inst sched g

  -- crane w does a task that none has in the assignment
  abbrev pub does_open : ℕ → Bool
  does_open j = is_none (crane_in cranes j) && eqb (crane_of sched j) w

  abbrev pub bay_at : ℕ → ℕ
  bay_at j = at_least_zero (bay_of inst j)

  -- the ticks of these
  abbrev pub beside : ℕ
  beside = sum_by (λ j. cond (does_open j) (ticks_of inst j) 0) (task_numbers inst)

  -- the crane has the time for them, and to go so far up and down for them
  pub record HasTime (fr : Frame) : Type 0 where
    pub far : ℕ
    pub deep : ℕ
    pub above : (j : ℕ) → j < length inst.tasks → does_open j ≡ true → bays_to Up fr (bay_at j) ≤ far
    pub below : (j : ℕ) → j < length inst.tasks → does_open j ≡ true → bays_to Down fr (bay_at j) ≤ deep
    pub done : fr.works ≡ true → fr.gone ≤ ends inst sched
    pub fits : 0 < beside → fr.gone + beside + inst.travel * (far + deep) ≤ ends inst sched

  abbrev On : ℕ → Type 0
  On j = IsOn inst sched valid feasible w j

  pub on_open : (j : ℕ) → j < length inst.tasks → does_open j ≡ true → On j
  on_open j low t =
      (low, eqb-true (crane_of sched j) w (and_parts (is_none (crane_in cranes j)) (eqb (crane_of sched j) w) t).1)

  -- bays of tasks are counted from 1
  pub at_bay : (j : ℕ) → j < length inst.tasks → pos (bay_at j) ≡ bay_of inst j
  at_bay j low = let on_ship = (valid.tasks.bays j low).0 in sym (counted (bay_of inst j) (omega (arith, bays, on_ship)))

  with_own : (k : ℕ) → On k → (t : HasTasks inst sched valid feasible w turn) → (os : List ℕ)
      → ((j : ℕ) → Among os j → On j)
      → ticks_over inst os + beside ≤ ticks_over inst (filter (λ j. eqb (crane_of sched j) w) (task_numbers inst))
      → HasTime (frame_of inst turn w os)
  with_own k on_k t [] only sum =
      let in_k = t.within k on_k in
      let order : t.low ≤ℤ t.high = omega (arith, ints, in_k.0, in_k.1) in
      let less = beyond_berth turn (crane inst w).bay t.low t.high order in
      record {
        far = bays_up (crane inst w).bay t.high;
        deep = bays_up t.low (crane inst w).bay;
        above = λ j low is. let on = (t.within j (on_open j low is)).1 in omega (arith, bays, on, at_bay j low);
        below = λ j low is. let on = (t.within j (on_open j low is)).0 in omega (arith, bays, on, at_bay j low);
        done = λ works. absurd (false≢true works);
        fits = λ _. omega (arith, t.fits, sum, mul-le-mul_left inst.travel less);
      }
  with_own k on_k t (j ∷ js) only sum =
      let b = (crane inst w).bay in
      let first = lowest inst j js in
      let last = highest inst j js in
      let low = lowest_from inst t.low j js (λ i a. (t.within i (only i a)).0) in
      let high = highest_to inst t.high j js (λ i a. (t.within i (only i a)).1) in
      let less = beyond b first last t.low t.high low (lowest_le inst j js) high turn in
      let far = bays_up (turn_high turn b last) t.high in
      let deep = bays_up t.low (int_min first b) in
      let way_is = mul-add inst.travel (turn_bays turn b first last) (far + deep) in
      let all = mul-le-mul_left inst.travel less in
      record {
        far = far;
        deep = deep;
        above = λ i low is. let on = (t.within i (on_open i low is)).1 in omega (arith, bays, on, at_bay i low);
        below = λ i low is. let on = (t.within i (on_open i low is)).0 in omega (arith, bays, on, at_bay i low);
        done = λ _. omega (arith, t.fits, sum, all, way_is);
        fits = λ _. omega (arith, t.fits, sum, all, way_is);
      }

  pub own_on : (j : ℕ) → Among (own inst cranes w) j → On j
  own_on j a =
      let r = filter_among (λ j. option_map_or (λ k. eqb k w) (crane_in cranes j) false) (task_numbers inst) j a in
      let low : j < length inst.tasks = omega (arith, (range_among j 0 (length inst.tasks) r.0).1) in
      (low, by (crane_in cranes j) (λ k e. follows j k low e) r.1)
    where
      by : (o : Option ℕ) → ((k : ℕ) → o ≡ Some k → crane_of sched j ≡ k)
          → option_map_or (λ k. eqb k w) o false ≡ true → crane_of sched j ≡ w
      by None h t = absurd (false≢true t)
      by (Some k) h t = h k refl ∙ eqb-true k w t

  pub sums : ticks_over inst (own inst cranes w) + beside
      ≤ ticks_over inst (filter (λ j. eqb (crane_of sched j) w) (task_numbers inst))
  sums =
      let is_own = λ (j : ℕ). option_map_or (λ k. eqb k w) (crane_in cranes j) false in
      let does_it = λ (j : ℕ). eqb (crane_of sched j) w in
      let all = task_numbers inst in
      let within =
      sums_within (λ j. cond (is_own j) (ticks_of inst j) 0) (λ j. cond (does_open j) (ticks_of inst j) 0)
      (λ j. cond (does_it j) (ticks_of inst j) 0) all
      (λ j a. one j (omega (arith, (range_among j 0 (length inst.tasks) a).1))) in
      omega (arith, within, sum_filter (ticks_of inst) is_own all, sum_filter (ticks_of inst) does_it all)
    where
      by : (o : Option ℕ) (v ticks : ℕ) → ((k : ℕ) → o ≡ Some k → v ≡ k)
          → cond (option_map_or (λ k. eqb k w) o false) ticks 0 + cond (is_none o && eqb v w) ticks 0 ≤ cond (eqb v w) ticks 0
      by None v ticks h = omega arith
      by (Some k) v ticks h = let same = ap (λ v. cond (eqb v w) ticks 0) (h k refl) in omega (arith, same)

      one : (j : ℕ) → j < length inst.tasks
          → cond (option_map_or (λ k. eqb k w) (crane_in cranes j) false) (ticks_of inst j) 0
          + cond (does_open j) (ticks_of inst j) 0 ≤ cond (eqb (crane_of sched j) w) (ticks_of inst j) 0
      one j low = by (crane_in cranes j) (crane_of sched j) (ticks_of inst j) (λ k e. follows j k low e)

  -- the crane does some task, or none
  some_task : ((k : ℕ) × On k) ⊎ ((k : ℕ) → On k → ⊥)
  some_task =
      let does_it = λ (j : ℕ). eqb (crane_of sched j) w in
      elim (cases_Bool (list_any does_it (task_numbers inst))) [
        | inl t ↦
            let r = any_at does_it (task_numbers inst) t in
            inl (r.0, (omega (arith, (range_among r.0 0 (length inst.tasks) r.1).1), eqb-true (crane_of sched r.0) w r.2))
        | inr t ↦ inr (λ k on. false≢true (sym t
            ∙ any_from does_it (task_numbers inst) k (among_range k 0 (length inst.tasks) (omega arith) (omega (arith, on.0)))
            (eq-eqb (crane_of sched k) w on.1)))
      ]

  without : ((k : ℕ) → On k → ⊥) → (os : List ℕ) → ((j : ℕ) → Among os j → On j) → HasTime (frame_of inst turn w os)
  without none (j ∷ js) only = absurd (none j (only j (inl refl)))
  without none [] only = record {
    far = 0;
    deep = 0;
    above = λ j low is. absurd (none j (on_open j low is));
    below = λ j low is. absurd (none j (on_open j low is));
    done = λ works. absurd (false≢true works);
    fits = λ some. absurd (nothing some);
  }
    where
      nothing : 0 < beside → ⊥
      nothing some =
          let r = some_term (λ j. cond (does_open j) (ticks_of inst j) 0) (task_numbers inst) some in
          elim (cases_Bool (does_open r.0)) [
            | inl t ↦ none r.0 (on_open r.0 (omega (arith, (range_among r.0 0 (length inst.tasks) r.1).1)) t)
            | inr t ↦ let zero_is = ap (λ b. cond b (ticks_of inst r.0) 0) t in omega (arith, r.2, zero_is)
          ]

  pub has_time : HasTime (frame inst turn cranes w)
  has_time = elim some_task [
    | inl k ↦ with_own k.0 k.1 (tasks_fit inst sched valid feasible w turn g k.0 k.1) (own inst cranes w) own_on sums
    | inr none ↦ without none (own inst cranes w) own_on
  ]
