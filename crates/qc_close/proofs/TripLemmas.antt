-- The trips of cranes task by task, what changes them, and that they stay near the rail.
use Rattle.std.proofs.Common.{[], ◌≡◌, ◌≢◌, ℕ, zero, suc, ◌+◌, ◌-◌, ◌*◌, ◌/◌, ◌<◌, ◌≤◌, ◌⊎◌, inl, inr, Bool, true, false, ◌&&◌, eqb, nat_lt, cond, List, ◌∷◌, length, get_or, set, filter, Option, None, Some, ℤ, pos, negsuc, ◌+ℤ◌, ◌-ℤ◌, ◌≤ℤ◌, of_z, to_z, w32, refl, ap, sym, subst, ◌∙◌, arith}
use Rattle.std.proofs.lemmas.Bool.{and_from, cases_lt, cond-false, cond-true, cond_both, eq-eqb, eqb-true, false≢true, lt-ltb, ne_eqb}
use Rattle.std.proofs.lemmas.Int.{int_max_is, int_min_is, ints}
use Rattle.std.proofs.lemmas.List.{get_or-set_other, get_or-set_same, length-set}
use Rattle.std.proofs.lemmas.Nat.{mul-le}
use Rattle.std.specs.Int.{int_max, int_min}
use Rattle.std.specs.List.{range_with_len}
use Rattle.qc_close.specs.Model.{Phase, DeckOut, HoldOut, HoldIn, DeckIn, Trip, AreInRange, crane_in, no_cranes, at_least_zero, bays_between, InstanceView, IsOnRail, Valid, bay_of, crane, task, bay_ahead, bay_behind, phase_rank, task_rank, stand, tasks_at, trip_along, trip_for, trip_from, trip_to, task_numbers}
use Rattle.qc_model.proofs.Bays.{bays}
use Rattle.qc_model.proofs.LimitsOf.{counted, limits_of}
use Rattle.qc_close.specs.Bars.{Changes}
use Rattle.qc_close.specs.Spots.{AreBays, AreTaskSpots, spot_bay}
use Rattle.qc_close.specs.Trips.{AreTogether, AreTrips, IsWide, IsWideTrip, at_spot, no_trip, trip_of}
use Rattle.qc_close.specs.declared.trip.Trips.{Trips}
use Rattle.qc_close.proofs.BarLemmas.{filter_same, none_pass, same_test}
use Rattle.qc_close.proofs.CrewLemmas.{none_there}
use Rattle.qc_close.proofs.Members.{Among, filter_among, range_among}
use Rattle.qc_close.proofs.SpotLemmas.{count_is, spot_at}

-- ---- near the rail

pub rail_wide : (x : ℤ) → IsOnRail x → IsWide x
rail_wide x r = (omega (arith, ints, r.0), omega (arith, ints, r.1))

pub rail_same : (x y : ℤ) → IsOnRail x → x ≡ y → to_z w32 (of_z w32 x) ≡ y
rail_same x y r e = omega (arith, ints, e, r.0, r.1)

pub max_wide : (x a : ℤ) → IsWide x → a ≤ℤ pos 34000 → IsWide (int_max x a)
max_wide x a r most = (omega (arith, ints, int_max_is x a, r.0), omega (arith, ints, int_max_is x a, r.1, most))

pub min_wide : (x a : ℤ) → IsWide x → negsuc 33999 ≤ℤ a → IsWide (int_min x a)
min_wide x a r least = (omega (arith, ints, int_min_is x a, r.0, least), omega (arith, ints, int_min_is x a, r.1))

pub ahead_low : (y : ℤ) (g : ℕ) → IsOnRail y → g ≤ 16000 → (y +ℤ pos g) ≤ℤ pos 34000
ahead_low y g r few = omega (arith, ints, r.1, few)

pub behind_high : (y : ℤ) (g : ℕ) → IsOnRail y → g ≤ 16000 → negsuc 33999 ≤ℤ (y -ℤ pos g)
behind_high y g r few = omega (arith, ints, r.0, few)

module _ (inst : InstanceView) (valid : Valid inst) (w : ℕ) (is_crane : w < length inst.cranes) where
  few_gaps : (n : ℕ) → n < length inst.cranes → inst.gap * n ≤ 16000
  few_gaps n low =
      let most = valid.cranes.count.1 in
      mul-le inst.gap n 2000 8 (limits_of inst valid).gap.1 (omega (arith, low, most))

  stand_wide : (v : ℕ) (y x : ℤ) → v < length inst.cranes → IsOnRail y → IsWide x → IsWide (stand inst w v y x)
  stand_wide v y x low r s =
      cond_both (eqb v w) y (cond (nat_lt v w) (int_max x (bay_ahead inst v y w)) (int_min x (bay_behind inst v y w))) IsWide
      (λ _. rail_wide y r)
      (λ _. cond_both (nat_lt v w) (int_max x (bay_ahead inst v y w)) (int_min x (bay_behind inst v y w)) IsWide
      (λ _. max_wide x (bay_ahead inst v y w) s (ahead_low y (inst.gap * (w - v)) r (few_gaps (w - v) (omega (arith, is_crane)))))
      (λ _. min_wide x (bay_behind inst v y w) s (behind_high y (inst.gap * (v - w)) r (few_gaps (v - w) (omega (arith, low))))))

  step_wide : (n : ℕ) (z : ℤ) (t : Trip) → IsWide z → IsWideTrip n t → IsWideTrip (n + 1) (trip_to z t)
  step_wide n z t r s =
      let far : bays_between t.at z ≤ 68000 = omega (arith, bays, r.0, r.1, s.at.0, s.at.1) in
      record {
        at = r;
        low = min_wide t.low z s.low r.0;
        high = max_wide t.high z s.high r.1;
        bays = omega (arith, far, s.bays);
      }

  pub task_wide : (n : ℕ) (y : ℤ) (o : Option ℕ) (t : Trip) → IsOnRail y → ((k : ℕ) → o ≡ Some k → k < length inst.cranes)
      → IsWideTrip n t → IsWideTrip (n + 1) (trip_for inst w y o t)
  task_wide n y None t r range s =
      record { at = s.at; low = s.low; high = s.high; bays = omega (arith, s.bays) }
  task_wide n y (Some v) t r range s =
      step_wide n (stand inst w v y t.at) t (stand_wide v y t.at (range v refl) r s.at) s

  pub more_wide : (n m : ℕ) (t : Trip) → n ≤ m → IsWideTrip n t → IsWideTrip m t
  more_wide n m t le s = record { at = s.at; low = s.low; high = s.high; bays = omega (arith, s.bays, le) }

  pub task_rail : (j : ℕ) → j < length inst.tasks → IsOnRail (bay_of inst j)
  task_rail j low =
      let at_bay = valid.tasks.bays j low in
      let most = (limits_of inst valid).bays.1 in
      (omega (arith, ints, at_bay.0), omega (arith, ints, at_bay.1, most))

  pub berth_wide : IsWideTrip 0 (trip_from (crane inst w).bay)
  berth_wide =
      let r = rail_wide (crane inst w).bay ((limits_of inst valid).berths w is_crane).0 in
      record { at = r; low = r; high = r; bays = omega arith }

  module _ (cranes : List (Option ℕ)) (range : AreInRange inst cranes) (p : ℕ → Bool) where
    along_wide : (a n k m : ℕ) (t : Trip) → a + n ≤ length inst.tasks → k + n ≤ m → IsWideTrip k t
        → IsWideTrip m (trip_along inst cranes w t (filter p (range_with_len a n)))
    along_wide a zero k m t within le s = more_wide k m t (omega (arith, le)) s
    along_wide a (suc n) k m t within le s =
        let rest = λ (i : ℕ) (u : Trip) (h : i + n ≤ m). along_wide (a + 1) n i m u (omega (arith, within)) h in
        cond_both (p a) (a ∷ filter p (range_with_len (a + 1) n)) (filter p (range_with_len (a + 1) n))
        (λ js. IsWideTrip m (trip_along inst cranes w t js))
        (λ _. rest (k + 1) (trip_for inst w (bay_of inst a) (crane_in cranes a) t) (omega (arith, le))
        (task_wide k (bay_of inst a) (crane_in cranes a) t (task_rail a (omega (arith, within))) (range a) s))
        (λ _. rest k t (omega (arith, le)) s)

    -- a trip for some of the tasks
    pub trip_wide : IsWideTrip 240 (trip_along inst cranes w (trip_from (crane inst w).bay) (filter p (task_numbers inst)))
    trip_wide =
        along_wide 0 (length inst.tasks) 0 240 (trip_from (crane inst w).bay) (omega arith) (omega (arith, valid.tasks.count)) berth_wide

-- ---- trips that go nowhere

stays : (b x : ℤ) → bays_between b x ≡ 0 → trip_to x (trip_from b) ≡ trip_from b
stays b x none =
    let e : x ≡ b = omega (arith, bays, none) in
    let sum : 0 + bays_between b x ≡ 0 = omega (arith, none) in
    let low : int_min b x ≡ b = omega (arith, ints, int_min_is b x, e) in
    let high : int_max b x ≡ b = omega (arith, ints, int_max_is b x, e) in
    ap {B = Trip} (λ y. record { at = y; bays = 0 + bays_between b x; low = int_min b x; high = int_max b x }) e
    ∙ ap {B = Trip} (λ n. record { at = b; bays = n; low = int_min b x; high = int_max b x }) sum
    ∙ ap {B = Trip} (λ y. record { at = b; bays = 0; low = y; high = int_max b x }) low
    ∙ ap {B = Trip} (λ y. record { at = b; bays = 0; low = b; high = y }) high

module _ (inst : InstanceView) (cranes : List (Option ℕ)) (w : ℕ) where
  no_less : (y : ℤ) (o : Option ℕ) (t : Trip) → t.bays ≤ (trip_for inst w y o t).bays
  no_less y None t = omega arith
  no_less y (Some v) t = omega arith

  goes_more : (t : Trip) (js : List ℕ) → t.bays ≤ (trip_along inst cranes w t js).bays
  goes_more t [] = omega arith
  goes_more t (j ∷ js) =
      omega (
        arith,
        no_less (bay_of inst j) (crane_in cranes j) t,
        goes_more (trip_for inst w (bay_of inst j) (crane_in cranes j) t) js,
      )

  one_stays : (y : ℤ) (o : Option ℕ) (b : ℤ) → (trip_for inst w y o (trip_from b)).bays ≡ 0
      → trip_for inst w y o (trip_from b) ≡ trip_from b
  one_stays y None b none = refl
  one_stays y (Some v) b none = stays b (stand inst w v y b) (omega (arith, none))

  -- a crane that goes nowhere stands at its berth
  pub all_stays : (b : ℤ) (js : List ℕ) → (trip_along inst cranes w (trip_from b) js).bays ≡ 0
      → trip_along inst cranes w (trip_from b) js ≡ trip_from b
  all_stays b [] none = refl
  all_stays b (j ∷ js) none =
      let u = trip_for inst w (bay_of inst j) (crane_in cranes j) (trip_from b) in
      let first : (trip_for inst w (bay_of inst j) (crane_in cranes j) (trip_from b)).bays ≡ 0 = omega (arith, none, goes_more u js) in
      let is = one_stays (bay_of inst j) (crane_in cranes j) b first in
      ap (λ t. trip_along inst cranes w t js) is
      ∙ all_stays b js (sym (ap (λ t. (trip_along inst cranes w t js).bays) is) ∙ none)

-- ---- task by task

module _ (inst : InstanceView) (cranes : List (Option ℕ)) (w : ℕ) (p : ℕ → Bool) where
  -- what a trip comes to with the tasks that pass from task i on
  abbrev pub from_task : Trip → ℕ → Trip
  from_task t i = trip_along inst cranes w t (filter p (range_with_len i (length inst.tasks - i)))

  skip : (a k n : ℕ) → ((j : ℕ) → a ≤ j → j < a + k → p j ≡ false) → filter p (range_with_len a (k + n)) ≡ filter p (range_with_len (a + k) n)
  skip a zero n none =
      let e : zero + n ≡ n = omega arith in
      let f : a ≡ a + zero = omega arith in
      ap (λ m. filter p (range_with_len a m)) e ∙ ap (λ b. filter p (range_with_len b n)) f
  skip a (suc k) n none =
      let e : suc k + n ≡ suc (k + n) = omega arith in
      let f : a + 1 + k ≡ a + suc k = omega arith in
      ap (λ m. filter p (range_with_len a m)) e
      ∙ cond-false (p a) (a ∷ filter p (range_with_len (a + 1) (k + n))) (filter p (range_with_len (a + 1) (k + n))) (none a (omega arith) (omega arith))
      ∙ skip (a + 1) k n (λ j up low. none j (omega (arith, up)) (omega (arith, low)))
      ∙ ap (λ b. filter p (range_with_len b n)) f

  -- no task before the first passes
  pub trip_begins : (t : Trip) (first : ℕ) → first ≤ length inst.tasks → ((j : ℕ) → j < first → p j ≡ false)
      → from_task t first ≡ trip_along inst cranes w t (filter p (task_numbers inst))
  trip_begins t first low none =
      let n = length inst.tasks - first in
      let e : first + (length inst.tasks - first) ≡ length inst.tasks = omega arith in
      let f : 0 + first ≡ first = omega arith in
      sym (ap (λ m. trip_along inst cranes w t (filter p (range_with_len 0 m))) (sym e)
      ∙ ap (trip_along inst cranes w t) (skip 0 first (length inst.tasks - first) (λ j _ low. none j (omega (arith, low))))
      ∙ ap (λ b. trip_along inst cranes w t (filter p (range_with_len b (length inst.tasks - first)))) f)

  -- one task more
  pub trip_goes : (t : Trip) (i : ℕ) → i < length inst.tasks → p i ≡ true
      → from_task (trip_for inst w (bay_of inst i) (crane_in cranes i) t) (i + 1) ≡ from_task t i
  trip_goes t i low passes =
      let e : length inst.tasks - i ≡ suc (length inst.tasks - (i + 1)) = omega arith in
      sym (ap (λ m. trip_along inst cranes w t (filter p (range_with_len i m))) e
      ∙ ap (trip_along inst cranes w t)
      (cond-true (p i) (i ∷ filter p (range_with_len (i + 1) (length inst.tasks - (i + 1)))) (filter p (range_with_len (i + 1) (length inst.tasks - (i + 1)))) passes))

  -- no task from here on passes
  pub trip_ends : (t : Trip) (i : ℕ) → ((j : ℕ) → i ≤ j → j < length inst.tasks → p j ≡ false) → from_task t i ≡ t
  trip_ends t i none =
      ap (trip_along inst cranes w t)
      (none_pass p (range_with_len i (length inst.tasks - i)) (λ j a.
      let r = range_among j i (length inst.tasks - i) a in
      none j r.0 (omega (arith, r.0, r.1))))

-- ---- the tasks at a spot

rank_most : (ph : Phase) → phase_rank ph ≤ 3
rank_most DeckOut = omega arith
rank_most HoldOut = omega arith
rank_most HoldIn = omega arith
rank_most DeckIn = omega arith

same_hatch : (h i j p q r : ℕ) → p ≤ 3 → q ≤ 3 → r ≤ 3 → 4 * h + p ≤ 4 * i + q → 4 * i + q ≤ 4 * j + r → h ≡ j → i ≡ h
same_hatch h i j p q r lp lq lr le more e = omega (arith, lp, lq, lr, le, more, e)

module _ (inst : InstanceView) (valid : Valid inst) (along : List ℤ) (b : AreBays inst along) (spots : List ℕ)
    (s : AreTaskSpots inst along spots) where
  rank_rises : (i j : ℕ) → i ≤ j → j < length inst.tasks → task_rank (task inst i) ≤ task_rank (task inst j)
  rank_rises i j le low = elim (cases_lt i j) [
    | inl less ↦ let up = valid.tasks.sorted i j less low in omega (arith, up)
    | inr more ↦ let e : i ≡ j = omega arith in omega (arith, ap (λ k. task_rank (task inst k)) e)
  ]

  spot_bay_is : (j : ℕ) → j < length inst.tasks → spot_bay along (get_or spots j 0) ≡ bay_of inst j
  spot_bay_is j low = (spot_at inst along b j (get_or spots j 0) low (s.each j low)).1

  spot_in : (j : ℕ) → j < length inst.tasks → get_or spots j 0 < length along
  spot_in j low = (spot_at inst along b j (get_or spots j 0) low (s.each j low)).0

  bay_spot : (j k : ℕ) → j < length inst.tasks → k < length along → bay_of inst j ≡ spot_bay along k → get_or spots j 0 ≡ k
  bay_spot j k low in_k e = count_is along b.along.rising (bay_of inst j) (get_or spots j 0) k (s.each j low) in_k (sym e)

  pub together : AreTogether spots
  together i j k le more low e =
      let low_k : k < length inst.tasks = omega (arith, low, s.many) in
      let low_j : j < length inst.tasks = omega (arith, more, low_k) in
      let low_i : i < length inst.tasks = omega (arith, le, low_j) in
      let ends_bay : bay_of inst i ≡ bay_of inst k = sym (spot_bay_is i low_i) ∙ ap (spot_bay along) e ∙ spot_bay_is k low_k in
      let ends_hatch = (valid.tasks.hatches i k low_i low_k).0 ends_bay in
      let hatch =
      same_hatch (task inst i).hatch (task inst j).hatch (task inst k).hatch (phase_rank (task inst i).phase) (phase_rank (task inst j).phase) (phase_rank (task inst k).phase)
      (rank_most (task inst i).phase) (rank_most (task inst j).phase) (rank_most (task inst k).phase)
      (rank_rises i j le low_j) (rank_rises j k more low_k) ends_hatch in
      let bay = (valid.tasks.hatches j i low_j low_i).1 hatch in
      bay_spot j (get_or spots i 0) low_j (spot_in i low_i) (bay ∙ sym (spot_bay_is i low_i))

  pub few_spots : (j : ℕ) → j < length inst.tasks → get_or spots j 0 < 240
  few_spots j low = let few = b.along.few in omega (arith, spot_in j low, few)

  -- they are those at its bay
  pub tasks_there : (k x : ℕ) → k < length along → spot_bay along k ≡ pos x
      → filter (at_spot spots k) (task_numbers inst) ≡ tasks_at inst x
  tasks_there k x low is =
      filter_same (at_spot spots k) (λ j. eqb (at_least_zero (bay_of inst j)) x) (task_numbers inst) (λ j a.
      let in_j : j < length inst.tasks = omega (arith, (range_among j 0 (length inst.tasks) a).1) in
      same_test (at_spot spots k j) (eqb (at_least_zero (bay_of inst j)) x)
      (λ t.
      let e = sym (spot_bay_is j in_j) ∙ ap (spot_bay along) (eqb-true (get_or spots j 0) k t) ∙ is in
      eq-eqb (at_least_zero (bay_of inst j)) x (ap at_least_zero e))
      (λ t.
      let e = eqb-true (at_least_zero (bay_of inst j)) x t in
      let some : 1 ≤ at_least_zero (bay_of inst j) = let on_ship = (valid.tasks.bays j in_j).0 in omega (arith, bays, on_ship) in
      let bay : bay_of inst j ≡ spot_bay along k = counted (bay_of inst j) some ∙ ap pos e ∙ sym is in
      eq-eqb (get_or spots j 0) k (bay_spot j k in_j low bay)))

-- the first of those at a spot, and the first behind them
pub none_before : (spots : List ℕ) → AreTogether spots → (task first spot : ℕ) → task < length spots → first ≤ task
    → spot ≡ get_or spots task 0 → (nat_lt 0 first && eqb (get_or spots (first - 1) 0) spot) ≡ false
    → (j : ℕ) → j < first → get_or spots j 0 ≢ get_or spots task 0
none_before spots near task first spot low within is fails j before e =
    let there = near j (first - 1) task (omega (arith, before)) (omega (arith, within)) low e ∙ e ∙ sym is in
    false≢true (sym fails
    ∙ and_from (nat_lt 0 first) (eqb (get_or spots (first - 1) 0) spot) (lt-ltb 0 first (omega (arith, before)))
    (eq-eqb (get_or spots (first - 1) 0) spot there))

pub none_behind : (spots : List ℕ) → AreTogether spots → (first i spot : ℕ) → first ≤ i → spot ≡ get_or spots first 0
    → (nat_lt i (length spots) && eqb (get_or spots i 0) spot) ≡ false
    → (j : ℕ) → i ≤ j → j < length spots → at_spot spots spot j ≡ false
none_behind spots near first i spot within is fails j behind low =
    ne_eqb (get_or spots j 0) spot (λ e.
    let there = near first i j within behind low (sym is ∙ sym e) ∙ sym is in
    false≢true (sym fails
    ∙ and_from (nat_lt i (length spots)) (eqb (get_or spots i 0) spot) (lt-ltb i (length spots) (omega (arith, behind, low)))
    (eq-eqb (get_or spots i 0) spot there)))

-- ---- what changes a trip

module _ (inst : InstanceView) (w : ℕ) where
  pub same_trip : (olds cranes : List (Option ℕ)) (js : List ℕ) (t : Trip)
      → ((j : ℕ) → Among js j → crane_in olds j ≡ crane_in cranes j)
      → trip_along inst olds w t js ≡ trip_along inst cranes w t js
  same_trip olds cranes [] t same = refl
  same_trip olds cranes (j ∷ js) t same =
      ap (λ o. trip_along inst olds w (trip_for inst w (bay_of inst j) o t) js) (same j (inl refl))
      ∙ same_trip olds cranes js (trip_for inst w (bay_of inst j) (crane_in cranes j) t) (λ k a. same k (inr a))

  pub no_trip_at : (js : List ℕ) (t : Trip) → trip_along inst (no_cranes inst) w t js ≡ t
  no_trip_at [] t = refl
  no_trip_at (j ∷ js) t =
      ap (λ o. trip_along inst (no_cranes inst) w (trip_for inst w (bay_of inst j) o t) js) (none_there (length inst.tasks) j)
      ∙ no_trip_at js t

-- those at other spots are the same where one task's crane changes
pub other_trip : (inst : InstanceView) (olds cranes : List (Option ℕ)) (spots : List ℕ) (w k j v : ℕ)
    → Changes olds cranes j v → get_or spots j 0 ≢ k → trip_of inst olds spots w k ≡ trip_of inst cranes spots w k
other_trip inst olds cranes spots w k j v changes other =
    same_trip inst w olds cranes (filter (at_spot spots k) (task_numbers inst)) (trip_from (crane inst w).bay) (λ i a.
    changes.others i (λ e.
    let there = (filter_among (at_spot spots k) (task_numbers inst) i a).1 in
    other (ap (λ n. get_or spots n 0) (sym e) ∙ eqb-true (get_or spots i 0) k there)))

-- ---- the cells

-- cells of one spot that are written, crane by crane
pub record AreKept (new : ℕ → Trip) (olds cells : List Trip) (spot count : ℕ) : Type 0 where
  pub many : length cells ≡ 1920
  pub done : (w : ℕ) → w < count → get_or cells (240 * w + spot) no_trip ≡ new w
  pub others : (i : ℕ) → ((w : ℕ) → w < count → i ≢ 240 * w + spot) → get_or cells i no_trip ≡ get_or olds i no_trip

pub one_kept : (new : ℕ → Trip) (olds cells : List Trip) (spot count : ℕ) (v : Trip) → AreKept new olds cells spot count
    → spot < 240 → count < 8 → v ≡ new count → AreKept new olds (set cells (240 * count + spot) v) spot (count + 1)
one_kept new olds cells spot count v before low few is = record {
  many = length-set cells (240 * count + spot) v ∙ before.many;
  done = λ w less. elim (cases_lt w count) [
    | inl old ↦
        get_or-set_other cells (240 * count + spot) (240 * w + spot) v no_trip (λ e. omega (arith, e, old)) ∙ before.done w old
    | inr new_one ↦
        let e : count ≡ w = omega (arith, less, new_one) in
        subst (λ (n : ℕ). get_or (set cells (240 * count + spot) v) (240 * n + spot) no_trip ≡ new n) e
        (get_or-set_same cells (240 * count + spot) v no_trip (omega (arith, before.many, low, few)) ∙ is)
  ];
  others = λ i none.
      get_or-set_other cells (240 * count + spot) i v no_trip (none count (omega arith))
      ∙ before.others i (λ w less. none w (omega (arith, less)));
}

pub all_kept : (inst : InstanceView) (olds cranes : List (Option ℕ)) (spots : List ℕ) (old new : Trips) (j v : ℕ)
    → get_or spots j 0 < 240 → AreTrips inst olds spots old → Changes olds cranes j v
    → AreKept (λ w. trip_of inst cranes spots w (get_or spots j 0)) old.cells.items new.cells.items (get_or spots j 0) (length inst.cranes)
    → AreTrips inst cranes spots new
all_kept inst olds cranes spots old new j v spot was changes kept = record {
  many = kept.many;
  each = λ w k low in_k. elim (cases_same k (get_or spots j 0)) [
    | inl e ↦
        subst (λ (n : ℕ). get_or new.cells.items (240 * w + n) no_trip ≡ trip_of inst cranes spots w n) (sym e) (kept.done w low)
    | inr differ ↦
        kept.others (240 * w + k) (λ u _ e. differ (same_cell w u k (get_or spots j 0) in_k spot e)) ∙ was.each w k low in_k
        ∙ other_trip inst olds cranes spots w k j v changes (λ e. differ (sym e))
  ];
}
  where
    cases_same : (a b : ℕ) → (a ≡ b) ⊎ (a ≢ b)
    cases_same a b = elim (cases_lt a b) [
      | inl less ↦ inr (λ e. omega (arith, e, less))
      | inr more ↦ elim (cases_lt b a) [
        | inl less ↦ inr (λ e. omega (arith, e, less))
        | inr le ↦ inl (omega (arith, more, le))
      ]
    ]

    same_cell : (w u k n : ℕ) → k < 240 → n < 240 → 240 * w + k ≡ 240 * u + n → k ≡ n
    same_cell w u k n low high e = omega (arith, low, high, e)

-- ---- no crane has a task

pub record AreFilled (inst : InstanceView) (cells : List Trip) (count : ℕ) : Type 0 where
  pub many : length cells ≡ 1920
  pub done : (i : ℕ) → i < count → get_or cells i no_trip ≡ trip_from (crane inst (i / 240)).bay

pub all_filled : (inst : InstanceView) (trips : Trips) (count : ℕ) → AreFilled inst trips.cells.items count
    → 240 * length inst.cranes ≤ count → (spots : List ℕ) → AreTrips inst (no_cranes inst) spots trips
all_filled inst trips count filled all spots = record {
  many = filled.many;
  each = λ w k low in_k.
      let row : (240 * w + k) / 240 ≡ w = omega (arith, in_k) in
      filled.done (240 * w + k) (omega (arith, all, low, in_k))
      ∙ ap (λ n. trip_from (crane inst n).bay) row
      ∙ sym (no_trip_at inst w (filter (at_spot spots k) (task_numbers inst)) (trip_from (crane inst w).bay));
}
