-- A crane's place between its neighbours: the greatest of all stretches is what its frame says.
use Rattle.std.proofs.Common.{[], ◌≡◌, ℕ, ◌+◌, ◌-◌, ◌^◌, ◌<◌, ◌≤◌, max, ◌⊎◌, inl, inr, Bool, true, false, ◌||◌, eqb, cond, List, ◌∷◌, length, get_or, filter, Option, None, Some, IfSome, is_none, is_some, ℤ, pos, ◌≤ℤ◌, ◌<ℤ◌, int_le, refl, ap, sym, subst, ◌∙◌, arith}
use Rattle.std.proofs.lemmas.Bool.{and_from, and_parts, eq-eqb, eqb-true, false≢true, false_from_ne_true}
use Rattle.std.proofs.lemmas.Int.{by_lt_z, int_max_is, int_min_is, ints}
use Rattle.std.specs.Int.{int_max, int_min}
use Rattle.std.specs.List.{flat_map, list_all}
use Rattle.std.specs.Option.{option_map_or}
use Rattle.qc_close.specs.Model.{Direction, Up, Down, MOST_TASKS, Turn, OneWay, crane_in, all_done, barred_frame, barring, both_done, done_in, lies, own_or_left, frame, own, InstanceView, Valid, bay_of, greatest, highest, lowest, task_numbers}
use Rattle.qc_model.proofs.NodeLemmas.{T_true, true_T}
use Rattle.qc_close.specs.Bars.{IsAround, IsGreatest, IsIdle, IsKnown, least_high, left_of, in_row, lie_in, most_low, own_in, own_between, row_before, row_from, sum_along, next_spot, low_spot, high_spot, stretch, swept_from, swept_to, together}
use Rattle.qc_close.specs.Owns.{IsSmall, own_of}
use Rattle.qc_close.specs.Spots.{AreRising, AreSpots, IsCount, spot_bay}
use Rattle.qc_close.specs.declared.barred.Place.{Place}
use Rattle.qc_close.specs.declared.bars.Bars.{Bars}
use Rattle.qc_close.specs.declared.bars.Table.{Table}
use Rattle.qc_close.specs.declared.frames.Own.{Own}
use Rattle.qc_close.specs.declared.spots.Spots.{Spots}
use Rattle.qc_close.proofs.BarLemmas.{none_pass, own_split, sum_before_is, sum_from_is}
use Rattle.qc_close.proofs.Extremes.{among_done, greatest_among, highest_at, lowest_at}
use Rattle.qc_close.proofs.Members.{Among, among_filter, among_flat, among_range, filter_among, flat_among, range_among}
use Rattle.qc_close.proofs.SpotLemmas.{count_is, rises, rises_back, spot_at}
use Rattle.qc_close.proofs.StretchLemmas.{done_outside, own_before, own_from, own_low, spot_low, stretch_is, sum_own, sweep_greatest}

-- ---- all stretches of a crane

-- the bays of own tasks
abbrev low_in : Option Own → ℤ
low_in None = pos 0
low_in (Some o) = o.low

abbrev high_in : Option Own → ℤ
high_in None = pos 0
high_in (Some o) = o.high

greatest_at : (ns : List ℕ) (n : ℕ) → Among ns n → n ≤ greatest ns
greatest_at [] n a = absurd a
greatest_at (m ∷ ms) n (inl e) = omega (arith, e)
greatest_at (m ∷ ms) n (inr a) = omega (arith, greatest_at ms n a)

lowest_one : (inst : InstanceView) (j : ℕ) (js : List ℕ) → (k : ℕ) × Among (j ∷ js) k × (bay_of inst k ≡ lowest inst j js)
lowest_one inst j [] = (j, inl refl, refl)
lowest_one inst j (i ∷ is) =
    let r = lowest_one inst i is in
    by_lt_z {P = (k : ℕ) × Among (j ∷ i ∷ is) k × (bay_of inst k ≡ int_min (bay_of inst j) (lowest inst i is))} (lowest inst i is) (bay_of inst j)
    (λ less. let at = r.2 in (r.0, inr r.1, omega (arith, ints, int_min_is (bay_of inst j) (lowest inst i is), less, at)))
    (λ over. (j, inl refl, omega (arith, ints, int_min_is (bay_of inst j) (lowest inst i is), over)))

highest_one : (inst : InstanceView) (j : ℕ) (js : List ℕ) → (k : ℕ) × Among (j ∷ js) k × (bay_of inst k ≡ highest inst j js)
highest_one inst j [] = (j, inl refl, refl)
highest_one inst j (i ∷ is) =
    let r = highest_one inst i is in
    by_lt_z {P = (k : ℕ) × Among (j ∷ i ∷ is) k × (bay_of inst k ≡ int_max (bay_of inst j) (highest inst i is))} (bay_of inst j) (highest inst i is)
    (λ less. let at = r.2 in (r.0, inr r.1, omega (arith, ints, int_max_is (bay_of inst j) (highest inst i is), less, at)))
    (λ over. (j, inl refl, omega (arith, ints, int_max_is (bay_of inst j) (highest inst i is), over)))

module _ (inst : InstanceView) (valid : Valid inst) (cranes : List (Option ℕ)) (s : Spots) (known : AreSpots inst s)
    (turn : Turn) (w : ℕ) where
  abbrev gone_of : ℕ
  gone_of = (frame inst turn cranes w).gone

  -- a crane without tasks waits for nothing
  no_own : (os : List ℕ) → None ≡ own_of inst os → os ≡ []
  no_own [] e = refl
  no_own (i ∷ is) e = absurd (cc e)

  -- nor does one for stretches where it has none
  nothing_done : (low high : ℤ) → filter (lies inst low high) (own inst cranes w) ≡ [] → done_in inst turn cranes w low high ≡ 0
  nothing_done low high none =
      ap (λ os. cond (list_all (λ j. is_some (crane_in cranes j) || lies inst low high j) (task_numbers inst))
      (both_done inst turn cranes w os (barring inst cranes w low high)) 0) none
      ∙ either (list_all (λ j. is_some (crane_in cranes j) || lies inst low high j) (task_numbers inst))
    where
      either : (b : Bool) → ◌≡◌ {A = ℕ} (cond b 0 0) 0
      either true = refl
      either false = refl

  pub gone_alone : None ≡ own_of inst (own inst cranes w) → gone_of ≡ (barred_frame inst turn cranes w).gone
  gone_alone none = by (greatest_among gone_of (all_done inst turn cranes w (own_or_left inst cranes w)))
    where
      by : Among (gone_of ∷ all_done inst turn cranes w (own_or_left inst cranes w)) (barred_frame inst turn cranes w).gone
          → gone_of ≡ (barred_frame inst turn cranes w).gone
      by (inl e) = e
      by (inr a) =
          let z = among_done inst turn cranes w (λ n. n ≡ 0) (λ low high. nothing_done low high (ap (filter (lies inst low high)) (no_own (own inst cranes w) none))) (own_or_left inst cranes w) _ a in
          let most = greatest_at (gone_of ∷ all_done inst turn cranes w (own_or_left inst cranes w)) gone_of (inl refl) in
          omega (arith, z, most)

  -- the tasks that it has or may get
  pub own_left : own_of inst (own_or_left inst cranes w) ≡ together (own_of inst (own inst cranes w)) (own_of inst (left_of inst cranes))
  own_left =
      own_split inst (λ j. option_map_or (λ k. eqb k w) (crane_in cranes j) false) (λ j. is_none (crane_in cranes j))
      (λ j. option_map_or (λ k. eqb k w) (crane_in cranes j) true) (task_numbers inst)
      (λ j a. (by (crane_in cranes j), apart (crane_in cranes j)))
    where
      by : (o : Option ℕ) → option_map_or (λ k. eqb k w) o true ≡ (option_map_or (λ k. eqb k w) o false || is_none o)
      by None = refl
      by (Some k) = or_false (eqb k w)
        where
          or_false : (b : Bool) → b ≡ (b || false)
          or_false true = refl
          or_false false = refl

      apart : (o : Option ℕ) → option_map_or (λ k. eqb k w) o false ≡ true → is_none o ≡ false
      apart None t = absurd (false≢true t)
      apart (Some k) t = refl

  module _ (all : Own) (p : Place) (crane_is : p.crane ≡ w) (from : IsCount s.bays.items all.low p.first)
      (to : IsCount s.bays.items all.high p.last) where
    abbrev spot_x : ℕ → ℤ
    spot_x k = spot_bay s.bays.items k

    -- where these tasks begin and end
    pub record HasBounds (low high : ℤ) : Type 0 where
      pub order : p.first ≤ p.last
      pub within : p.last < length s.bays.items
      pub low_is : spot_x p.first ≡ low
      pub high_is : spot_x p.last ≡ high

    bounds_of : (is : List ℕ) → ((k : ℕ) → Among is k → k < length inst.tasks) → own_of inst is ≡ Some all → HasBounds all.low all.high
    bounds_of [] low_k e = absurd (cc e)
    bounds_of (i ∷ is) low_k e =
        let low_is : lowest inst i is ≡ all.low = ap low_in e in
        let high_is : highest inst i is ≡ all.high = ap high_in e in
        let a = lowest_one inst i is in
        let b = highest_one inst i is in
        let at_a = spot_at inst s.bays.items known.bays a.0 (get_or s.of_task.items a.0 0) (low_k a.0 a.1) (known.of_task.each a.0 (low_k a.0 a.1)) in
        let at_b = spot_at inst s.bays.items known.bays b.0 (get_or s.of_task.items b.0 0) (low_k b.0 b.1) (known.of_task.each b.0 (low_k b.0 b.1)) in
        let first = count_is s.bays.items known.bays.along.rising all.low p.first (get_or s.of_task.items a.0 0) from at_a.0 (at_a.1 ∙ a.2 ∙ low_is) in
        let last = count_is s.bays.items known.bays.along.rising all.high p.last (get_or s.of_task.items b.0 0) to at_b.0 (at_b.1 ∙ b.2 ∙ high_is) in
        let low_x : spot_x p.first ≡ all.low = ap spot_x first ∙ at_a.1 ∙ a.2 ∙ low_is in
        let high_x : spot_x p.last ≡ all.high = ap spot_x last ∙ at_b.1 ∙ b.2 ∙ high_is in
        let one = lowest_at inst i is i (inl refl) in
        let two = highest_at inst i is i (inl refl) in
        let inside : p.last < length s.bays.items = omega (arith, last, at_b.0) in
        record {
          order = rises_back inst s.bays.items known.bays p.first p.last (omega (arith, first, at_a.0)) (omega (arith, ints, low_x, high_x, low_is, high_is, one, two));
          within = inside;
          low_is = low_x;
          high_is = high_x;
        }

    -- each of them lies between
    spots_of : (is : List ℕ) → ((k : ℕ) → Among is k → k < length inst.tasks) → own_of inst is ≡ Some all → HasBounds all.low all.high
        → (j : ℕ) → Among is j → (p.first ≤ get_or s.of_task.items j 0) × (get_or s.of_task.items j 0 ≤ p.last)
    spots_of [] low_k e b j a = absurd a
    spots_of (i ∷ is) low_k e b j a =
        let low_is : lowest inst i is ≡ all.low = ap low_in e in
        let high_is : highest inst i is ≡ all.high = ap high_in e in
        let at_j = spot_at inst s.bays.items known.bays j (get_or s.of_task.items j 0) (low_k j a) (known.of_task.each j (low_k j a)) in
        let one = lowest_at inst i is j a in
        let two = highest_at inst i is j a in
        let first_x = b.low_is in
        let last_x = b.high_is in
        let here = at_j.1 in (
          rises_back inst s.bays.items known.bays p.first (get_or s.of_task.items j 0) (omega (arith, b.order, b.within)) (omega (arith, ints, first_x, here, low_is, one)),
          rises_back inst s.bays.items known.bays (get_or s.of_task.items j 0) p.last at_j.0 (omega (arith, ints, last_x, here, high_is, two)),
        )

    pub own_spots : together (own_of inst (own inst cranes w)) (own_of inst (left_of inst cranes)) ≡ Some all → HasBounds all.low all.high
        → (j : ℕ) → j < length inst.tasks → in_row cranes (w + 1) j ≡ true
        → (p.first ≤ get_or s.of_task.items j 0) × (get_or s.of_task.items j 0 ≤ p.last)
    own_spots e b j low_j mine =
        spots_of (own_or_left inst cranes w)
        (λ k a. let r = filter_among (λ j. option_map_or (λ k. eqb k w) (crane_in cranes j) true) (task_numbers inst) k a in
        omega (arith, (range_among k 0 (length inst.tasks) r.0).1))
        (own_left ∙ e) b j
        (among_filter (λ j. option_map_or (λ k. eqb k w) (crane_in cranes j) true) (task_numbers inst) j
        (among_range j 0 (length inst.tasks) (omega arith) (omega (arith, low_j))) (has (crane_in cranes j) mine))
      where
        has : (o : Option ℕ) → option_map_or (λ v. eqb (v + 1) (w + 1)) o false ≡ true → option_map_or (λ k. eqb k w) o true ≡ true
        has None t = absurd (false≢true t)
        has (Some v) t = eq-eqb v w (omega (arith, eqb-true (v + 1) (w + 1) t))

    pub bounds : together (own_of inst (own inst cranes w)) (own_of inst (left_of inst cranes)) ≡ Some all → HasBounds all.low all.high
    bounds e =
        bounds_of (own_or_left inst cranes w)
        (λ k a. let r = filter_among (λ j. option_map_or (λ k. eqb k w) (crane_in cranes j) true) (task_numbers inst) k a in
        omega (arith, (range_among k 0 (length inst.tasks) r.0).1))
        (own_left ∙ e)

    module _ (b : HasBounds all.low all.high) (mid n : ℕ)
        (ups : IsGreatest (stretch inst turn cranes s p Up) p.first (p.last + 1) gone_of mid)
        (downs : IsGreatest (stretch inst turn cranes s p Down) p.first (p.last + 1) mid n) where
      done : ℤ → ℤ → ℕ
      done low high = done_in inst turn cranes w low high

      up_is : (k : ℕ) → stretch inst turn cranes s p Up k ≡ done_in inst turn cranes w all.low (spot_x k)
      up_is k = ap (λ v. done_in inst turn cranes v (spot_x p.first) (spot_x k)) crane_is ∙ ap (λ y. done_in inst turn cranes w y (spot_x k)) b.low_is

      down_is : (k : ℕ) → stretch inst turn cranes s p Down k ≡ done_in inst turn cranes w (spot_x k) all.high
      down_is k = ap (λ v. done_in inst turn cranes v (spot_x k) (spot_x p.last)) crane_is ∙ ap (done_in inst turn cranes w (spot_x k)) b.high_is

      abbrev pair : ℕ → List ℕ
      pair j = done_in inst turn cranes w all.low (bay_of inst j) ∷ done_in inst turn cranes w (bay_of inst j) all.high ∷ []

      abbrev list : List ℕ
      list = flat_map pair (filter (lies inst all.low all.high) (task_numbers inst))

      -- each stretch is one of those of the definition
      listed : (k : ℕ) → p.first ≤ k → k < p.last + 1
          → Among list (done_in inst turn cranes w all.low (spot_x k)) × Among list (done_in inst turn cranes w (spot_x k) all.high)
      listed k up down =
          let inside : k < length s.bays.items = omega (arith, down, b.within) in
          let r = known.bays.used k inside in
          let one = rises inst s.bays.items known.bays p.first k up inside in
          let two = rises inst s.bays.items known.bays k p.last (omega arith) b.within in
          let low_is = b.low_is in
          let high_is = b.high_is in
          let is = r.2 in
          let above : all.low ≤ℤ bay_of inst r.0 = omega (arith, ints, one, low_is, is) in
          let below : bay_of inst r.0 ≤ℤ all.high = omega (arith, ints, two, high_is, is) in
          let there = among_filter (lies inst all.low all.high) (task_numbers inst) r.0 (among_range r.0 0 (length inst.tasks) (omega arith) (omega (arith, r.1)))
          (and_from (int_le all.low (bay_of inst r.0)) (int_le (bay_of inst r.0) all.high) (T_true above.le) (T_true below.le)) in (
            among_flat pair (filter (lies inst all.low all.high) (task_numbers inst)) r.0 _ there (inl (ap (done_in inst turn cranes w all.low) r.2)),
            among_flat pair (filter (lies inst all.low all.high) (task_numbers inst)) r.0 _ there (inr (inl (ap (λ y. done_in inst turn cranes w y all.high) r.2))),
          )

      at_most : n ≤ greatest (gone_of ∷ list)
      at_most =
          let most = greatest (gone_of ∷ list) in
          downs.some most
          (ups.some most (greatest_at (gone_of ∷ list) gone_of (inl refl)) (λ k up down.
          let one = greatest_at (gone_of ∷ list) (done_in inst turn cranes w all.low (spot_x k)) (inr (listed k up down).0) in
          omega (arith, one, up_is k)))
          (λ k up down.
          let one = greatest_at (gone_of ∷ list) (done_in inst turn cranes w (spot_x k) all.high) (inr (listed k up down).1) in
          omega (arith, one, down_is k))

      -- and each of these is one of the stretches
      of_list : (m : ℕ) → Among list m → m ≤ n
      of_list m a =
          let r = flat_among pair (filter (lies inst all.low all.high) (task_numbers inst)) m a in
          let f = filter_among (lies inst all.low all.high) (task_numbers inst) r.0 r.1 in
          let low_j : r.0 < length inst.tasks = omega (arith, (range_among r.0 0 (length inst.tasks) f.0).1) in
          let both = and_parts (int_le all.low (bay_of inst r.0)) (int_le (bay_of inst r.0) all.high) f.1 in
          let above : all.low ≤ℤ bay_of inst r.0 = record { le = true_T both.0 } in
          let below : bay_of inst r.0 ≤ℤ all.high = record { le = true_T both.1 } in
          let k = get_or s.of_task.items r.0 0 in
          let at = spot_at inst s.bays.items known.bays r.0 k low_j (known.of_task.each r.0 low_j) in
          let is = at.1 in
          let low_is = b.low_is in
          let high_is = b.high_is in
          let from_k = rises_back inst s.bays.items known.bays p.first k (omega (arith, b.order, b.within)) (omega (arith, ints, above, is, low_is)) in
          let to_k = rises_back inst s.bays.items known.bays k p.last at.0 (omega (arith, ints, below, is, high_is)) in
          one r.0 k is from_k to_k r.2
        where
          one : (j k : ℕ) → spot_x k ≡ bay_of inst j → p.first ≤ k → k ≤ p.last → Among (pair j) m → m ≤ n
          one j k is from_k to_k (inl e) =
              let same = ap (done_in inst turn cranes w all.low) is in
              omega (arith, ups.each k from_k (omega arith), downs.least, up_is k, same, e)
          one j k is from_k to_k (inr (inl e)) =
              let same = ap (λ y. done_in inst turn cranes w y all.high) is in
              omega (arith, downs.each k from_k (omega arith), down_is k, same, e)
          one j k is from_k to_k (inr (inr none)) = absurd none

      at_least : greatest (gone_of ∷ list) ≤ n
      at_least = by (greatest_among gone_of list)
        where
          by : Among (gone_of ∷ list) (greatest (gone_of ∷ list)) → greatest (gone_of ∷ list) ≤ n
          by (inl e) = omega (arith, e, ups.least, downs.least)
          by (inr a) = of_list (greatest (gone_of ∷ list)) a

      same_list : (is : List ℕ) → own_of inst is ≡ Some all → all_done inst turn cranes w is ≡ list
      same_list [] e = absurd (cc e)
      same_list (i ∷ is) e =
          let low_is : lowest inst i is ≡ all.low = ap low_in e in
          let high_is : highest inst i is ≡ all.high = ap high_in e in
          let P = λ (low high : ℤ). flat_map (λ j. done_in inst turn cranes w low (bay_of inst j) ∷ done_in inst turn cranes w (bay_of inst j) high ∷ [])
          (filter (lies inst low high) (task_numbers inst)) in
          ap (λ y. P y (highest inst i is)) low_is ∙ ap (P all.low) high_is

      pub gone_is : together (own_of inst (own inst cranes w)) (own_of inst (left_of inst cranes)) ≡ Some all
          → n ≡ (barred_frame inst turn cranes w).gone
      gone_is e =
          let same = same_list (own_or_left inst cranes w) (own_left ∙ e) in
          let whole : greatest (gone_of ∷ list) ≡ (barred_frame inst turn cranes w).gone = ap (λ ns. greatest (gone_of ∷ ns)) (sym same) in
          omega (arith, at_most, at_least, whole)

-- ---- what code keeps as it sweeps

pub small_ticks : (o : Option Own) → IfSome o (IsSmall MOST_TASKS) → IfSome o (λ o. o.ticks < 2 ^ 60)
small_ticks None h = tt
small_ticks (Some o) h = omega (arith, h.ticks)

-- spots before a bay, and behind one
pub skip_up : (bays : List ℤ) (p : Place) (x : ℤ) (n : ℕ) → IsCount bays x n → (steps : ℕ) → steps < n - p.first
    → spot_bay bays (p.first + steps) <ℤ x
skip_up bays p x n count steps less = count.before (p.first + steps) (omega (arith, less))

pub skip_down : (bays : List ℤ) → AreRising bays → (p : Place) → p.last < length bays → (x : ℤ) (n : ℕ) → IsCount bays x n
    → (steps : ℕ) → steps < p.last - n → x <ℤ spot_bay bays (p.last - steps)
skip_down bays rising p within x n count steps less =
    let behind = count.behind n (omega arith) (omega (arith, less, within)) in
    let up = rising n (p.last - steps) (omega (arith, less)) (omega (arith, within)) in
    omega (arith, ints, behind, up)

-- where a crane's own tasks lie
own_bounds : (inst : InstanceView) (o : Own) (is : List ℕ) → Some o ≡ own_of inst is → (j : ℕ) → Among is j
    → (o.low ≤ℤ bay_of inst j) × (bay_of inst j ≤ℤ o.high)
own_bounds inst o [] e j a = absurd a
own_bounds inst o (i ∷ is) e j a =
    let low_is : o.low ≡ lowest inst i is = ap low_in e in
    let high_is : o.high ≡ highest inst i is = ap high_in e in
    let one = lowest_at inst i is j a in
    let two = highest_at inst i is j a in
    (omega (arith, ints, low_is, one), omega (arith, ints, high_is, two))

-- what code reads of a stretch
module _ (inst : InstanceView) (cranes : List (Option ℕ)) (s : Spots) (t : Table) (p : Place) (k : IsKnown inst cranes s t p)
    (steps : ℕ) (low : steps < p.last - p.first + 1) where
  few : length s.bays.items ≤ 240
  few = k.spots.bays.along.few

  row : p.crane + 1 < 10
  row = omega (arith, k.crane, k.valid.cranes.count.1)

  along_is : (way : Direction) → own_in (sum_along way t p.crane (low_spot way p steps) (high_spot way p steps))
      ≡ own_between inst cranes s.of_task.items p.crane (low_spot way p steps) (high_spot way p steps + 1)
  along_is Up =
      let n = p.first + steps + 1 in
      let inside : n ≤ length s.bays.items = omega (arith, low, k.order, k.within) in
      ap own_in (k.table.befores.each (p.crane + 1) n row inside tt
      ∙ sum_before_is inst cranes s.of_task.items t.grid.items k.table.cells (p.crane + 1) row n (omega (arith, inside, few)))
      ∙ sum_own inst k.valid cranes s k.spots (row_before cranes s.of_task.items (p.crane + 1) n)
      ∙ own_before inst k.valid cranes s k.spots p.crane p.first n k.own_from
  along_is Down =
      let n = p.last - steps in
      let inside : n ≤ length s.bays.items = omega (arith, k.within) in
      ap own_in (k.table.froms.each (p.crane + 1) n row inside tt
      ∙ sum_from_is inst cranes s.of_task.items t.grid.items k.table.cells (p.crane + 1) row n (length s.bays.items - n)
      (omega (arith, inside, few)) (λ j low_j. omega (arith, spot_low inst k.valid cranes s k.spots j low_j, inside)))
      ∙ sum_own inst k.valid cranes s k.spots (row_from cranes s.of_task.items (p.crane + 1) n)
      ∙ own_from inst k.valid cranes s k.spots p.crane n p.last k.own_to

  pub own_along : (way : Direction) (lo hi : ℕ) → lo ≡ low_spot way p steps → hi ≡ high_spot way p steps → (sum : Bars)
      → sum ≡ sum_along way t p.crane lo hi → (own : Option Own) → own ≡ own_in sum
      → own ≡ own_between inst cranes s.of_task.items p.crane lo (hi + 1)
  own_along way lo hi lo_is hi_is sum sum_is own own_is =
      let at = λ (i j : ℕ). own_between inst cranes s.of_task.items p.crane i (j + 1) in
      own_is ∙ ap own_in (sum_is ∙ ap (λ i. sum_along way t p.crane i hi) lo_is ∙ ap (sum_along way t p.crane (low_spot way p steps)) hi_is)
      ∙ along_is way ∙ ap (λ i. at i (high_spot way p steps)) (sym lo_is) ∙ ap (at lo) (sym hi_is)

-- stretches that don't hold all that no crane has, or no task of the crane, come to nothing
module _ (inst : InstanceView) (cranes : List (Option ℕ)) (s : Spots) (t : Table) (p : Place) (k : IsKnown inst cranes s t p)
    (turn : Turn) (n : ℕ) (few_steps : n ≤ p.last - p.first) where
  abbrev x : ℕ → ℤ
  x i = spot_bay s.bays.items i

  abbrev idle : Direction → ℕ → Type 0
  idle way i = IsIdle way p (x (low_spot way p i)) (x (high_spot way p i))

  not_left : (low high : ℕ) → low ≤ high → high < length s.bays.items → lie_in p.left (x low) (x high) ≡ false
      → 0 ≡ done_in inst turn cranes p.crane (x low) (x high)
  not_left low high order within f = done_outside inst cranes s t p k low high order within turn _ _ refl refl _ refl f

  not_own : (low high : ℤ) → (high <ℤ p.own.low) ⊎ (p.own.high <ℤ low) → 0 ≡ done_in inst turn cranes p.crane low high
  not_own low high outside =
      sym (nothing_done inst k.valid cranes s k.spots turn p.crane low high
      (none_pass (lies inst low high) (own inst cranes p.crane) (λ j a. away j (own_bounds inst p.own (own inst cranes p.crane) k.own_is j a) outside)))
    where
      away : (j : ℕ) → (p.own.low ≤ℤ bay_of inst j) × (bay_of inst j ≤ℤ p.own.high) → (high <ℤ p.own.low) ⊎ (p.own.high <ℤ low)
          → lies inst low high j ≡ false
      away j b (inl under) = false_from_ne_true _ (λ t.
          let both = and_parts (int_le low (bay_of inst j)) (int_le (bay_of inst j) high) t in
          let le : bay_of inst j ≤ℤ high = record { le = true_T both.1 } in
          let from = b.0 in
          omega (arith, ints, le, under, from))
      away j b (inr over) = false_from_ne_true _ (λ t.
          let both = and_parts (int_le low (bay_of inst j)) (int_le (bay_of inst j) high) t in
          let le : low ≤ℤ bay_of inst j = record { le = true_T both.0 } in
          let to = b.1 in
          omega (arith, ints, le, over, to))

  nothing_up : (m : ℕ) → p.first ≤ m → m < length s.bays.items → x m <ℤ least_high p
      → 0 ≡ done_in inst turn cranes p.crane (x p.first) (x m)
  nothing_up m up down under = by p.left refl
    where
      by : (l : Option Own) → p.left ≡ l → 0 ≡ done_in inst turn cranes p.crane (x p.first) (x m)
      by None e =
          let bay = ap (λ l. option_map_or (λ (left : Own). int_max left.high p.own.low) l p.own.low) e in
          not_own (x p.first) (x m) (inl (omega (arith, ints, under, bay)))
      by (Some o) e =
          let bay = ap (λ l. option_map_or (λ (left : Own). int_max left.high p.own.low) l p.own.low) e in
          by_lt_z {P = 0 ≡ done_in inst turn cranes p.crane (x p.first) (x m)} (x m) p.own.low
          (λ less. not_own (x p.first) (x m) (inl less))
          (λ over. not_left p.first m up down
          (ap (λ l. lie_in l (x p.first) (x m)) e
          ∙ false_from_ne_true _ (λ t.
          let both = and_parts (int_le (x p.first) o.low) (int_le o.high (x m)) t in
          let le : o.high ≤ℤ x m = record { le = true_T both.1 } in
          omega (arith, ints, le, over, under, bay, int_max_is o.high p.own.low))))

  nothing_down : (m : ℕ) → m ≤ p.last → most_low p <ℤ x m → 0 ≡ done_in inst turn cranes p.crane (x m) (x p.last)
  nothing_down m down over = by p.left refl
    where
      by : (l : Option Own) → p.left ≡ l → 0 ≡ done_in inst turn cranes p.crane (x m) (x p.last)
      by None e =
          let bay = ap (λ l. option_map_or (λ (left : Own). int_min left.low p.own.high) l p.own.high) e in
          not_own (x m) (x p.last) (inr (omega (arith, ints, over, bay)))
      by (Some o) e =
          let bay = ap (λ l. option_map_or (λ (left : Own). int_min left.low p.own.high) l p.own.high) e in
          by_lt_z {P = 0 ≡ done_in inst turn cranes p.crane (x m) (x p.last)} p.own.high (x m)
          (λ less. not_own (x m) (x p.last) (inr less))
          (λ under. not_left m p.last down k.within
          (ap (λ l. lie_in l (x m) (x p.last)) e
          ∙ false_from_ne_true _ (λ t.
          let both = and_parts (int_le (x m) o.low) (int_le o.high (x p.last)) t in
          let le : x m ≤ℤ o.low = record { le = true_T both.0 } in
          omega (arith, ints, le, under, over, bay, int_min_is o.low p.own.high))))

  nothing : (way : Direction) → ((i : ℕ) → i < n → idle way i) → (m : ℕ) → swept_from way p n ≤ m → m < swept_to way p n
      → 0 ≡ stretch inst turn cranes s p way m
  nothing Up none m up down =
      let i = m - p.first in
      let is : p.first + i ≡ m = omega (arith, up) in
      nothing_up m up (omega (arith, down, few_steps, k.order, k.within))
      (subst (λ (j : ℕ). x j <ℤ least_high p) is (none i (omega (arith, down, up))))
  nothing Down none m up down =
      let i = p.last - m in
      let is : p.last - i ≡ m = omega (arith, down) in
      nothing_down m (omega (arith, down))
      (subst (λ (j : ℕ). most_low p <ℤ x j) is (none i (omega (arith, down, up, few_steps, k.order))))

  pub swept_nothing : (way : Direction) (start : ℕ) → ((i : ℕ) → i < n → idle way i)
      → IsGreatest (stretch inst turn cranes s p way) (swept_from way p n) (swept_to way p n) start start
  swept_nothing way start none = record {
    least = omega arith;
    each = λ m up down. omega (arith, nothing way none m up down);
    some = λ most le h. le;
  }

module _ (inst : InstanceView) (cranes : List (Option ℕ)) (s : Spots) (t : Table) (p : Place) (k : IsKnown inst cranes s t p)
    (way : Direction) (steps : ℕ) (low : steps < p.last - p.first + 1) where
  pub next_greatest : (turn : Turn) (start n d m lo hi : ℕ) → lo ≡ low_spot way p steps → hi ≡ high_spot way p steps
      → d ≡ done_in inst turn cranes p.crane (spot_bay s.bays.items lo) (spot_bay s.bays.items hi) → m ≡ max n d
      → IsGreatest (stretch inst turn cranes s p way) (swept_from way p steps) (swept_to way p steps) start n
      → IsGreatest (stretch inst turn cranes s p way) (swept_from way p (steps + 1)) (swept_to way p (steps + 1)) start m
  next_greatest turn start n d m lo hi lo_is hi_is d_is m_is h =
      let done = λ (i j : ℕ). done_in inst turn cranes p.crane (spot_bay s.bays.items i) (spot_bay s.bays.items j) in
      let same : d ≡ stretch inst turn cranes s p way (next_spot way p steps) =
      d_is ∙ ap (λ i. done i hi) lo_is ∙ ap (done (low_spot way p steps)) hi_is
      ∙ sym (stretch_is p steps low k.order way inst turn cranes s) in
      subst (λ (i : ℕ). IsGreatest (stretch inst turn cranes s p way) (swept_from way p (steps + 1)) (swept_to way p (steps + 1)) start i)
      (ap (max n) (sym same) ∙ sym m_is)
      (sweep_greatest inst k.valid cranes s p t k steps low turn way start n h)

-- ---- a crane's place

module _ (inst : InstanceView) (cranes : List (Option ℕ)) (s : Spots) (t : Table) (w : ℕ) (o left : Option Own)
    (a : IsAround inst cranes s t w o left) (low_w : w < length inst.cranes) where
  pub around_own : IfSome o (λ o. o.ticks < 2 ^ 60)
  around_own =
      small_ticks o (subst (λ (o : Option Own). IfSome o (IsSmall MOST_TASKS)) (sym a.own_is)
      (own_low inst a.valid cranes s a.spots (λ j. option_map_or (λ k. eqb k w) (crane_in cranes j) false)))

  pub around_left : IfSome left (λ o. o.ticks < 2 ^ 60)
  around_left =
      small_ticks left (subst (λ (o : Option Own). IfSome o (IsSmall MOST_TASKS)) (sym a.left_is)
      (own_low inst a.valid cranes s a.spots (λ j. is_none (crane_in cranes j))))

  module _ (all : Own) (is : together o left ≡ Some all) where
    both : together (own_of inst (own inst cranes w)) (own_of inst (left_of inst cranes)) ≡ Some all
    both = ap (λ p. together p (own_of inst (left_of inst cranes))) (sym a.own_is) ∙ ap (together o) (sym a.left_is) ∙ is

    module _ (mine : Own) (mine_is : o ≡ Some mine) (p : Place) (crane_is : p.crane ≡ w) (own_is : p.own ≡ mine) (left_is : p.left ≡ left) (from : IsCount s.bays.items all.low p.first)
        (to : IsCount s.bays.items all.high p.last) where
      pub known_of : IsKnown inst cranes s t p
      known_of =
          let bound = bounds inst a.valid cranes s a.spots OneWay w all p crane_is from to both in
          let spots = own_spots inst a.valid cranes s a.spots OneWay w all p crane_is from to both bound in
          record {
            valid = a.valid;
            spots = a.spots;
            table = a.table;
            crane = omega (arith, crane_is, low_w);
            order = bound.order;
            within = bound.within;
            left = left_is ∙ a.left_is;
            own_is = ap Some own_is ∙ sym mine_is ∙ a.own_is ∙ ap (λ v. own_of inst (own inst cranes v)) (sym crane_is);
            own_from = λ j low_j mine. (spots j low_j (sym (ap (λ v. in_row cranes (v + 1) j) crane_is) ∙ mine)).0;
            own_to = λ j low_j mine. (spots j low_j (sym (ap (λ v. in_row cranes (v + 1) j) crane_is) ∙ mine)).1;
          }

      pub gone_found : (turn : Turn) (gone mid n : ℕ) → gone ≡ (frame inst turn cranes w).gone
          → IsGreatest (stretch inst turn cranes s p Up) p.first (p.last + 1) gone mid
          → IsGreatest (stretch inst turn cranes s p Down) p.first (p.last + 1) mid n
          → n ≡ (barred_frame inst turn cranes w).gone
      gone_found turn gone mid n gone_eq ups downs =
          let bound = bounds inst a.valid cranes s a.spots turn w all p crane_is from to both in
          gone_is inst a.valid cranes s a.spots turn w all p crane_is from to bound mid n
          (subst (λ (m : ℕ). IsGreatest (stretch inst turn cranes s p Up) p.first (p.last + 1) m mid) gone_eq ups) downs both
