-- Where neighbours bar its way, a crane has still had the time, when a schedule ends, for what its frame says.
use Rattle.std.proofs.Common.{[], ◌≡◌, ℕ, ◌+◌, ◌*◌, ◌<◌, ◌≤◌, ◌⊎◌, inl, inr, Bool, true, false, ◌&&◌, ◌||◌, eqb, cond, List, ◌∷◌, length, map, Option, None, Some, is_none, is_some, ℤ, pos, ◌+ℤ◌, ◌-ℤ◌, ◌≤ℤ◌, ◌<ℤ◌, refl, ap, sym, subst, ◌∙◌, arith, filter, int_le, int_lt, pos_of_ne-zero, sum_by}
use Rattle.std.proofs.Math.Nat.{mul-add, mul-le-mul_left}
use Rattle.std.proofs.lemmas.Bool.{and_from, and_parts, cond_both, eqb-false, eqb-true, false≢true, ne_eqb, or_cases, or_left, or_right}
use Rattle.std.proofs.lemmas.Int.{by_lt_z, int_max_is, int_min_is, ints}
use Rattle.std.proofs.lemmas.List.Sums.{sum_by-cons}
use Rattle.std.proofs.lemmas.Nat.{mul-le}
use Rattle.std.specs.Int.{int_min}
use Rattle.std.specs.List.{list_all, range_with_len}
use Rattle.std.specs.Option.{option_map_or}
use Rattle.qc_close.specs.Model.{Frame, Slot, Turn, OneWay, Free, Follows, crane_in, place, all_done, barred_frame, barring, both_done, done_in, is_barred, lies, own_or_left, soonest, bays_between, bays_up, GoesBy, frame, frame_of, own, turn_bays, turn_high, InstanceView, Valid, bay_of, crane, ticks_of, berth_wait, free, greatest, least, GoesUp, Feasible, crane_of, ends, start_of, berth_distance, task_distance, highest, lowest, task_numbers, ticks_over}
use Rattle.qc_model.proofs.Bays.{bays}
use Rattle.qc_model.proofs.Extremes.{greatest_le}
use Rattle.qc_model.proofs.NodeLemmas.{one_crane_apart, true_T}
use Rattle.qc_close.proofs.CountLemmas.{sum_filter, sums_within}
use Rattle.qc_laws.proofs.FrameLemmas.{beyond, HasTime, arrives, at_bay, beside, does_open, feasible_by, has_time, parts}
use Rattle.qc_close.proofs.Extremes.{highest_to, lowest_from, among_done, greatest_among, highest_at, lowest_at}
use Rattle.qc_close.proofs.LoopLemmas.{least_steps}
use Rattle.qc_close.proofs.Members.{Among, all_at, among_filter, among_map, among_range, filter_among, first_of, least_at, range_among}
use Rattle.qc_close.proofs.SpanLemmas.{higher_distance, lower_distance}
use Rattle.qc_laws.proofs.PackLemmas.{clear, ends_in}
use Rattle.qc_laws.proofs.Rows.{AllClear, Row, clear_from, row_after, row_fits, row_of, way, way_between, way_to}

-- ---- greatest bays

high_rises : (turn : Turn) (b x y : ℤ) → x ≤ℤ y → turn_high turn b x ≤ℤ turn_high turn b y
high_rises OneWay b x y le = le
high_rises Free b x y le = omega (arith, ints, int_max_is x b, int_max_is y b, le)

low_rises : (b x y : ℤ) → x ≤ℤ y → int_min x b ≤ℤ int_min y b
low_rises b x y le = omega (arith, ints, int_min_is x b, int_min_is y b, le)

-- some of a crane's tasks lie no further than its frame
module _ (inst : InstanceView) (turn : Turn) (w : ℕ) where
  frame_high : (os : List ℕ) (i : ℕ) (is : List ℕ) → ((k : ℕ) → Among (i ∷ is) k → Among os k)
      → turn_high turn (crane inst w).bay (highest inst i is) ≤ℤ (frame_of inst turn w os).high
  frame_high [] i is within = absurd (within i (inl refl))
  frame_high (o ∷ os) i is within =
      high_rises turn (crane inst w).bay (highest inst i is) (highest inst o os)
      (highest_to inst (highest inst o os) i is (λ k a. highest_at inst o os k (within k a)))

  frame_low : (os : List ℕ) (i : ℕ) (is : List ℕ) → ((k : ℕ) → Among (i ∷ is) k → Among os k)
      → (frame_of inst turn w os).low ≤ℤ int_min (lowest inst i is) (crane inst w).bay
  frame_low [] i is within = absurd (within i (inl refl))
  frame_low (o ∷ os) i is within =
      low_rises (crane inst w).bay (lowest inst o os) (lowest inst i is)
      (lowest_from inst (lowest inst o os) i is (λ k a. lowest_at inst o os k (within k a)))

-- ---- starts of a feasible schedule

-- a task starts no earlier than it may and its crane can be there
free_start : (inst : InstanceView) (sched : List Slot) → Feasible inst sched → (j : ℕ) → j < length inst.tasks
    → free inst j (crane_of sched j) ≤ start_of sched j
free_start inst sched f j low = omega (arith, (f.ready j low).0, (f.ready j low).1, berths)
  where
    waits : (v : ℕ) → v < 0 + length inst.cranes → berth_wait inst j (crane_of sched j) v ≤ start_of sched j
    waits v high =
        cond_both (eqb (berth_distance inst v (crane_of sched j) (bay_of inst j)) 0) _ _ (λ n. n ≤ start_of sched j)
        (λ _. omega arith)
        (λ away.
        let far = eqb-false (berth_distance inst v (crane_of sched j) (bay_of inst j)) 0 away in
        let differ = λ (e : v ≡ crane_of sched j). far (one_crane_apart inst v (crane_of sched j) _ _ e) in
        f.berth j v low (omega arith) differ (omega (arith, pos_of_ne-zero far)))

    berths : greatest (map (berth_wait inst j (crane_of sched j)) (range_with_len 0 (length inst.cranes)))
        ≤ start_of sched j
    berths =
        greatest_le (berth_wait inst j (crane_of sched j)) (start_of sched j) 0 (length inst.cranes) waits

-- ---- a crane and its neighbours

module _ (inst : InstanceView) (turn : Turn) (cranes : List (Option ℕ)) (sched : List Slot) (valid : Valid inst)
    (g : GoesBy turn inst sched) (follows : Follows inst cranes sched) (w : ℕ) where
  abbrev feasible : Feasible inst sched
  feasible = feasible_by turn inst sched g

  abbrev count : ℕ
  count = length inst.tasks

  abbrev all : List ℕ
  all = task_numbers inst

  abbrev opens : ℕ → Bool
  opens j = does_open inst turn cranes sched valid g follows w j

  abbrev extra : ℕ
  extra = beside inst turn cranes sched valid g follows w

  abbrev Time : Frame → Type 0
  Time fr = HasTime inst turn cranes sched valid g follows w fr

  abbrev plain : Frame
  plain = frame inst turn cranes w

  abbrev with_gone : ℕ → Frame
  with_gone n = record (frame inst turn cranes w) { gone = n }

  abbrev is_own : ℕ → Bool
  is_own j = option_map_or (λ k. eqb k w) (crane_in cranes j) false

  abbrev lies_at : ℕ → ℤ
  lies_at j = place inst j (crane_of sched j)

  abbrev berth : ℤ
  berth = (crane inst w).bay

  less_time : (n : ℕ) → n ≤ plain.gone → Time (with_gone n)
  less_time n le =
      let t = has_time inst turn cranes sched valid g follows w in
      record {
        far = t.far;
        deep = t.deep;
        above = t.above;
        below = t.below;
        done = λ works. omega (arith, t.done works, le);
        fits = λ some. omega (arith, t.fits some, le);
      }

  range_low : (j : ℕ) → Among all j → j < count
  range_low j a = omega (arith, (range_among j 0 count a).1)

  low_range : (j : ℕ) → j < count → Among all j
  low_range j low = among_range j 0 count (omega arith) (omega arith)

  -- the crane of a task that has one
  crane_as : (P : ℕ → Bool) (j : ℕ) → j < count → option_map_or P (crane_in cranes j) false ≡ true → P (crane_of sched j) ≡ true
  crane_as P j low t = by (crane_in cranes j) (λ k e. follows j k low e) t
    where
      by : (o : Option ℕ) → ((k : ℕ) → o ≡ Some k → crane_of sched j ≡ k) → option_map_or P o false ≡ true
          → P (crane_of sched j) ≡ true
      by None h t = absurd (false≢true t)
      by (Some k) h t = ap P (h k refl) ∙ t

  -- ---- the tasks of one stretch

  module _ (low high : ℤ) (up : low ≤ℤ high)
      (left_in : (j : ℕ) → j < count → is_none (crane_in cranes j) ≡ true → lies inst low high j ≡ true) where
    abbrev bars : ℕ → Bool
    bars j = option_map_or (λ v. is_barred inst w low high v (bay_of inst j)) (crane_in cranes j) false

    abbrev here : ℕ → Bool
    here j = is_own j && lies inst low high j

    abbrev mine : ℕ → Bool
    mine j = here j || opens j

    abbrev counts : ℕ → Bool
    counts j = mine j || bars j

    record IsMine (j : ℕ) : Type 0 where
      crane : crane_of sched j ≡ w
      from : low ≤ℤ bay_of inst j
      to : bay_of inst j ≤ℤ high

    in_stretch : (j : ℕ) → lies inst low high j ≡ true → (low ≤ℤ bay_of inst j) × (bay_of inst j ≤ℤ high)
    in_stretch j t =
        let both = and_parts (int_le low (bay_of inst j)) (int_le (bay_of inst j) high) t in
        (record { le = true_T both.0 }, record { le = true_T both.1 })

    mine_is : (j : ℕ) → j < count → mine j ≡ true → IsMine j
    mine_is j low_j t = elim (or_cases (here j) (opens j) t) [
      | inl t ↦
          let both = and_parts (is_own j) (lies inst low high j) t in
          let there = in_stretch j both.1 in
          record {
            crane = eqb-true (crane_of sched j) w (crane_as (λ k. eqb k w) j low_j both.0);
            from = there.0;
            to = there.1;
          }
      | inr t ↦
          let both = and_parts (is_none (crane_in cranes j)) (eqb (crane_of sched j) w) t in
          let there = in_stretch j (left_in j low_j both.0) in
          record { crane = eqb-true (crane_of sched j) w both.1; from = there.0; to = there.1 }
    ]

    -- a task of the next crane above that bars the way, and one of the next below
    abbrev IsAbove : ℕ → Type 0
    IsAbove j = (crane_of sched j ≡ w + 1) × (bay_of inst j <ℤ (low +ℤ pos inst.gap))

    abbrev IsBelow : ℕ → Type 0
    IsBelow j = (crane_of sched j + 1 ≡ w) × (high <ℤ (bay_of inst j +ℤ pos inst.gap))

    bars_is : (j : ℕ) → j < count → bars j ≡ true → IsAbove j ⊎ IsBelow j
    bars_is j low_j t =
        let v = crane_of sched j in
        let x = bay_of inst j in
        let is = crane_as (λ v. is_barred inst w low high v x) j low_j t in
        elim (or_cases (eqb v (w + 1) && int_lt x (low +ℤ pos inst.gap)) (eqb (v + 1) w && int_lt high (x +ℤ pos inst.gap)) is) [
          | inl t ↦
              let both = and_parts (eqb v (w + 1)) (int_lt x (low +ℤ pos inst.gap)) t in
              inl (eqb-true v (w + 1) both.0, record { lt = true_T both.1 })
          | inr t ↦
              let both = and_parts (eqb (v + 1) w) (int_lt high (x +ℤ pos inst.gap)) t in
              inr (eqb-true (v + 1) w both.0, record { lt = true_T both.1 })
        ]

    abbrev Kind : ℕ → Type 0
    Kind j = IsMine j ⊎ (IsAbove j ⊎ IsBelow j)

    kind : (j : ℕ) → j < count → counts j ≡ true → Kind j
    kind j low_j t = elim (or_cases (mine j) (bars j) t) [
      | inl t ↦ inl (mine_is j low_j t)
      | inr t ↦ inr (bars_is j low_j t)
    ]

    abbrev Near : ℕ → ℕ → Type 0
    Near i j = (crane_of sched i ≡ crane_of sched j) ⊎ (0 < task_distance inst i (crane_of sched i) j (crane_of sched j))

    travels : 1 ≤ inst.travel
    travels = (least_steps inst valid).0

    under : (i j : ℕ) → crane_of sched i < crane_of sched j → lies_at j <ℤ lies_at i → Near i j
    under i j low_i less =
        let some : 1 ≤ bays_up (lies_at j) (lies_at i) = omega (arith, bays, less) in
        inr (omega (
          arith,
          mul-le 1 1 inst.travel (bays_up (lies_at j) (lies_at i)) travels some,
          lower_distance inst i (crane_of sched i) j (crane_of sched j) low_i,
        ))

    over : (i j : ℕ) → crane_of sched j < crane_of sched i → lies_at i <ℤ lies_at j → Near i j
    over i j low_j less =
        let some : 1 ≤ bays_up (lies_at i) (lies_at j) = omega (arith, bays, less) in
        inr (omega (
          arith,
          mul-le 1 1 inst.travel (bays_up (lies_at i) (lies_at j)) travels some,
          higher_distance inst i (crane_of sched i) j (crane_of sched j) low_j,
        ))

    next_gap : (u v : ℕ) → u ≡ v + 1 → inst.gap * u ≡ inst.gap * v + inst.gap
    next_gap u v e =
        let one : inst.gap * 1 ≡ inst.gap = omega arith in
        omega (arith, ap (λ n. inst.gap * n) e, mul-add inst.gap v 1, one)

    mine_above : (i j : ℕ) → IsMine i → IsAbove j → lies_at j <ℤ lies_at i
    mine_above i j m a =
        let from = m.from in
        let before = a.1 in
        omega (arith, ints, next_gap (crane_of sched j) w a.0, ap (λ v. inst.gap * v) m.crane, from, before)

    mine_below : (i j : ℕ) → IsMine i → IsBelow j → lies_at i <ℤ lies_at j
    mine_below i j m b =
        let to = m.to in
        let after = b.1 in
        omega (arith, ints, next_gap (crane_of sched i) (crane_of sched j) (m.crane ∙ sym b.0), to, after)

    below_above : (i j : ℕ) → IsBelow i → IsAbove j → lies_at j <ℤ lies_at i
    below_above i j b a =
        let one = next_gap (crane_of sched j) w a.0 in
        let two = next_gap w (crane_of sched i) (sym b.0) in
        let before = a.1 in
        let after = b.1 in
        let order = up in
        omega (arith, ints, one, two, before, after, order)

    near : (i j : ℕ) → Kind i → Kind j → Near i j
    near i j (inl m) (inl n) = inl (m.crane ∙ sym n.crane)
    near i j (inl m) (inr (inl a)) = under i j (omega (arith, m.crane, a.0)) (mine_above i j m a)
    near i j (inl m) (inr (inr b)) = over i j (omega (arith, m.crane, b.0)) (mine_below i j m b)
    near i j (inr (inl a)) (inl m) = over i j (omega (arith, m.crane, a.0)) (mine_above j i m a)
    near i j (inr (inr b)) (inl m) = under i j (omega (arith, m.crane, b.0)) (mine_below j i m b)
    near i j (inr (inl a)) (inr (inl b)) = inl (a.0 ∙ sym b.0)
    near i j (inr (inr a)) (inr (inr b)) = inl (omega (arith, a.0, b.0))
    near i j (inr (inl a)) (inr (inr b)) = over i j (omega (arith, a.0, b.0)) (below_above j i b a)
    near i j (inr (inr b)) (inr (inl a)) = under i j (omega (arith, a.0, b.0)) (below_above i j b a)

    -- ---- all of them in a row

    abbrev starts_at : ℕ → ℕ
    starts_at j = start_of sched j

    abbrev lasts : ℕ → ℕ
    lasts j = ticks_of inst j

    abbrev between : ℕ → ℕ → ℕ
    between i j = inst.travel * bays_between (lies_at i) (lies_at j)

    all_clear : AllClear starts_at lasts between (filter counts all)
    all_clear =
        clear_from starts_at lasts between counts 0 count
        (λ i j less low_j s t.
        clear inst sched feasible i j (omega arith) (omega arith) (λ e. omega arith)
        (near i j (kind i (omega arith) s) (kind j (omega arith) t)))

    -- the lowest and the highest of the crane's tasks
    record HasEnds : Type 0 where
      low_one : ℕ
      high_one : ℕ
      low_in : low_one < count
      high_in : high_one < count
      low_mine : mine low_one ≡ true
      high_mine : mine high_one ≡ true
      least_bay : (j : ℕ) → j < count → mine j ≡ true → bay_of inst low_one ≤ℤ bay_of inst j
      most_bay : (j : ℕ) → j < count → mine j ≡ true → bay_of inst j ≤ℤ bay_of inst high_one

    either_way : (i k : ℕ) → (bay_of inst i ≤ℤ bay_of inst k) ⊎ (bay_of inst k ≤ℤ bay_of inst i)
    either_way i k = by_lt_z (bay_of inst i) (bay_of inst k) (λ h. inl (omega (arith, ints))) (λ h. inr h)

    ends_from : (ms : List ℕ) → ((j : ℕ) → Among ms j → (j < count) × (mine j ≡ true))
        → ((j : ℕ) → j < count → mine j ≡ true → Among ms j) → (k : ℕ) → k < count → mine k ≡ true → HasEnds
    ends_from [] only has k low_k t = absurd (has k low_k t)
    ends_from (m ∷ ms) only has k low_k t =
        let first = first_of (λ i k. bay_of inst i ≤ℤ bay_of inst k) either_way (λ i k l p q. omega (arith, ints)) m ms in
        let last = first_of (λ i k. bay_of inst k ≤ℤ bay_of inst i) (λ i k. either_way k i) (λ i k l p q. omega (arith, ints)) m ms in
        record {
          low_one = first.one;
          high_one = last.one;
          low_in = (only first.one first.is_one).0;
          high_in = (only last.one last.is_one).0;
          low_mine = (only first.one first.is_one).1;
          high_mine = (only last.one last.is_one).1;
          least_bay = λ j low_j t. first.first j (has j low_j t);
          most_bay = λ j low_j t. last.first j (has j low_j t);
        }

    ends_of : (k : ℕ) → k < count → mine k ≡ true → HasEnds
    ends_of =
        ends_from (filter mine all)
        (λ j a. let r = filter_among mine all j a in (range_low j r.0, r.1))
        (λ j low_j t. among_filter mine all j (low_range j low_j) t)

    -- the ticks of its own there, of those that bar it and of those that no crane has, together
    one_term : (o : Option ℕ) (l e : Bool) (bar : ℕ → Bool) (n : ℕ) → ((k : ℕ) → eqb k w ≡ true → bar k ≡ false)
        → cond (option_map_or (λ k. eqb k w) o false && l) n 0 + cond (option_map_or bar o false) n 0 + cond (is_none o && e) n 0
        ≤ cond (((option_map_or (λ k. eqb k w) o false && l) || (is_none o && e)) || option_map_or bar o false) n 0
    one_term None l true bar n not_both = omega arith
    one_term None l false bar n not_both = omega arith
    one_term (Some k) l e bar n not_both = some (eqb k w) l (bar k) (not_both k)
      where
        some : (a l c : Bool) → (a ≡ true → c ≡ false) → cond (a && l) n 0 + cond c n 0 + cond (false && e) n 0 ≤ cond (((a && l) || (false && e)) || c) n 0
        some false l true h = omega arith
        some false l false h = omega arith
        some true l true h = absurd (false≢true (sym (h refl)))
        some true true false h = omega arith
        some true false false h = omega arith

    own_not_barred : (x : ℤ) (k : ℕ) → eqb k w ≡ true → is_barred inst w low high k x ≡ false
    own_not_barred x k t =
        let e = eqb-true k w t in
        ap (λ b. (b && int_lt x (low +ℤ pos inst.gap)) || (eqb (k + 1) w && int_lt high (x +ℤ pos inst.gap))) (ne_eqb k (w + 1) (λ s. omega (arith, e, s)))
        ∙ ap (λ b. b && int_lt high (x +ℤ pos inst.gap)) (ne_eqb (k + 1) w (λ s. omega (arith, e, s)))

    ticks_within : ticks_over inst (filter here all) + ticks_over inst (filter bars all) + extra
        ≤ ticks_over inst (filter counts all)
    ticks_within =
        let a = λ (j : ℕ). cond (here j) (ticks_of inst j) 0 in
        let b = λ (j : ℕ). cond (bars j) (ticks_of inst j) 0 in
        let c = λ (j : ℕ). cond (opens j) (ticks_of inst j) 0 in
        let d = λ (j : ℕ). cond (counts j) (ticks_of inst j) 0 in
        let two = sums_within a b (λ j. a j + b j) all (λ j _. omega arith) in
        let three = sums_within (λ j. a j + b j) c d all
        (λ j _. one_term (crane_in cranes j) (lies inst low high j) (eqb (crane_of sched j) w) (λ v. is_barred inst w low high v (bay_of inst j)) (ticks_of inst j) (own_not_barred (bay_of inst j))) in
        omega (
          arith,
          two,
          three,
          sum_filter (ticks_of inst) here all,
          sum_filter (ticks_of inst) bars all,
          sum_filter (ticks_of inst) counts all,
        )

    -- ---- where the first of them begins

    module _ (i : ℕ) (is : List ℕ) (own_is : (k : ℕ) → Among (i ∷ is) k → (k < count) × (here k ≡ true))
        (b : ℕ) (bs : List ℕ) (has_bars : (k : ℕ) → k < count → bars k ≡ true → Among (b ∷ bs) k)
        (same_own : ticks_over inst (i ∷ is) ≡ ticks_over inst (filter here all))
        (same_bars : ticks_over inst (b ∷ bs) ≡ ticks_over inst (filter bars all))
        (e : HasEnds) where
      abbrev first : ℤ
      first = lowest inst i is

      abbrev last : ℤ
      last = highest inst i is

      abbrev lo : ℤ
      lo = bay_of inst e.low_one

      abbrev hi : ℤ
      hi = bay_of inst e.high_one

      abbrev far : ℕ
      far = bays_up plain.high hi

      abbrev deep : ℕ
      deep = bays_up lo plain.low

      -- what both take from the start of the first of all
      abbrev needs : ℕ
      needs = ticks_over inst (i ∷ is) + ticks_over inst (b ∷ bs) + extra

      own_mine : (k : ℕ) → Among (i ∷ is) k → mine k ≡ true
      own_mine k a = or_left (here k) (opens k) (own_is k a).1

      lo_le : lo ≤ℤ first
      lo_le = lowest_from inst lo i is (λ k a. e.least_bay k (own_is k a).0 (own_mine k a))

      le_hi : last ≤ℤ hi
      le_hi = highest_to inst hi i is (λ k a. e.most_bay k (own_is k a).0 (own_mine k a))

      in_order : first ≤ℤ last
      in_order =
          let one = lowest_at inst i is i (inl refl) in
          let two = highest_at inst i is i (inl refl) in
          omega (arith, ints, one, two)

      among_own : (k : ℕ) → Among (i ∷ is) k → Among (own inst cranes w) k
      among_own k a =
          among_filter is_own all k (low_range k (own_is k a).0) (and_parts (is_own k) (lies inst low high k) (own_is k a).1).0

      high_le : turn_high turn berth last ≤ℤ plain.high
      high_le = frame_high inst turn w (own inst cranes w) i is among_own

      le_low : plain.low ≤ℤ int_min first berth
      le_low = frame_low inst turn w (own inst cranes w) i is among_own

      far_le : far ≤ bays_up (turn_high turn berth last) hi
      far_le = let le = high_le in omega (arith, bays, le)

      deep_le : deep ≤ bays_up lo (int_min first berth)
      deep_le = let le = le_low in omega (arith, bays, le)

      last_high : (turn : Turn) → last ≤ℤ turn_high turn berth last
      last_high OneWay = omega (arith, ints)
      last_high Free = omega (arith, ints, int_max_is last berth)

      far_last : far ≤ bays_up last hi
      far_last =
          let le = high_le in
          let more = last_high turn in
          omega (arith, bays, le, more)

      deep_first : deep ≤ bays_up lo first
      deep_first =
          let le = le_low in
          let less : int_min first berth ≤ℤ first = omega (arith, ints, int_min_is first berth) in
          omega (arith, bays, le, less)

      -- with so many bays to go from the first on, all is done when the schedule ends
      module _ (j : ℕ) (js : List ℕ) (row : Row starts_at lasts between starts_at (j ∷ js))
          (has : (k : ℕ) → k < count → counts k ≡ true → Among (j ∷ js) k)
          (only : (k : ℕ) → Among (j ∷ js) k → (k < count) × (counts k ≡ true))
          (ticks : needs ≤ sum_by lasts (j ∷ js)) where
        abbrev bays_on : ℕ
        bays_on = way lies_at (lies_at j) js

        all_end : start_of sched j + needs + inst.travel * bays_on ≤ ends inst sched
        all_end =
            let behind =
            row_fits lies_at starts_at lasts inst.travel (ends inst sched) (starts_at j + lasts j) (lies_at j) js
            (ends_in inst sched feasible j (only j (inl refl)).0) row.1
            (λ k a. ends_in inst sched feasible k (only k (inr a)).0) in
            let sum = ticks in
            omega (arith, behind, sum, sum_by-cons lasts j js)

        among_mine : (k : ℕ) → k < count → mine k ≡ true → Among (j ∷ js) k
        among_mine k low_k t = has k low_k (or_left (mine k) (bars k) t)

        low_among : Among (j ∷ js) e.low_one
        low_among = among_mine e.low_one e.low_in e.low_mine

        high_among : Among (j ∷ js) e.high_one
        high_among = among_mine e.high_one e.high_in e.high_mine

        low_crane : crane_of sched e.low_one ≡ w
        low_crane = (mine_is e.low_one e.low_in e.low_mine).crane

        high_crane : crane_of sched e.high_one ≡ w
        high_crane = (mine_is e.high_one e.high_in e.high_mine).crane

        ends_apart : bays_between (lies_at e.low_one) (lies_at e.high_one) ≡ bays_up lo hi
        ends_apart =
            let order = e.most_bay e.low_one e.low_in e.low_mine in
            let one = ap (λ v. inst.gap * v) low_crane in
            let two = ap (λ v. inst.gap * v) high_crane in
            omega (arith, bays, order, one, two)

        -- one of those that bar it is first
        behind_other : bars j ≡ true
            → ticks_over inst (b ∷ bs) + (least (map (soonest inst cranes) (b ∷ bs)) + ticks_over inst (i ∷ is) + inst.travel * bays_up first last)
            + extra + inst.travel * (far + deep) ≤ ends inst sched
        behind_other t =
            let low_j = (only j (inl refl)).0 in
            let soon = least_at (map (soonest inst cranes) (b ∷ bs)) (soonest inst cranes j) (among_map (soonest inst cranes) (b ∷ bs) j (has_bars j low_j t)) in
            let both = way_between lies_at (lies_at j) (j ∷ js) e.low_one e.high_one low_among high_among in
            let none : bays_between (lies_at j) (lies_at j) ≡ 0 = omega (arith, bays) in
            let whole : bays_up lo hi ≤ bays_on = omega (arith, both, none, ends_apart) in
            let three = parts berth first last lo hi lo_le in_order le_hi in
            let goes : bays_up first last + (far + deep) ≤ bays_on = omega (arith, whole, three, far_last, deep_first) in
            let ways = mul-le-mul_left inst.travel goes in
            let split = mul-add inst.travel (bays_up first last) (far + deep) in
            let end = all_end in
            omega (arith, soon, soonest_start j low_j t, ways, split, end)
          where
            soonest_start : (j : ℕ) → j < count → bars j ≡ true → soonest inst cranes j ≤ start_of sched j
            soonest_start j low_j t = by (crane_in cranes j) (λ k e. follows j k low_j e) t
              where
                by : (o : Option ℕ) → ((k : ℕ) → o ≡ Some k → crane_of sched j ≡ k)
                    → option_map_or (λ v. is_barred inst w low high v (bay_of inst j)) o false ≡ true
                    → option_map_or (free inst j) o 0 ≤ start_of sched j
                by None h t = absurd (false≢true t)
                by (Some k) h t = subst (λ (v : ℕ). free inst j v ≤ start_of sched j) (h k refl) (free_start inst sched feasible j low_j)

        -- one of its own is first
        abbrev berth_place : ℤ
        berth_place = berth -ℤ pos (inst.gap * w)

        from_berth : (k : ℕ) → crane_of sched k ≡ w
            → bays_between berth_place (lies_at k) ≡ bays_between berth (bay_of inst k)
        from_berth k is = let same = ap (λ v. inst.gap * v) is in omega (arith, bays, same)

        lowest_first : GoesUp inst sched → IsMine j → bay_of inst j ≤ℤ lo
        lowest_first up m = by (has e.low_one e.low_in (or_left (mine e.low_one) (bars e.low_one) e.low_mine))
          where
            by : Among (j ∷ js) e.low_one → bay_of inst j ≤ℤ lo
            by (inl same) = let is = ap (bay_of inst) same in omega (arith, ints, is)
            by (inr a) =
                by_lt_z lo (bay_of inst j)
                (λ less.
                let climbs = up.upward.one_crane e.low_one j e.low_in (only j (inl refl)).0 (low_crane ∙ sym m.crane) less in
                let later = row_after lies_at starts_at lasts inst.travel (ends inst sched) (starts_at j + lasts j) (lies_at j) js row.1 e.low_one a in
                absurd (omega (arith, climbs, later, valid.tasks.ticks j (only j (inl refl)).0)))
                (λ h. h)

        turns : (turn : Turn) → GoesBy turn inst sched → IsMine j → lo ≤ℤ bay_of inst j
            → turn_bays turn berth lo hi ≤ bays_between berth (bay_of inst j) + bays_on
        turns Free goes m low_j =
            let both = way_between lies_at berth_place (j ∷ js) e.low_one e.high_one low_among high_among in
            omega (
              arith,
              both,
              from_berth j m.crane,
              from_berth e.low_one low_crane,
              from_berth e.high_one high_crane,
              ends_apart,
            )
        turns OneWay goes m low_j =
            let least = lowest_first goes m in
            let far_on = way_to lies_at (lies_at j) (j ∷ js) e.high_one high_among in
            let none : bays_between (lies_at j) (lies_at j) ≡ 0 = omega (arith, bays) in
            let there : bays_between (lies_at j) (lies_at e.high_one) ≡ bays_between (bay_of inst j) hi = both_on m in
            let bay_is : bays_between berth (bay_of inst j) ≡ bays_between berth lo = omega (arith, bays, least, low_j) in
            let up_is : bays_up lo hi ≤ bays_between (bay_of inst j) hi = omega (arith, bays, least, low_j) in
            omega (arith, far_on, none, there, bay_is, up_is)
          where
            both_on : IsMine j → bays_between (lies_at j) (lies_at e.high_one) ≡ bays_between (bay_of inst j) hi
            both_on m =
                let one = ap (λ v. inst.gap * v) m.crane in
                let two = ap (λ v. inst.gap * v) high_crane in
                omega (arith, bays, one, two)

        behind_own : mine j ≡ true
            → ticks_over inst (b ∷ bs) + (frame_of inst turn w (i ∷ is)).gone + extra + inst.travel * (far + deep)
            ≤ ends inst sched
        behind_own t =
            let low_j = (only j (inl refl)).0 in
            let m = mine_is j low_j t in
            let comes = arrives inst sched valid feasible w j (low_j, m.crane) in
            let goes_on = turns turn g m (e.least_bay j low_j t) in
            let less = beyond berth first last lo hi lo_le in_order le_hi turn in
            let goes : turn_bays turn berth first last + (far + deep) ≤ bays_between berth (bay_of inst j) + bays_on = omega (arith, goes_on, less, far_le, deep_le) in
            let ways = mul-le-mul_left inst.travel goes in
            let one = mul-add inst.travel (turn_bays turn berth first last) (far + deep) in
            let two = mul-add inst.travel (bays_between berth (bay_of inst j)) bays_on in
            let end = all_end in
            omega (arith, comes, ways, one, two, end)

        row_end : both_done inst turn cranes w (i ∷ is) (b ∷ bs) + extra + inst.travel * (far + deep) ≤ ends inst sched
        row_end = elim (or_cases (mine j) (bars j) (only j (inl refl)).1) [
          | inl t ↦ let end = behind_own t in omega (arith, end)
          | inr t ↦ let end = behind_other t in omega (arith, end)
        ]

      row_ends : both_done inst turn cranes w (i ∷ is) (b ∷ bs) + extra + inst.travel * (far + deep) ≤ ends inst sched
      row_ends =
          let row = row_of starts_at lasts between starts_at (filter counts all) (λ j a. omega arith) all_clear in
          with_order row.order row.row (omega (arith, row.ticks, ticks_within, same_own, same_bars))
          (λ k low_k t. row.has k (among_filter counts all k (low_range k low_k) t))
          (λ k a. let r = filter_among counts all k (row.only k a) in (range_low k r.0, r.1))
        where
          with_order : (order : List ℕ) → Row starts_at lasts between starts_at order → needs ≤ sum_by lasts order
              → ((k : ℕ) → k < count → counts k ≡ true → Among order k)
              → ((k : ℕ) → Among order k → (k < count) × (counts k ≡ true))
              → both_done inst turn cranes w (i ∷ is) (b ∷ bs) + extra + inst.travel * (far + deep) ≤ ends inst sched
          with_order [] row ticks has only =
              absurd (has i (own_is i (inl refl)).0 (or_left (mine i) (bars i) (own_mine i (inl refl))))
          with_order (j ∷ js) row ticks has only = row_end j js row has only ticks

      stretch_time : Time (with_gone (both_done inst turn cranes w (i ∷ is) (b ∷ bs)))
      stretch_time = record {
        far = far;
        deep = deep;
        above = λ j low_j t.
            let most = e.most_bay j low_j (or_right (here j) (opens j) t) in
            let at = at_bay inst turn cranes sched valid g follows w j low_j in
            omega (arith, bays, most, at);
        below = λ j low_j t.
            let least = e.least_bay j low_j (or_right (here j) (opens j) t) in
            let at = at_bay inst turn cranes sched valid g follows w j low_j in
            omega (arith, bays, least, at);
        done = λ _. omega (arith, row_ends);
        fits = λ _. omega (arith, row_ends);
      }

  -- ---- all stretches

  both_time : (low high : ℤ) → ((j : ℕ) → j < count → is_none (crane_in cranes j) ≡ true → lies inst low high j ≡ true)
      → (is bs : List ℕ) → is ≡ filter (lies inst low high) (own inst cranes w) → bs ≡ barring inst cranes w low high
      → Time (with_gone (both_done inst turn cranes w is bs))
  both_time low high left_in [] bs own_is bars_is = less_time 0 (omega arith)
  both_time low high left_in (i ∷ is) [] own_is bars_is = less_time 0 (omega arith)
  both_time low high left_in (i ∷ is) (b ∷ bs) own_eq bars_eq =
      let first = is_here i (inl refl) in
      let within = and_parts (int_le low (bay_of inst i)) (int_le (bay_of inst i) high) (and_parts (is_own i) (lies inst low high i) first.1).1 in
      let from : low ≤ℤ bay_of inst i = record { le = true_T within.0 } in
      let to : bay_of inst i ≤ℤ high = record { le = true_T within.1 } in
      let up : low ≤ℤ high = omega (arith, ints, from, to) in
      stretch_time low high up left_in i is is_here b bs
      (λ k low_k t. subst (λ (ks : List ℕ). Among ks k) (sym bars_eq) (among_filter bars all k (low_range k low_k) t))
      (ap (ticks_over inst) own_eq ∙ twice (lies inst low high) is_own all)
      (ap (ticks_over inst) bars_eq)
      (ends_of low high up left_in i first.0 (or_left (here i) (opens i) first.1))
    where
      bars : ℕ → Bool
      bars j = option_map_or (λ v. is_barred inst w low high v (bay_of inst j)) (crane_in cranes j) false

      here : ℕ → Bool
      here j = is_own j && lies inst low high j

      is_here : (k : ℕ) → Among (i ∷ is) k → (k < count) × (here k ≡ true)
      is_here k a =
          let r = filter_among (lies inst low high) (own inst cranes w) k (subst (λ (ks : List ℕ). Among ks k) own_eq a) in
          let o = filter_among is_own all k r.0 in
          (range_low k o.0, and_from (is_own k) (lies inst low high k) o.1 r.1)

      twice : (p q : ℕ → Bool) (js : List ℕ) → ticks_over inst (filter p (filter q js)) ≡ ticks_over inst (filter (λ j. q j && p j) js)
      twice p q [] = refl
      twice p q (j ∷ js) =
          let rest = twice p q js in
          cond_both (q j) (j ∷ filter q js) (filter q js)
          (λ ks. ticks_over inst (filter p ks) ≡ ticks_over inst (filter (λ j. q j && p j) (j ∷ js)))
          (λ t. cond_both (p j) (j ∷ filter p (filter q js)) (filter p (filter q js))
          (λ ks. ticks_over inst ks ≡ ticks_over inst (filter (λ j. q j && p j) (j ∷ js)))
          (λ u. omega (
            arith,
            rest,
            sum_by-cons (ticks_of inst) j (filter p (filter q js)),
            sum_by-cons (ticks_of inst) j (filter (λ j. q j && p j) js),
            ap (λ b. ticks_over inst (cond b (j ∷ filter (λ j. q j && p j) js) (filter (λ j. q j && p j) js))) (and_from (q j) (p j) t u),
          ))
          (λ u. rest ∙ sym (ap (λ b. ticks_over inst (cond b (j ∷ filter (λ j. q j && p j) js) (filter (λ j. q j && p j) js))) (ap (λ b. b && p j) t ∙ u))))
          (λ t. rest ∙ sym (ap (λ b. ticks_over inst (cond (b && p j) (j ∷ filter (λ j. q j && p j) js) (filter (λ j. q j && p j) js))) t))

  done_time : (low high : ℤ) → Time (with_gone (done_in inst turn cranes w low high))
  done_time low high =
      let within = λ (j : ℕ). is_some (crane_in cranes j) || lies inst low high j in
      cond_both (list_all within all) _ 0 (λ n. Time (with_gone n))
      (λ t. both_time low high (λ j low_j none. left (crane_in cranes j) (lies inst low high j) none (all_at within all j (low_range j low_j) t)) _ _ refl refl)
      (λ _. less_time 0 (omega arith))
    where
      left : (o : Option ℕ) (b : Bool) → is_none o ≡ true → (is_some o || b) ≡ true → b ≡ true
      left None b none t = t
      left (Some k) b none t = absurd (false≢true none)

  -- the crane has the time for what it spends, and while neighbours bar its way
  pub barred_time : HasTime inst turn cranes sched valid g follows w (barred_frame inst turn cranes w)
  barred_time = by (greatest_among plain.gone (all_done inst turn cranes w (own_or_left inst cranes w)))
    where
      by : {n : ℕ} → Among (plain.gone ∷ all_done inst turn cranes w (own_or_left inst cranes w)) n → Time (with_gone n)
      by (inl e) = less_time _ (omega (arith, e))
      by (inr a) = among_done inst turn cranes w (λ n. Time (with_gone n)) done_time (own_or_left inst cranes w) _ a
