-- What code sums up for a stretch of a crane between its neighbours is what its frame says.
use Rattle.std.proofs.Common.{[], ◌≡◌, ℕ, zero, suc, ◌+◌, ◌-◌, ◌*◌, ◌^◌, ◌<◌, ◌≤◌, max, inl, inr, Bool, true, false, ◌&&◌, ◌||◌, eqb, leb, nat_lt, cond, List, ◌∷◌, length, get_or, filter, Option, None, Some, IfSome, is_none, is_some, ℤ, pos, ◌+ℤ◌, ◌≤ℤ◌, ◌<ℤ◌, int_le, int_lt, refl, ap, sym, subst, ◌∙◌, arith}
use Rattle.std.proofs.lemmas.Bool.{and_from, and_parts, cases_lt, cond-false, cond-true, cond_both, eq-eqb, eqb-true, le-leb, leb-true, lt-ltb, ltb-true, ne_eqb}
use Rattle.std.proofs.lemmas.Int.{ints}
use Rattle.std.specs.List.{list_all, range_with_len}
use Rattle.std.specs.Option.{option_map_or}
use Rattle.qc_close.specs.Model.{Direction, Up, Down, MOST_TASKS, Turn, crane_in, barring, both_done, done_in, is_barred, lies, soonest, own, InstanceView, IsOnRail, Valid, bay_of, task_numbers}
use Rattle.qc_model.proofs.LimitsOf.{limits_of}
use Rattle.qc_model.proofs.NodeLemmas.{T_true, true_T}
use Rattle.qc_close.specs.Bars.{IsGreatest, IsKnown, IsTable, sum_along, bars_before, bars_from, bars_of, done_by, in_row, joined, left_of, lie_in, own_in, own_between, row_before, row_between, row_from, next_spot, low_spot, high_spot, past_bars, stretch, swept_from, swept_to}
use Rattle.qc_close.specs.Owns.{IsSmall, own_of}
use Rattle.qc_close.specs.Spots.{AreSpots, spot_bay}
use Rattle.qc_close.specs.declared.barred.Place.{Place}
use Rattle.qc_close.specs.declared.bars.Bars.{Bars}
use Rattle.qc_close.specs.declared.bars.Table.{Table}
use Rattle.qc_close.specs.declared.bars.TheConstants.{NEVER}
use Rattle.qc_close.specs.declared.frames.Own.{Own}
use Rattle.qc_close.specs.declared.spots.Spots.{Spots}
use Rattle.qc_close.proofs.BarLemmas.{bars_low, bars_split, both_same, filter_same, filter_twice, lie_all, own_in_is, own_small, same_test, soonest_low, sum_before_is, sum_from_is}
use Rattle.qc_close.proofs.Members.{Among, filter_among, range_among}
use Rattle.qc_close.proofs.OwnLemmas.{some_small}
use Rattle.qc_close.proofs.SpotLemmas.{rises, rises_back, spot_at}

module _ (inst : InstanceView) (valid : Valid inst) (cranes : List (Option ℕ)) (s : Spots) (known : AreSpots inst s) where
  abbrev bays : List ℤ
  bays = s.bays.items

  abbrev spots : List ℕ
  spots = s.of_task.items

  abbrev all : List ℕ
  all = task_numbers inst

  abbrev spot : ℕ → ℕ
  spot j = get_or spots j 0

  abbrev x : ℕ → ℤ
  x k = spot_bay bays k

  in_all : (j : ℕ) → Among all j → j < length inst.tasks
  in_all j a = omega (arith, (range_among j 0 (length inst.tasks) a).1)

  at : (j : ℕ) → j < length inst.tasks → (spot j < length bays) × (x (spot j) ≡ bay_of inst j)
  at j low = spot_at inst bays known.bays j (spot j) low (known.of_task.each j low)

  pub spot_low : (j : ℕ) → j < length inst.tasks → spot j < length bays
  spot_low j low = (at j low).0

  -- ---- own tasks that lie at some spots

  on_rail : (j : ℕ) → j < length inst.tasks → IsOnRail (bay_of inst j)
  on_rail j low =
      let on_ship = valid.tasks.bays j low in
      let most = (limits_of inst valid).bays.1 in
      (omega (arith, ints, on_ship.0), omega (arith, ints, on_ship.1, most))

  few : (p : ℕ → Bool) (a n : ℕ) → length (filter p (range_with_len a n)) ≤ n
  few p a zero = omega arith
  few p a (suc n) =
      cond_both (p a) (a ∷ filter p (range_with_len (a + 1) n)) (filter p (range_with_len (a + 1) n)) (λ js. length js ≤ suc n)
      (λ _. omega (arith, few p (a + 1) n)) (λ _. omega (arith, few p (a + 1) n))

  pub own_low : (p : ℕ → Bool) → IfSome (own_of inst (filter p all)) (IsSmall MOST_TASKS)
  own_low p =
      some_small (length (filter p all)) MOST_TASKS (own_of inst (filter p all))
      (omega (arith, few p 0 (length inst.tasks), valid.tasks.count))
      (own_small inst valid (filter p all) (λ k a.
      let low = in_all k (filter_among p all k a).0 in (low, on_rail k low)))

  -- summed up in a row
  pub sum_own : (p : ℕ → Bool) → own_in (bars_of inst cranes (filter p all)) ≡ own_of inst (filter p all)
  sum_own p =
      own_in_is inst cranes (filter p all) (λ j a.
      let low = in_all j (filter_among p all j a).0 in (valid.tasks.ticks j low, on_rail j low))

  -- all of a crane's
  pub whole_own : (t : Table) → IsTable inst cranes s t → (w : ℕ) → w < length inst.cranes
      → own_in (sum_along Down t w 0 0) ≡ own_of inst (own inst cranes w)
  whole_own t table w low_w =
      let row : w + 1 < 10 = omega (arith, low_w, valid.cranes.count.1) in
      let few_spots : length bays ≤ 240 = known.bays.along.few in
      ap own_in (table.froms.each (w + 1) 0 row (omega arith) tt
      ∙ sum_from_is inst cranes spots t.grid.items table.cells (w + 1) row 0 (length bays - 0) (omega (arith, few_spots))
      (λ j low_j. omega (arith, spot_low j low_j)))
      ∙ sum_own (row_from cranes spots (w + 1) 0)
      ∙ ap (own_of inst) (filter_same (row_from cranes spots (w + 1) 0) (λ j. option_map_or (λ k. eqb k w) (crane_in cranes j) false) all
      (λ j a. by (crane_in cranes j) (spot j)))
    where
      by : (o : Option ℕ) (n : ℕ) → (option_map_or (λ v. eqb (v + 1) (w + 1)) o false && leb 0 n) ≡ option_map_or (λ k. eqb k w) o false
      by None n = refl
      by (Some v) n = same_test _ _
          (λ t. eq-eqb v w (omega (arith, eqb-true (v + 1) (w + 1) (and_parts (eqb (v + 1) (w + 1)) (leb 0 n) t).0)))
          (λ t. and_from (eqb (v + 1) (w + 1)) (leb 0 n) (eq-eqb (v + 1) (w + 1) (omega (arith, eqb-true v w t))) (le-leb 0 n (omega arith)))

  -- those of a row before a spot, and from a spot on, where none lie before the first spot, and none behind the last
  pub own_before : (w first k : ℕ) → ((j : ℕ) → j < length inst.tasks → in_row cranes (w + 1) j ≡ true → first ≤ spot j)
      → own_of inst (filter (row_before cranes spots (w + 1) k) all) ≡ own_between inst cranes spots w first k
  own_before w first k from =
      ap (own_of inst) (filter_same (row_before cranes spots (w + 1) k) (row_between cranes spots (w + 1) first k) all
      (λ j a. by (in_row cranes (w + 1) j) (spot j) (from j (in_all j a))))
    where
      by : (b : Bool) (n : ℕ) → (b ≡ true → first ≤ n) → (b && nat_lt n k) ≡ (b && (leb first n && nat_lt n k))
      by false n h = refl
      by true n h = sym (ap (λ c. c && nat_lt n k) (le-leb first n (h refl)))

  pub own_from : (w k last : ℕ) → ((j : ℕ) → j < length inst.tasks → in_row cranes (w + 1) j ≡ true → spot j ≤ last)
      → own_of inst (filter (row_from cranes spots (w + 1) k) all) ≡ own_between inst cranes spots w k (last + 1)
  own_from w k last to =
      ap (own_of inst) (filter_same (row_from cranes spots (w + 1) k) (row_between cranes spots (w + 1) k (last + 1)) all
      (λ j a. by (in_row cranes (w + 1) j) (spot j) (to j (in_all j a))))
    where
      and_true : (b : Bool) → (b && true) ≡ b
      and_true true = refl
      and_true false = refl

      by : (b : Bool) (n : ℕ) → (b ≡ true → n ≤ last) → (b && leb k n) ≡ (b && (leb k n && nat_lt n (last + 1)))
      by false n h = refl
      by true n h = sym (ap (λ c. leb k n && c) (lt-ltb n (last + 1) (omega (arith, h refl))) ∙ and_true (leb k n))

  -- ---- one stretch

  module _ (w low high : ℕ) (order : low ≤ high) (within : high < length bays) where
    low_in : low < length bays
    low_in = omega (arith, order, within)

    -- the tests by bays are those by spots
    lies_same : (j : ℕ) → j < length inst.tasks → lies inst (x low) (x high) j ≡ (leb low (spot j) && nat_lt (spot j) (high + 1))
    lies_same j low_j = same_test _ _
        (λ t.
        let both = and_parts (int_le (x low) (bay_of inst j)) (int_le (bay_of inst j) (x high)) t in
        let from : x low ≤ℤ bay_of inst j = record { le = true_T both.0 } in
        let to : bay_of inst j ≤ℤ x high = record { le = true_T both.1 } in
        let is = (at j low_j).1 in
        let one = rises_back inst bays known.bays low (spot j) low_in (omega (arith, ints, from, is)) in
        let two = rises_back inst bays known.bays (spot j) high (at j low_j).0 (omega (arith, ints, to, is)) in
        and_from (leb low (spot j)) (nat_lt (spot j) (high + 1)) (le-leb low (spot j) one) (lt-ltb (spot j) (high + 1) (omega (arith, two))))
        (λ t.
        let both = and_parts (leb low (spot j)) (nat_lt (spot j) (high + 1)) t in
        let is = (at j low_j).1 in
        let one = rises inst bays known.bays low (spot j) (leb-true low (spot j) both.0) (at j low_j).0 in
        let two = rises inst bays known.bays (spot j) high (omega (arith, ltb-true (spot j) (high + 1) both.1)) within in
        let from : x low ≤ℤ bay_of inst j = omega (arith, ints, one, is) in
        let to : bay_of inst j ≤ℤ x high = omega (arith, ints, two, is) in
        and_from (int_le (x low) (bay_of inst j)) (int_le (bay_of inst j) (x high)) (T_true from.le) (T_true to.le))

    above_same : (j : ℕ) → j < length inst.tasks
        → int_lt (bay_of inst j) (x low +ℤ pos inst.gap) ≡ nat_lt (spot j) (get_or s.near_to.items low 0)
    above_same j low_j =
        let count = known.near_to.each low low_in in
        let is = (at j low_j).1 in
        same_test _ _
        (λ t. elim (cases_lt (spot j) (get_or s.near_to.items low 0)) [
          | inl less ↦ lt-ltb (spot j) (get_or s.near_to.items low 0) less
          | inr more ↦
              let far = count.behind (spot j) more (at j low_j).0 in
              let near : bay_of inst j <ℤ (x low +ℤ pos inst.gap) = record { lt = true_T t } in
              absurd (omega (arith, ints, far, near, is))
        ])
        (λ t.
        let before = count.before (spot j) (ltb-true (spot j) (get_or s.near_to.items low 0) t) in
        let near : bay_of inst j <ℤ (x low +ℤ pos inst.gap) = omega (arith, ints, before, is) in
        T_true near.lt)

    below_same : (j : ℕ) → j < length inst.tasks
        → int_lt (x high) (bay_of inst j +ℤ pos inst.gap) ≡ leb (get_or s.near_from.items high 0) (spot j)
    below_same j low_j =
        let count = known.near_from.each high within in
        let is = (at j low_j).1 in
        same_test _ _
        (λ t. elim (cases_lt (spot j) (get_or s.near_from.items high 0)) [
          | inl less ↦
              let far = count.before (spot j) less in
              let near : x high <ℤ (bay_of inst j +ℤ pos inst.gap) = record { lt = true_T t } in
              absurd (omega (arith, ints, far, near, is))
          | inr more ↦ le-leb (get_or s.near_from.items high 0) (spot j) more
        ])
        (λ t.
        let behind = count.behind (spot j) (leb-true (get_or s.near_from.items high 0) (spot j) t) (at j low_j).0 in
        let near : x high <ℤ (bay_of inst j +ℤ pos inst.gap) = omega (arith, ints, behind, is) in
        T_true near.lt)

    eqb_next : (a b : ℕ) → eqb (a + 1) (b + 1) ≡ eqb a b
    eqb_next a b = same_test _ _
        (λ t. let e = eqb-true (a + 1) (b + 1) t in eq-eqb a b (omega (arith, e)))
        (λ t. let e = eqb-true a b t in eq-eqb (a + 1) (b + 1) (omega (arith, e)))

    eqb_two : (a b : ℕ) → eqb (a + 1) (b + 2) ≡ eqb a (b + 1)
    eqb_two a b = same_test _ _
        (λ t. let e = eqb-true (a + 1) (b + 2) t in eq-eqb a (b + 1) (omega (arith, e)))
        (λ t. let e = eqb-true a (b + 1) t in eq-eqb (a + 1) (b + 2) (omega (arith, e)))

    -- the crane's own tasks
    own_is : own_of inst (filter (lies inst (x low) (x high)) (own inst cranes w)) ≡ own_between inst cranes spots w low (high + 1)
    own_is =
        ap (own_of inst)
        (filter_twice (lies inst (x low) (x high)) (λ j. option_map_or (λ k. eqb k w) (crane_in cranes j) false) all
        ∙ filter_same _ (row_between cranes spots (w + 1) low (high + 1)) all
        (λ j a. by (crane_in cranes j) (lies inst (x low) (x high) j) ∙ ap (λ b. in_row cranes (w + 1) j && b) (lies_same j (in_all j a))))
      where
        by : (o : Option ℕ) (b : Bool) → (option_map_or (λ k. eqb k w) o false && b) ≡ (option_map_or (λ k. eqb (k + 1) (w + 1)) o false && b)
        by None b = refl
        by (Some k) b = ap (λ c. c && b) (sym (eqb_next k w))

    -- those that bar it
    barring_is : bars_of inst cranes (barring inst cranes w (x low) (x high))
        ≡ joined (bars_before inst cranes spots (w + 2) (get_or s.near_to.items low 0)) (bars_from inst cranes spots w (get_or s.near_from.items high 0))
    barring_is =
        bars_split inst cranes (row_before cranes spots (w + 2) (get_or s.near_to.items low 0)) (row_from cranes spots w (get_or s.near_from.items high 0))
        (λ j. option_map_or (λ v. is_barred inst w (x low) (x high) v (bay_of inst j)) (crane_in cranes j) false) all
        (λ j a. (
          by (crane_in cranes j) (int_lt (bay_of inst j) (x low +ℤ pos inst.gap)) (int_lt (x high) (bay_of inst j +ℤ pos inst.gap))
              (nat_lt (spot j) (get_or s.near_to.items low 0)) (leb (get_or s.near_from.items high 0) (spot j))
              (above_same j (in_all j a)) (below_same j (in_all j a)),
          apart (crane_in cranes j) (nat_lt (spot j) (get_or s.near_to.items low 0)) (leb (get_or s.near_from.items high 0) (spot j)),
        ))
      where
        by : (o : Option ℕ) (a b c d : Bool) → a ≡ c → b ≡ d
            → option_map_or (λ v. (eqb v (w + 1) && a) || (eqb (v + 1) w && b)) o false
            ≡ ((option_map_or (λ v. eqb (v + 1) (w + 2)) o false && c) || (option_map_or (λ v. eqb (v + 1) w) o false && d))
        by None a b c d e f = refl
        by (Some v) a b c d e f =
            ap (λ t. (eqb v (w + 1) && t) || (eqb (v + 1) w && b)) e
            ∙ ap (λ t. (eqb v (w + 1) && c) || (eqb (v + 1) w && t)) f
            ∙ ap (λ t. (t && c) || (eqb (v + 1) w && d)) (sym (eqb_two v w))

        apart : (o : Option ℕ) (c d : Bool) → (option_map_or (λ v. eqb (v + 1) (w + 2)) o false && c) ≡ true
            → (option_map_or (λ v. eqb (v + 1) w) o false && d) ≡ false
        apart None c d t = refl
        apart (Some v) c d t =
            let e = eqb-true (v + 1) (w + 2) (and_parts (eqb (v + 1) (w + 2)) c t).0 in
            ap (λ b. b && d) (ne_eqb (v + 1) w (λ f. omega (arith, e, f)))

    -- tasks that no crane has
    left_is : list_all (λ j. is_some (crane_in cranes j) || lies inst (x low) (x high) j) all ≡ lie_in (own_of inst (left_of inst cranes)) (x low) (x high)
    left_is = split all ∙ lie_all inst (x low) (x high) (left_of inst cranes)
      where
        by : (o : Option ℕ) (b c : Bool) (js ks : List ℕ) (p : ℕ → Bool) (j : ℕ) → p j ≡ b → c ≡ list_all p ks
            → ((is_some o || b) && c) ≡ list_all p (cond (is_none o) (j ∷ ks) ks)
        by None b c js ks p j e f = ap (λ t. t && c) (sym e) ∙ ap (λ t. p j && t) f
        by (Some k) b c js ks p j e f = f

        split : (js : List ℕ) → list_all (λ j. is_some (crane_in cranes j) || lies inst (x low) (x high) j) js
            ≡ list_all (lies inst (x low) (x high)) (filter (λ j. is_none (crane_in cranes j)) js)
        split [] = refl
        split (j ∷ js) =
            by (crane_in cranes j) (lies inst (x low) (x high) j) _ js (filter (λ j. is_none (crane_in cranes j)) js) (lies inst (x low) (x high)) j refl (split js)

    pub done_is : ((j : ℕ) → soonest inst cranes j ≤ NEVER) → (turn : Turn)
        → done_in inst turn cranes w (x low) (x high)
        ≡ cond (lie_in (own_of inst (left_of inst cranes)) (x low) (x high))
        (done_by inst turn w (own_between inst cranes spots w low (high + 1))
        (joined (bars_before inst cranes spots (w + 2) (get_or s.near_to.items low 0)) (bars_from inst cranes spots w (get_or s.near_from.items high 0)))) 0
    done_is soon turn =
        ap (λ b. cond b (both_done inst turn cranes w (filter (lies inst (x low) (x high)) (own inst cranes w)) (barring inst cranes w (x low) (x high))) 0) left_is
        ∙ ap (λ n. cond (lie_in (own_of inst (left_of inst cranes)) (x low) (x high)) n 0)
        (sym (both_same inst cranes soon turn w (filter (lies inst (x low) (x high)) (own inst cranes w)) (barring inst cranes w (x low) (x high))
        (λ j a. valid.tasks.ticks j (in_all j (filter_among (λ j. option_map_or (λ v. is_barred inst w (x low) (x high) v (bay_of inst j)) (crane_in cranes j) false) all j a).0)))
        ∙ ap (λ o. done_by inst turn w o (bars_of inst cranes (barring inst cranes w (x low) (x high)))) own_is
        ∙ ap (done_by inst turn w (own_between inst cranes spots w low (high + 1))) barring_is)

module _ (inst : InstanceView) (cranes : List (Option ℕ)) (s : Spots) (t : Table) (p : Place) (k : IsKnown inst cranes s t p)
    (low high : ℕ) (order : low ≤ high) (within : high < length s.bays.items) where
  abbrev upper : ℕ
  upper = get_or s.near_to.items low 0

  abbrev lower : ℕ
  lower = get_or s.near_from.items high 0

  upper_in : upper ≤ length s.bays.items
  upper_in = (k.spots.near_to.each low (omega (arith, order, within))).within

  lower_in : lower ≤ length s.bays.items
  lower_in = (k.spots.near_from.each high within).within

  few_spots : length s.bays.items ≤ 240
  few_spots = k.spots.bays.along.few

  abbrev pub above : ℕ → Bars
  above n = get_or t.before.items (241 * (p.crane + 2) + n) past_bars

  abbrev pub below : ℕ → Bars
  below n = get_or t.from.items (241 * p.crane + n) past_bars

  above_is : above upper ≡ bars_before inst cranes s.of_task.items (p.crane + 2) upper
  above_is =
      let row : p.crane + 2 < 10 = omega (arith, k.crane, k.valid.cranes.count.1) in
      k.table.befores.each (p.crane + 2) upper row upper_in tt
      ∙ sum_before_is inst cranes s.of_task.items t.grid.items k.table.cells (p.crane + 2) row upper (omega (arith, upper_in, few_spots))

  below_is : below lower ≡ bars_from inst cranes s.of_task.items p.crane lower
  below_is =
      let row : p.crane < 10 = omega (arith, k.crane, k.valid.cranes.count.1) in
      k.table.froms.each p.crane lower row lower_in tt
      ∙ sum_from_is inst cranes s.of_task.items t.grid.items k.table.cells p.crane row lower (length s.bays.items - lower) (omega (arith, lower_in, few_spots))
      (λ j low_j. omega (arith, spot_low inst k.valid cranes s k.spots j low_j, lower_in))

  pub upper_low : (n : ℕ) → n ≡ upper → 241 * (p.crane + 2) + n < length t.before.items
  upper_low n is = omega (arith, is, upper_in, few_spots, k.crane, k.valid.cranes.count.1, k.table.befores.many)

  pub lower_low : (n : ℕ) → n ≡ lower → 241 * p.crane + n < length t.from.items
  lower_low n is = omega (arith, is, lower_in, few_spots, k.crane, k.valid.cranes.count.1, k.table.froms.many)

  pub above_low : (n : ℕ) → n ≡ upper → (above n).ticks < 2 ^ 38
  above_low n is =
      let same = ap (λ n. (above n).ticks) is in
      let low_ticks = bars_low inst cranes k.valid (row_before cranes s.of_task.items (p.crane + 2) upper) in
      omega (arith, same, ap (λ (b : Bars). b.ticks) above_is, low_ticks)

  pub below_low : (n : ℕ) → n ≡ lower → (below n).ticks < 2 ^ 38
  below_low n is =
      let same = ap (λ n. (below n).ticks) is in
      let low_ticks = bars_low inst cranes k.valid (row_from cranes s.of_task.items p.crane lower) in
      omega (arith, same, ap (λ (b : Bars). b.ticks) below_is, low_ticks)

  pub above_soon : (n : ℕ) → n ≡ upper → (above n).soonest ≤ NEVER
  above_soon n is =
      let same = ap (λ n. (above n).soonest) is in
      let soon = soonest_low inst cranes (filter (row_before cranes s.of_task.items (p.crane + 2) upper) (task_numbers inst)) in
      omega (arith, same, ap (λ (b : Bars). b.soonest) above_is, soon)

  whole : (turn : Turn) → done_in inst turn cranes p.crane (spot_bay s.bays.items low) (spot_bay s.bays.items high)
      ≡ cond (lie_in p.left (spot_bay s.bays.items low) (spot_bay s.bays.items high))
      (done_by inst turn p.crane (own_between inst cranes s.of_task.items p.crane low (high + 1))
      (joined (above upper) (below lower))) 0
  whole turn =
      let own = own_between inst cranes s.of_task.items p.crane low (high + 1) in
      let a = spot_bay s.bays.items low in
      let b = spot_bay s.bays.items high in
      done_is inst k.valid cranes s k.spots p.crane low high order within k.table.soon turn
      ∙ ap (λ o. cond (lie_in o a b) (done_by inst turn p.crane own (joined (bars_before inst cranes s.of_task.items (p.crane + 2) upper) (bars_from inst cranes s.of_task.items p.crane lower))) 0) (sym k.left)
      ∙ ap (λ v. cond (lie_in p.left a b) (done_by inst turn p.crane own (joined v (bars_from inst cranes s.of_task.items p.crane lower))) 0) (sym above_is)
      ∙ ap (λ v. cond (lie_in p.left a b) (done_by inst turn p.crane own (joined (above upper) v)) 0) (sym below_is)

  module _ (turn : Turn) (a b : ℤ) (a_is : a ≡ spot_bay s.bays.items low) (b_is : b ≡ spot_bay s.bays.items high) (c : Bool)
      (c_is : c ≡ lie_in p.left a b) where
    test : c ≡ lie_in p.left (spot_bay s.bays.items low) (spot_bay s.bays.items high)
    test = c_is ∙ ap (λ y. lie_in p.left y b) a_is ∙ ap (lie_in p.left (spot_bay s.bays.items low)) b_is

    pub done_outside : c ≡ false → 0 ≡ done_in inst turn cranes p.crane (spot_bay s.bays.items low) (spot_bay s.bays.items high)
    done_outside f =
        sym (whole turn ∙ cond-false (lie_in p.left (spot_bay s.bays.items low) (spot_bay s.bays.items high)) _ 0 (sym test ∙ f))

    pub done_inside : c ≡ true → (n m : ℕ) → n ≡ upper → m ≡ lower → (own : Option Own)
        → own ≡ own_between inst cranes s.of_task.items p.crane low (high + 1) → (one two : Bars) → one ≡ above n → two ≡ below m
        → (both : Bars) → both ≡ joined one two
        → done_by inst turn p.crane own both
        ≡ done_in inst turn cranes p.crane (spot_bay s.bays.items low) (spot_bay s.bays.items high)
    done_inside inside n m n_is m_is own own_eq one two one_is two_is both both_eq =
        ap (λ o. done_by inst turn p.crane o both) own_eq
        ∙ ap (done_by inst turn p.crane (own_between inst cranes s.of_task.items p.crane low (high + 1)))
        (both_eq ∙ ap (λ v. joined v two) one_is ∙ ap (joined (above n)) two_is
        ∙ ap (λ i. joined (above i) (below m)) n_is
        ∙ ap (λ i. joined (above upper) (below i)) m_is)
        ∙ sym (whole turn ∙ cond-true (lie_in p.left (spot_bay s.bays.items low) (spot_bay s.bays.items high)) _ 0 (sym test ∙ inside))

  pub small_between : (own : Option Own) → own ≡ own_between inst cranes s.of_task.items p.crane low (high + 1)
      → IfSome own (IsSmall MOST_TASKS)
  small_between own e =
      subst (λ (o : Option Own). IfSome o (IsSmall MOST_TASKS)) (sym e)
      (own_low inst k.valid cranes s k.spots (row_between cranes s.of_task.items (p.crane + 1) low (high + 1)))

-- ---- the greatest of stretches

greatest_up : (f : ℕ → ℕ) (from to start n : ℕ) → from ≤ to → IsGreatest f from to start n
    → IsGreatest f from (to + 1) start (max n (f to))
greatest_up f from to start n order g = record {
  least = omega (arith, g.least);
  each = λ k up down. elim (cases_lt k to) [
    | inl less ↦ omega (arith, g.each k up less)
    | inr more ↦ let e : k ≡ to = omega arith in omega (arith, ap f e)
  ];
  some = λ most le h. omega (arith, g.some most le (λ k up down. h k up (omega arith)), h to order (omega arith));
}

greatest_down : (f : ℕ → ℕ) (from to start n : ℕ) → from < to → IsGreatest f (from + 1) to start n
    → IsGreatest f from to start (max n (f from))
greatest_down f from to start n order g = record {
  least = omega (arith, g.least);
  each = λ k up down. elim (cases_lt from k) [
    | inl less ↦ omega (arith, g.each k (omega arith) down)
    | inr more ↦ let e : k ≡ from = omega arith in omega (arith, ap f e)
  ];
  some = λ most le h. omega (arith, g.some most le (λ k up down. h k (omega arith) down), h from (omega arith) order);
}

module _ (inst : InstanceView) (valid : Valid inst) (cranes : List (Option ℕ)) (s : Spots) (p : Place)
    (t : Table) (known : IsKnown inst cranes s t p) (steps : ℕ) (low : steps < p.last - p.first + 1) where
  -- with one stretch more
  pub sweep_greatest : (turn : Turn) (way : Direction) (start n : ℕ)
      → IsGreatest (stretch inst turn cranes s p way) (swept_from way p steps) (swept_to way p steps) start n
      → IsGreatest (stretch inst turn cranes s p way) (swept_from way p (steps + 1)) (swept_to way p (steps + 1)) start
      (max n (stretch inst turn cranes s p way (next_spot way p steps)))
  sweep_greatest turn Up start n g =
      let to : p.first + steps + 1 ≡ p.first + (steps + 1) = omega arith in
      subst (λ (k : ℕ). IsGreatest (stretch inst turn cranes s p Up) p.first k start (max n (stretch inst turn cranes s p Up (p.first + steps)))) to
      (greatest_up (stretch inst turn cranes s p Up) p.first (p.first + steps) start n (omega arith) g)
  sweep_greatest turn Down start n g =
      let from : p.last + 1 - steps ≡ p.last - steps + 1 = omega (arith, known.order) in
      let after : p.last - steps ≡ p.last + 1 - (steps + 1) = omega (arith, known.order) in
      subst (λ (k : ℕ). IsGreatest (stretch inst turn cranes s p Down) k (p.last + 1) start (max n (stretch inst turn cranes s p Down (p.last - steps)))) after
      (greatest_down (stretch inst turn cranes s p Down) (p.last - steps) (p.last + 1) start n (omega arith)
      (subst (λ (k : ℕ). IsGreatest (stretch inst turn cranes s p Down) k (p.last + 1) start n) from g))

-- the spots of the next stretch
module _ (p : Place) (steps : ℕ) (low : steps < p.last - p.first + 1) (order : p.first ≤ p.last) where
  pub spots_order : (way : Direction) → low_spot way p steps ≤ high_spot way p steps
  spots_order Up = omega arith
  spots_order Down = omega arith

  pub high_in : (way : Direction) → high_spot way p steps ≤ p.last
  high_in Up = omega (arith, low, order)
  high_in Down = omega arith

  pub stretch_is : (way : Direction) (inst : InstanceView) (turn : Turn) (cranes : List (Option ℕ)) (s : Spots)
      → stretch inst turn cranes s p way (next_spot way p steps)
      ≡ done_in inst turn cranes p.crane (spot_bay s.bays.items (low_spot way p steps)) (spot_bay s.bays.items (high_spot way p steps))
  stretch_is Up inst turn cranes s = refl
  stretch_is Down inst turn cranes s = refl

-- where it ends
pub swept_all : (way : Direction) (p : Place) → p.first ≤ p.last → (f : ℕ → ℕ) (start n steps : ℕ) → steps ≡ p.last - p.first + 1
    → IsGreatest f (swept_from way p steps) (swept_to way p steps) start n → IsGreatest f p.first (p.last + 1) start n
swept_all Up p order f start n steps is g =
    let e : p.first + steps ≡ p.last + 1 = omega (arith, order, is) in
    subst (λ (k : ℕ). IsGreatest f p.first k start n) e g
swept_all Down p order f start n steps is g =
    let e : p.last + 1 - steps ≡ p.first = omega (arith, order, is) in
    subst (λ (k : ℕ). IsGreatest f k (p.last + 1) start n) e g
