-- What is counted from both ends says whether some numbers of cranes serve; and what can't be done by a tick can't be
-- done by an earlier one.
use Rattle.std.proofs.Common.{[], ◌≡◌, ℕ, ◌+◌, ◌-◌, ◌*◌, ◌/◌, ◌<◌, ◌≤◌, inl, inr, true, false, not, ◌&&◌, List, ◌∷◌, length, map, reverse, get_or, nat_lt, leb, Option, None, Some, refl, ap, sym, subst, ◌∙◌, arith, sum, sum_by}
use Rattle.std.proofs.Math.Nat.{dvd-mul_left, mul-le-mul_left, mul-zero, mul_comm}
use Rattle.std.proofs.lemmas.Bool.{and_from, and_parts, cases_Bool, leb-true, le-leb, lt-ltb, ltb-true, not-true, not_from_false, or_cases, or_left, or_right, false≢true, false_from_ne_true}
use Rattle.std.proofs.lemmas.List.{length-reverse}
use Rattle.std.proofs.lemmas.List.Sums.{sum-map, sum_by-le-sum_by}
use Rattle.std.specs.List.{list_any, range_with_len}
use Rattle.qc_close.specs.Model.{Direction, Up, Down, Frame, Try, along, bays_to, first, has_room, is_served, is_short, last_before, legs, lists_to, load, most, numbers, room, suffices}
use Rattle.qc_close.specs.Counts.{AreNumbers, IsWalked, IsStop, NoneSuffice, Suffice, bays_of, try_by}
use Rattle.qc_close.specs.declared.walk.Stop.{Stop}
use Rattle.qc_close.specs.declared.walk.Walk.{Walk}
use Rattle.qc_close.proofs.GrainLemmas.{multiple_to}
use Rattle.qc_close.proofs.Members.{Among, among_filter, among_flat, among_map, among_range, any_at, any_from, filter_among, flat_among, map_among, range_among}
use Rattle.qc_close.proofs.SumLemmas.{most_le}

-- ---- numbers that are tried

among_numbers : (most : ℕ) (xs ns : List ℕ) → Among (lists_to most (length xs)) ns → AreNumbers most xs ns
among_numbers most [] ns (inl e) = subst (AreNumbers most []) e tt
among_numbers most [] ns (inr a) = absurd a
among_numbers most (x ∷ xs) ns a =
    let r = flat_among (λ ks. map (λ n. n ∷ ks) (range_with_len 0 (most + 1))) (lists_to most (length xs)) ns a in
    let m = map_among (λ n. n ∷ r.0) (range_with_len 0 (most + 1)) ns r.2 in
    subst (AreNumbers most (x ∷ xs)) m.2
    (omega (arith, (range_among m.0 0 (most + 1) m.1).1), among_numbers most xs r.0 r.1)

numbers_among : (most : ℕ) (xs ns : List ℕ) → AreNumbers most xs ns → Among (lists_to most (length xs)) ns
numbers_among most [] [] a = inl refl
numbers_among most [] (n ∷ ns) a = absurd a
numbers_among most (x ∷ xs) [] a = absurd a
numbers_among most (x ∷ xs) (n ∷ ns) a =
    among_flat (λ ks. map (λ n. n ∷ ks) (range_with_len 0 (most + 1))) (lists_to most (length xs)) ns (n ∷ ns)
    (numbers_among most xs ns a.1)
    (among_map (λ n. n ∷ ns) (range_with_len 0 (most + 1)) n (among_range n 0 (most + 1) (omega arith) (omega (arith, a.0))))

as_many : (t : Try) (way : Direction) → length (along t way) ≡ length t.bays
as_many t Up = refl
as_many t Down = length-reverse t.bays

suffice_of : (t : Try) (way : Direction) (ns : List ℕ) → Among (numbers t way) ns → Suffice t way (along t way) ns
suffice_of t way ns a =
    let r = filter_among (suffices t way (along t way)) (lists_to (length t.frames) (length t.bays)) ns a in
    record {
      numbers = among_numbers (length t.frames) (along t way) ns
          (subst (λ (n : ℕ). Among (lists_to (length t.frames) n) ns) (sym (as_many t way)) r.0);
      suffice = r.1;
    }

of_suffice : (t : Try) (way : Direction) (ns : List ℕ) → Suffice t way (along t way) ns → Among (numbers t way) ns
of_suffice t way ns s =
    among_filter (suffices t way (along t way)) (lists_to (length t.frames) (length t.bays)) ns
    (subst (λ (n : ℕ). Among (lists_to (length t.frames) n) ns) (as_many t way)
    (numbers_among (length t.frames) (along t way) ns s.numbers))
    s.suffice

-- ---- from both ends

pub none_up : (t : Try) → NoneSuffice t Up (along t Up) → is_served t ≡ false
none_up t none = false_from_ne_true (is_served t) (λ served.
    let r = any_at (λ ns. list_any (has_room t ns) (numbers t Down)) (numbers t Up) served in
    none r.0 (suffice_of t Up r.0 r.1))

pub none_down : (t : Try) → NoneSuffice t Down (along t Down) → is_served t ≡ false
none_down t none = false_from_ne_true (is_served t) (λ served.
    let r = any_at (λ ns. list_any (has_room t ns) (numbers t Down)) (numbers t Up) served in
    let q = any_at (has_room t r.0) (numbers t Down) r.2 in
    none q.0 (suffice_of t Down q.0 q.1))

stop_first : (stop : Stop) (xs ns : List ℕ) → IsStop (Some stop) xs ns → stop.bay ≡ get_or xs 0 0
stop_first stop [] ns s = absurd s
stop_first stop (x ∷ xs) [] s = absurd s
stop_first stop (x ∷ xs) (n ∷ ns) s = s.0

no_stop : (xs ns : List ℕ) → IsStop None xs ns → length xs ≡ 0
no_stop [] ns s = refl
no_stop (x ∷ xs) ns s = absurd s

nil_of : (xs : List ℕ) → length xs ≡ 0 → xs ≡ []
nil_of [] e = refl
nil_of (x ∷ xs) e = absurd (omega arith)

module _ (t : Try) (up down : Walk) (u : IsWalked t Up (along t Up) up) (d : IsWalked t Down (along t Down) down) where
  abbrev rooms : ℕ
  rooms = sum (map (λ f. room t (bays_to Up f (first t Up) + bays_to Down f (first t Down)) f) t.frames)

  abbrev needed : List ℕ → List ℕ → ℕ
  needed ns ms = sum_by t.work t.bays + t.travel * (legs t Up (along t Up) ns + legs t Down (along t Down) ms)

  -- the least numbers serve where any do
  served_by : is_served t ≡ has_room t u.numbers d.numbers
  served_by = elim (cases_Bool (has_room t u.numbers d.numbers)) [
    | inl passes ↦
        any_from (λ ns. list_any (has_room t ns) (numbers t Down)) (numbers t Up) u.numbers (of_suffice t Up u.numbers u.sufficient)
        (any_from (has_room t u.numbers) (numbers t Down) d.numbers (of_suffice t Down d.numbers d.sufficient) passes)
        ∙ sym passes
    | inr fails ↦ false_from_ne_true (is_served t) (λ served. false≢true (sym fails ∙ least served)) ∙ sym fails
  ]
    where
      least : is_served t ≡ true → has_room t u.numbers d.numbers ≡ true
      least served =
          let r = any_at (λ ns. list_any (has_room t ns) (numbers t Down)) (numbers t Up) served in
          let q = any_at (has_room t r.0) (numbers t Down) r.2 in
          let less_up = (u.least r.0 (suffice_of t Up r.0 r.1)).0 in
          let less_down = (d.least q.0 (suffice_of t Down q.0 q.1)).0 in
          let less : legs t Up (along t Up) u.numbers + legs t Down (along t Down) d.numbers
          ≤ legs t Up (along t Up) r.0 + legs t Down (along t Down) q.0 = omega (arith, less_up, less_down) in
          le-leb (needed u.numbers d.numbers) rooms
          (omega (arith, leb-true (needed r.0 q.0) rooms q.2, mul-le-mul_left t.travel less))

  pub both_stop : (low high : Stop) (rooms_now : ℕ) → up.last ≡ Some low → down.last ≡ Some high
      → rooms_now ≡ sum (map (λ f. room t (bays_to Up f low.bay + bays_to Down f high.bay) f) t.frames)
      → leb (up.work + t.travel * (up.legs + down.legs)) rooms_now ≡ is_served t
  both_stop low high rooms_now is_low is_high is =
      let low_is = stop_first low (along t Up) u.numbers (subst (λ (o : Option Stop). IsStop o (along t Up) u.numbers) is_low u.stop) in
      let high_is = stop_first high (along t Down) d.numbers (subst (λ (o : Option Stop). IsStop o (along t Down) d.numbers) is_high d.stop) in
      ap (λ n. leb (n + t.travel * (up.legs + down.legs)) rooms_now) u.work
      ∙ ap (λ n. leb (sum_by t.work t.bays + t.travel * (n + down.legs)) rooms_now) u.leg_sum
      ∙ ap (λ n. leb (sum_by t.work t.bays + t.travel * (legs t Up (along t Up) u.numbers + n)) rooms_now) d.leg_sum
      ∙ ap (leb (needed u.numbers d.numbers)) (is
      ∙ ap (λ b. sum (map (λ f. room t (bays_to Up f b + bays_to Down f high.bay) f) t.frames)) low_is
      ∙ ap (λ b. sum (map (λ f. room t (bays_to Up f (first t Up) + bays_to Down f b) f) t.frames)) high_is)
      ∙ sym served_by

  none_left : length t.bays ≡ 0 → true ≡ is_served t
  none_left none =
      let nil = nil_of t.bays none in
      let work = ap (λ xs. sum_by t.work xs) nil in
      let ups = ap (λ xs. legs t Up xs u.numbers) nil in
      let downs = ap (λ xs. legs t Down (reverse xs) d.numbers) nil in
      let ways : legs t Up (along t Up) u.numbers + legs t Down (along t Down) d.numbers ≡ 0 = omega (arith, ups, downs) in
      sym (served_by ∙ le-leb (needed u.numbers d.numbers) rooms (omega (arith, work, ap (λ n. t.travel * n) ways, mul-zero t.travel)))

  pub no_high : down.last ≡ None → true ≡ is_served t
  no_high is =
      none_left (sym (length-reverse t.bays)
      ∙ no_stop (reverse t.bays) d.numbers (subst (λ (o : Option Stop). IsStop o (along t Down) d.numbers) is d.stop))

-- ---- at a later tick

module _ (travel : ℕ) (frames : List Frame) (bays : List ℕ) (work : ℕ → ℕ) (soon late : ℕ) (order : soon ≤ late) where
  abbrev by : ℕ → Try
  by tick = record { travel = travel; frames = frames; bays = bays; work = work; tick = tick }

  legs_same : (way : Direction) (xs ns : List ℕ) → legs (by soon) way xs ns ≡ legs (by late) way xs ns
  legs_same way [] ns = refl
  legs_same way (x ∷ []) ns = refl
  legs_same way (x ∷ y ∷ ys) [] = refl
  legs_same way (x ∷ y ∷ ys) (n ∷ []) = refl
  legs_same way (x ∷ y ∷ ys) (n ∷ m ∷ ms) = omega (arith, legs_same way (y ∷ ys) (m ∷ ms))

  load_same : (way : Direction) (xs ns : List ℕ) → load (by soon) way xs ns ≡ load (by late) way xs ns
  load_same way xs ns = ap (λ n. sum_by work xs + travel * n) (legs_same way xs ns)

  more_room : (b : Frame → ℕ) (f : Frame) → room (by soon) (b f) f ≤ room (by late) (b f) f
  more_room b f = omega arith

  suffices_later : (way : Direction) (xs ns : List ℕ) → suffices (by soon) way xs ns ≡ true → suffices (by late) way xs ns ≡ true
  suffices_later way [] ns t = refl
  suffices_later way (x ∷ xs) [] t = refl
  suffices_later way (x ∷ xs) (n ∷ ns) t =
      let rooms = λ (tick : ℕ). most n (map (λ f. room (by tick) (bays_to way f x) f) frames) in
      let both = and_parts (leb (load (by soon) way (x ∷ xs) (n ∷ ns)) (rooms soon)) (suffices (by soon) way xs ns) t in
      let fits = leb-true (load (by soon) way (x ∷ xs) (n ∷ ns)) (rooms soon) both.0 in
      let more : rooms soon ≤ rooms late = most_le (λ f. room (by soon) (bays_to way f x) f) (λ f. room (by late) (bays_to way f x) f) n frames (more_room (λ f. bays_to way f x)) in
      and_from (leb (load (by late) way (x ∷ xs) (n ∷ ns)) (rooms late)) (suffices (by late) way xs ns)
      (le-leb (load (by late) way (x ∷ xs) (n ∷ ns)) (rooms late) (omega (arith, fits, more, load_same way (x ∷ xs) (n ∷ ns))))
      (suffices_later way xs ns both.1)

  numbers_later : (way : Direction) (ns : List ℕ) → Among (numbers (by soon) way) ns → Among (numbers (by late) way) ns
  numbers_later Up ns a =
      let all = lists_to (length frames) (length bays) in
      let r = filter_among (suffices (by soon) Up bays) all ns a in
      among_filter (suffices (by late) Up bays) all ns r.0 (suffices_later Up bays ns r.1)
  numbers_later Down ns a =
      let all = lists_to (length frames) (length bays) in
      let r = filter_among (suffices (by soon) Down (reverse bays)) all ns a in
      among_filter (suffices (by late) Down (reverse bays)) all ns r.0 (suffices_later Down (reverse bays) ns r.1)

  room_later : (ns ms : List ℕ) → has_room (by soon) ns ms ≡ true → has_room (by late) ns ms ≡ true
  room_later ns ms t =
      let far = λ (f : Frame). bays_to Up f (get_or bays 0 0) + bays_to Down f (get_or (reverse bays) 0 0) in
      let rooms = λ (tick : ℕ). sum (map (λ f. room (by tick) (far f) f) frames) in
      let needed = λ (tick : ℕ). sum_by work bays + travel * (legs (by tick) Up bays ns + legs (by tick) Down (reverse bays) ms) in
      let fits : needed soon ≤ rooms soon = leb-true (needed soon) (rooms soon) t in
      let same : needed soon ≡ needed late = ap (λ n. sum_by work bays + travel * (n + legs (by soon) Down (reverse bays) ms)) (legs_same Up bays ns)
      ∙ ap (λ n. sum_by work bays + travel * (legs (by late) Up bays ns + n)) (legs_same Down (reverse bays) ms) in
      let more : rooms soon ≤ rooms late = omega (
        arith,
        sum-map (λ f. room (by soon) (far f) f) frames,
        sum-map (λ f. room (by late) (far f) f) frames,
        sum_by-le-sum_by (λ f. room (by soon) (far f) f) (λ f. room (by late) (far f) f) frames (more_room far),
      ) in
      le-leb (needed late) (rooms late) (omega (arith, fits, same, more))

  served_later : is_served (by soon) ≡ true → is_served (by late) ≡ true
  served_later t =
      let r = any_at (λ ns. list_any (has_room (by soon) ns) (numbers (by soon) Down)) (numbers (by soon) Up) t in
      let q = any_at (has_room (by soon) r.0) (numbers (by soon) Down) r.2 in
      any_from (λ ns. list_any (has_room (by late) ns) (numbers (by late) Down)) (numbers (by late) Up) r.0 (numbers_later Up r.0 r.1)
      (any_from (has_room (by late) r.0) (numbers (by late) Down) q.0 (numbers_later Down q.0 q.1) (room_later r.0 q.0 q.2))

  -- what is short at a tick is so at each earlier one
  pub short_sooner : is_short (by late) ≡ true → is_short (by soon) ≡ true
  short_sooner t = elim (or_cases (list_any (λ f. f.works && nat_lt late f.gone) frames) (not (is_served (by late))) t) [
    | inl slow ↦
        let r = any_at (λ f. f.works && nat_lt late f.gone) frames slow in
        let is = and_parts r.0.works (nat_lt late r.0.gone) r.2 in
        or_left (list_any (λ f. f.works && nat_lt soon f.gone) frames) (not (is_served (by soon)))
        (any_from (λ f. f.works && nat_lt soon f.gone) frames r.0 r.1
        (and_from r.0.works (nat_lt soon r.0.gone) is.0 (lt-ltb soon r.0.gone (omega (arith, ltb-true late r.0.gone is.1)))))
    | inr none ↦
        or_right (list_any (λ f. f.works && nat_lt soon f.gone) frames) (not (is_served (by soon)))
        (not_from_false (is_served (by soon)) (false_from_ne_true (is_served (by soon)) (λ served.
        false≢true (sym (not-true (is_served (by late)) none) ∙ served_later served))))
  ]

-- the last multiple rises with the end
pub last_rises : (g one other : ℕ) → 0 < g → one ≤ other → last_before g one ≤ last_before g other
last_rises g one other some le =
    let whole : g * ((one - 1) / g) ≤ one - 1 = omega arith in
    multiple_to g (other - 1) (last_before g one) some (dvd-mul_left g ((one - 1) / g)) (omega (arith, whole, mul_comm ((one - 1) / g) g))

-- what isn't short at an end isn't so at a later one
pub short_after : (travel : ℕ) (frames : List Frame) (left : List ℕ) (step soon late : ℕ) → 0 < step → soon ≤ late
    → is_short (try_by travel (last_before step soon) frames left) ≡ false
    → is_short (try_by travel (last_before step late) frames left) ≡ false
short_after travel frames left step soon late some le none =
    false_from_ne_true (is_short (try_by travel (last_before step late) frames left)) (λ short.
    false≢true (sym none ∙ short_sooner travel frames (bays_of left) (λ x. get_or left x 0) (last_before step soon)
    (last_before step late) (last_rises step soon late some le) short))
