-- A crane that is where the tasks at a bay ask for, one after the other, goes at least as far as a trip that goes no
-- further for each than it must.
use Rattle.std.proofs.Common.{[], ◌≡◌, ℕ, zero, suc, ◌+◌, ◌*◌, ◌<◌, ◌≤◌, inl, inr, Bool, true, List, ◌∷◌, Option, None, Some, ℤ, ◌≤ℤ◌, refl, ap, sym, subst, ◌∙◌, arith, filter}
use Rattle.std.proofs.Math.Nat.{mul-add}
use Rattle.std.proofs.lemmas.Bool.{cases_order, cond_both, eq-eqb, le-ltb, lt-ltb, ne_eqb}
use Rattle.std.proofs.lemmas.Int.{by_lt_z, int_max_is, int_min_is, ints}
use Rattle.std.specs.Int.{int_max, int_min}
use Rattle.std.specs.List.{range_with_len}
use Rattle.qc_close.specs.Model.{crane_in, bays_between, InstanceView, bay_of, bay_ahead, bay_behind, scaled, stand, trip_along, trip_for, trip_to, Trip}
use Rattle.qc_model.proofs.Bays.{bays}
use Rattle.qc_model.proofs.Scaled.{scaled_le}
use Rattle.qc_close.proofs.Members.{Among}
use Rattle.qc_laws.proofs.Paths.{cut, cut_at, cut_over, cut_under, goes, moved, scaled_between, triangle}

-- ---- where a crane stands while another works

module _ (inst : InstanceView) (w v : ℕ) (y x : ℤ) where
  stand_here : v ≡ w → stand inst w v y x ≡ y
  stand_here e = rw (eq-eqb v w e) refl

  stand_above : v < w → stand inst w v y x ≡ int_max x (bay_ahead inst v y w)
  stand_above less = rw (ne_eqb v w (λ e. omega arith), lt-ltb v w less) refl

  stand_below : w < v → stand inst w v y x ≡ int_min x (bay_behind inst v y w)
  stand_below more =
      let le : w ≤ v = omega arith in
      rw (ne_eqb v w (λ e. omega arith), le-ltb v w le) refl

-- z lies on the way from x to y
abbrev OnWay : ℤ → ℤ → ℤ → Type 0
OnWay x z y = bays_between x z + bays_between z y ≤ bays_between x y

on_way_at : (x z y : ℤ) → y ≡ z → OnWay x z y
on_way_at x z y e = omega (arith, bays, e)

on_way_none : (x z y : ℤ) → z ≡ x → OnWay x z y
on_way_none x z y e = omega (arith, bays, e)

on_way_up : (x z y : ℤ) → x ≤ℤ z → z ≤ℤ y → OnWay x z y
on_way_up x z y le more = omega (arith, bays, le, more)

on_way_down : (x z y : ℤ) → z ≤ℤ x → y ≤ℤ z → OnWay x z y
on_way_down x z y le more = omega (arith, bays, le, more)

max_left : (x y : ℤ) → y ≤ℤ x → int_max x y ≡ x
max_left x y le = omega (arith, ints, int_max_is x y)

max_right : (x y : ℤ) → x ≤ℤ y → int_max x y ≡ y
max_right x y le = omega (arith, ints, int_max_is x y)

min_left : (x y : ℤ) → x ≤ℤ y → int_min x y ≡ x
min_left x y le = omega (arith, ints, int_min_is x y)

min_right : (x y : ℤ) → y ≤ℤ x → int_min x y ≡ y
min_right x y le = omega (arith, ints, int_min_is x y)

-- ---- between which bays a trip stays

module _ (inst : InstanceView) (cranes : List (Option ℕ)) (w : ℕ) where
  pub low_falls : (js : List ℕ) (t : Trip) → (trip_along inst cranes w t js).low ≤ℤ t.low
  low_falls [] t = omega (arith, ints)
  low_falls (j ∷ js) t = one (crane_in cranes j) (λ u. low_falls js u)
    where
      one : (o : Option ℕ) → ((u : Trip) → (trip_along inst cranes w u js).low ≤ℤ u.low)
          → (trip_along inst cranes w (trip_for inst w (bay_of inst j) o t) js).low ≤ℤ t.low
      one None rest = rest t
      one (Some v) rest =
          let z = stand inst w v (bay_of inst j) t.at in
          let less = rest (trip_to z t) in
          omega (arith, ints, less, int_min_is t.low z)

  pub high_rises : (js : List ℕ) (t : Trip) → t.high ≤ℤ (trip_along inst cranes w t js).high
  high_rises [] t = omega (arith, ints)
  high_rises (j ∷ js) t = one (crane_in cranes j) (λ u. high_rises js u)
    where
      one : (o : Option ℕ) → ((u : Trip) → u.high ≤ℤ (trip_along inst cranes w u js).high)
          → t.high ≤ℤ (trip_along inst cranes w (trip_for inst w (bay_of inst j) o t) js).high
      one None rest = rest t
      one (Some v) rest =
          let z = stand inst w v (bay_of inst j) t.at in
          let more = rest (trip_to z t) in
          omega (arith, ints, more, int_max_is t.high z)

  abbrev pub IsWithin : Trip → Type 0
  IsWithin t = (t.low ≤ℤ t.at) × (t.at ≤ℤ t.high)

  pub stays_within : (js : List ℕ) (t : Trip) → IsWithin t → IsWithin (trip_along inst cranes w t js)
  stays_within [] t is = is
  stays_within (j ∷ js) t is = one (crane_in cranes j) (λ u. stays_within js u)
    where
      one : (o : Option ℕ) → ((u : Trip) → IsWithin u → IsWithin (trip_along inst cranes w u js))
          → IsWithin (trip_along inst cranes w (trip_for inst w (bay_of inst j) o t) js)
      one None rest = rest t is
      one (Some v) rest =
          let z = stand inst w v (bay_of inst j) t.at in
          rest (trip_to z t) (omega (arith, ints, int_min_is t.low z), omega (arith, ints, int_max_is t.high z))

-- ---- a path that is where tasks ask for

module _ (inst : InstanceView) (cranes : List (Option ℕ)) (w : ℕ) (x : ℕ → ℤ) (end : ℕ) (when : ℕ → ℕ) where
  abbrev ticks_a_bay : ℕ
  ticks_a_bay = 1 * inst.travel

  abbrev place_of : ℤ → ℤ
  place_of y = scaled inst 1 y

  -- while crane v does task j it is where w may be
  pub record Allows (j v : ℕ) : Type 0 where
    pub here : v ≡ w → x (when j) ≡ place_of (bay_of inst j)
    pub over : v < w → place_of (bay_ahead inst v (bay_of inst j) w) ≤ℤ x (when j)
    pub under : w < v → x (when j) ≤ℤ place_of (bay_behind inst v (bay_of inst j) w)

  -- tasks that come one after the other
  abbrev pub AreTimely : ℕ → List ℕ → Type 0
  AreTimely from [] = Unit {0}
  AreTimely from (j ∷ js) = (from ≤ when j) × (when j ≤ end) × AreTimely (when j) js

  pub timely_from : (p : ℕ → Bool) (a n from : ℕ)
      → ((j : ℕ) → a ≤ j → j < a + n → p j ≡ true → (from ≤ when j) × (when j ≤ end))
      → ((i j : ℕ) → i < j → j < a + n → p i ≡ true → p j ≡ true → when i ≤ when j)
      → AreTimely from (filter p (range_with_len a n))
  timely_from p a zero from within order = tt
  timely_from p a (suc n) from within order =
      let rest = λ (b : ℕ) (h : (j : ℕ) → a + 1 ≤ j → j < a + 1 + n → p j ≡ true → (b ≤ when j) × (when j ≤ end)).
      timely_from p (a + 1) n b h (λ i j less low. order i j less (omega arith)) in
      cond_both (p a) (a ∷ filter p (range_with_len (a + 1) n)) (filter p (range_with_len (a + 1) n)) (AreTimely from)
      (λ t.
      let here = within a (omega arith) (omega arith) t in (
        here.0,
        here.1,
        rest (when a) (λ j up low u. (
          order a j (omega (arith, up)) (omega (arith, low)) t u,
          (within j (omega (arith, up)) (omega (arith, low)) u).1,
        )),
      ))
      (λ _. rest from (λ j up low. within j (omega (arith, up)) (omega (arith, low))))

  -- ---- the path between two places

  module _ (l h : ℤ) (order : l ≤ℤ h) where
    abbrev held : ℕ → ℤ
    held m = cut l h (x m)

    -- what holds of where the crane stands, wherever that is
    abbrev Leads : ℕ → ℤ → ℤ → Type 0
    Leads j a z = l ≤ℤ place_of z → place_of z ≤ℤ h → OnWay (place_of a) (place_of z) (held (when j))

    leads : (j v : ℕ) (a : ℤ) → Allows j v → Leads j a (stand inst w v (bay_of inst j) a)
    leads j v a allows = elim (cases_order v w) [
      | inl e ↦ subst (Leads j a) (sym (stand_here inst w v (bay_of inst j) a e)) (here (allows.here e))
      | inr u ↦ elim u [
        | inl less ↦ subst (Leads j a) (sym (stand_above inst w v (bay_of inst j) a less)) (over (bay_ahead inst v (bay_of inst j) w) (allows.over less))
        | inr more ↦ subst (Leads j a) (sym (stand_below inst w v (bay_of inst j) a more)) (under (bay_behind inst v (bay_of inst j) w) (allows.under more))
      ]
    ]
      where
        here : x (when j) ≡ place_of (bay_of inst j) → Leads j a (bay_of inst j)
        here e low high =
            on_way_at (place_of a) (place_of (bay_of inst j)) (held (when j))
            (ap (cut l h) e ∙ cut_at l h order (place_of (bay_of inst j)) low high)

        over : (y : ℤ) → place_of y ≤ℤ x (when j) → Leads j a (int_max a y)
        over y there = by_lt_z a y
            (λ less. subst (Leads j a) (sym (max_right a y (omega (arith, ints, less)))) (λ low high.
            on_way_up (place_of a) (place_of y) (held (when j)) (scaled_le (1 * inst.travel) a y (omega (arith, ints, less)))
            (cut_over l h order (place_of y) (x (when j)) there high)))
            (λ most. subst (Leads j a) (sym (max_left a y most)) (λ low high.
            on_way_none (place_of a) (place_of a) (held (when j)) refl))

        under : (y : ℤ) → x (when j) ≤ℤ place_of y → Leads j a (int_min a y)
        under y there = by_lt_z y a
            (λ less. subst (Leads j a) (sym (min_right a y (omega (arith, ints, less)))) (λ low high.
            on_way_down (place_of a) (place_of y) (held (when j)) (scaled_le (1 * inst.travel) y a (omega (arith, ints, less)))
            (cut_under l h order (place_of y) (x (when j)) there low)))
            (λ most. subst (Leads j a) (sym (min_left a y most)) (λ low high.
            on_way_none (place_of a) (place_of a) (held (when j)) refl))

    -- by tick m it has gone at least as far as the trip and on from there to where it is
    abbrev pub HasGone : Trip → ℕ → Type 0
    HasGone t m = ticks_a_bay * t.bays + bays_between (held m) (place_of t.at) ≤ moved held m

    later : (t : Trip) (m n : ℕ) → m ≤ n → HasGone t m → HasGone t n
    later t m n low gone =
        let far = goes held m n low in
        let near = triangle (held n) (held m) (place_of t.at) in
        omega (arith, gone, far, near)

    onward : (t : Trip) (z : ℤ) (m : ℕ) → HasGone t m → OnWay (place_of t.at) (place_of z) (held m) → HasGone (trip_to z t) m
    onward t z m gone way =
        let sum = mul-add ticks_a_bay t.bays (bays_between t.at z) in
        let step = scaled_between ticks_a_bay t.at z in
        omega (arith, gone, way, sum, step)

    pub goes_along : (js : List ℕ) (t : Trip) (from : ℕ) → from ≤ end → HasGone t from → AreTimely from js
        → ((j : ℕ) → Among js j → (v : ℕ) → crane_in cranes j ≡ Some v → Allows j v)
        → l ≤ℤ place_of (trip_along inst cranes w t js).low → place_of (trip_along inst cranes w t js).high ≤ℤ h
        → HasGone (trip_along inst cranes w t js) end
    goes_along [] t from soon gone timely allows low high = later t from end soon gone
    goes_along (j ∷ js) t from soon gone timely allows low high =
        one (crane_in cranes j) (λ v e. allows j (inl refl) v e) (later t from (when j) timely.0 gone)
        (λ u arrived. goes_along js u (when j) timely.1 arrived timely.2 (λ k a. allows k (inr a))) low high
      where
        one : (o : Option ℕ) → ((v : ℕ) → o ≡ Some v → Allows j v) → HasGone t (when j)
            → ((u : Trip) → HasGone u (when j) → l ≤ℤ place_of (trip_along inst cranes w u js).low
            → place_of (trip_along inst cranes w u js).high ≤ℤ h → HasGone (trip_along inst cranes w u js) end)
            → l ≤ℤ place_of (trip_along inst cranes w (trip_for inst w (bay_of inst j) o t) js).low
            → place_of (trip_along inst cranes w (trip_for inst w (bay_of inst j) o t) js).high ≤ℤ h
            → HasGone (trip_along inst cranes w (trip_for inst w (bay_of inst j) o t) js) end
        one None allow arrived rest low high = rest t arrived low high
        one (Some v) allow arrived rest low high =
            let z = stand inst w v (bay_of inst j) t.at in
            let u : Trip = trip_to z t in
            let under = low_falls inst cranes w js u in
            let over = high_rises inst cranes w js u in
            let from_low : (trip_along inst cranes w u js).low ≤ℤ z = omega (arith, ints, under, int_min_is t.low z) in
            let to_high : z ≤ℤ (trip_along inst cranes w u js).high = omega (arith, ints, over, int_max_is t.high z) in
            let low_in = scaled_le ticks_a_bay (trip_along inst cranes w u js).low z from_low in
            let high_in = scaled_le ticks_a_bay z (trip_along inst cranes w u js).high to_high in
            let way = leads j v t.at (allow v refl) (omega (arith, ints, low, low_in)) (omega (arith, ints, high, high_in)) in
            rest u (onward t z (when j) arrived way) low high
