-- The waypoints that a sweep traced to the end are those of the crane.
use Rattle.std.proofs.Common.{◌≡◌, ℕ, zero, suc, ◌+◌, ◌-◌, ◌<◌, ◌≤◌, ℤ, ◌-ℤ◌, ◌⊎◌, inl, inr, List, length, map, refl, sym, ap, subst, ◌∙◌, arith, AllPairs, Contains}
use Rattle.std.proofs.lemmas.Bool.{cases_lt}
use Rattle.std.proofs.lemmas.Int.{ints}
use Rattle.std.proofs.lemmas.List.{get_or-map, get_or_default, length-map}
use Rattle.std.proofs.lemmas.List.Elements.{All-from_get_or}
use Rattle.std.specs.declared.cmp.Ordering.{Ordering}
use Rattle.std.specs.declared.cmp.Ordering.TheVariants.{Less, Equal, Greater}
use Rattle.qc_model.specs.declared.direction.Direction.{Direction}
use Rattle.qc_model.specs.declared.schedule.Slot.{Slot}
use Rattle.qc_model.specs.Instance.{InstanceView}
use Rattle.qc_model.specs.Motion.{IsPlace}
use Rattle.qc_model.specs.Rules.{ends}
use Rattle.qc_motion.specs.declared.track.Waypoint.{Waypoint}
use Rattle.qc_motion.specs.Sweep.{moved}
use Rattle.qc_motion.specs.Waypoints.{AreWaypoints, IsNamed, IsTurn, no_waypoint, waypoint}
use Rattle.qc_motion.proofs.Legs.{IsLeg, place_once}

moved_none : (o : Ordering) (p : ℤ) → moved o p 0 ≡ p
moved_none Less p = omega (arith, ints)
moved_none Equal p = refl
moved_none Greater p = omega (arith, ints)

even : (o : Ordering) (p : ℤ) (x : ℕ) → (moved o p (x + 2) -ℤ moved o p (x + 1)) ≡
    (moved o p (x + 1) -ℤ moved o p x)
even Less p x = omega (arith, ints)
even Equal p x = omega (arith, ints)
even Greater p x = omega (arith, ints)

-- between two values of a function on naturals there is a step that passes a number
pub between : (f : ℕ → ℕ) (m n : ℕ) → f 0 ≤ m → m < f n → (i : ℕ) × (i < n) × (f i ≤ m) × (m < f (i + 1))
between f m zero low high = absurd (omega arith)
between f m (suc n) low high = elim (cases_lt m (f n)) [
  | inl l ↦ let h = between f m n low l in (h.0, omega (arith, h.1), h.2, h.3)
  | inr l ↦ let next : suc n ≡ n + 1 = omega arith in (n, omega arith, l, subst (λ (t : ℕ). m < f t) next high)
]

module _ (inst : InstanceView) (sched : List Slot) (way : Direction) (k : ℕ) (points : List Waypoint) where
  -- the crane goes from one waypoint to the next, from 0 to the end, and turns at each between
  pub record IsWhole : Type 0 where
    pub some : 0 < length points
    pub first : (waypoint points 0).at ≡ 0
    pub last : (waypoint points (length points - 1)).at ≡ ends inst sched
    pub there : IsPlace inst sched way k (waypoint points (length points - 1)).at 1
        (waypoint points (length points - 1)).place
    pub legs : (i : ℕ) → i + 1 < length points → IsLeg inst sched way k (waypoint points i)
        (waypoint points (i + 1))
    pub turns : (i : ℕ) → 0 < i → i < length points
        → IsTurn inst sched way k (waypoint points i).at ⊎ ((waypoint points i).at ≡ ends inst sched)

  module _ (h : IsWhole) where
    abbrev at : ℕ → ℕ
    at i = (waypoint points i).at

    rises : (i n : ℕ) → i + n + 1 < length points → at i < at (i + n + 1)
    rises i zero l = let g = (h.legs i (omega arith)).rising in let e : i + 0 + 1 ≡ i + 1 = omega arith in rw e g
    rises i (suc n) l =
        let g = rises i n (omega arith) in
        let next = (h.legs (i + n + 1) (omega arith)).rising in
        let e : i + suc n + 1 ≡ i + n + 1 + 1 = omega arith in
        rw e (omega arith)

    later : (i j : ℕ) → i < j → j < length points → at i < at j
    later i j low l =
        let e : i + (j - i - 1) + 1 ≡ j = omega arith in
        subst (λ (n : ℕ). at i < at n) e (rises i (j - i - 1) (omega arith))

    pub rising : AllPairs (λ (u : Waypoint) (v : Waypoint). u.at < v.at) points
    rising i j d low l =
        let one = ap (λ (w : Waypoint). w.at) (get_or_default points i d no_waypoint (omega arith)) in
        let other = ap (λ (w : Waypoint). w.at) (get_or_default points j d no_waypoint l) in
        omega (arith, one, other, later i j low l)

    contains : (m i : ℕ) → i < length points → at i ≡ m → Contains (map (λ (w : Waypoint). w.at) points) m
    contains m i l e = (
      i,
      omega (arith, length-map points (λ (w : Waypoint). w.at)),
      get_or-map
          (λ (w : Waypoint). w.at) points i no_waypoint m l ∙ e,
    )

    named : (m : ℕ) → Contains (map (λ (w : Waypoint). w.at) points) m → IsNamed inst sched way k m
    named m c =
        let i = c.0 in
        let l : i < length points = omega (arith, c.1, length-map points (λ (w : Waypoint). w.at)) in
        let e : at i ≡ m = sym (get_or-map (λ (w : Waypoint). w.at) points i no_waypoint m l) ∙ c.2 in
        elim (cases_lt 0 i) [
          | inl low ↦ go i l low e (h.turns i low l)
          | inr none ↦ let zero_i : i ≡ 0 = omega arith in inl (sym e ∙ ap at zero_i ∙ h.first)
        ]
      where
        go : (i : ℕ) → i < length points → 0 < i → at i ≡ m
            → IsTurn inst sched way k (waypoint points i).at ⊎ ((waypoint points i).at ≡ ends inst sched)
            → IsNamed inst sched way k m
        go i l low e (inr end) = inr (inl (sym e ∙ end))
        go i l low e (inl turn) = elim (cases_lt i (length points - 1)) [
          | inl before ↦
              let first = later 0 i low l in
              let last = later i (length points - 1) before (omega (arith, h.some)) in
              inr (inr (
                omega (arith, first, e),
                omega (arith, last, e, h.last),
                subst
                    (IsTurn inst sched way k) e turn,
              ))
          | inr after ↦
              let same : i ≡ length points - 1 = omega arith in
              inr (inl (sym e ∙ ap at same ∙ h.last))
        ]

    -- within a leg there is no turn
    straight : (m i : ℕ) → i + 1 < length points → at i < m → m < at (i + 1) → ¬ IsTurn inst sched way k m
    straight m i l low high t =
        let g = h.legs i l in
        let u = waypoint points i in
        let x : ℕ = m - 1 - u.at in
        let before =
        place_once inst sched way k (m - 1) 1 _ _ t.before_is
        (subst (λ (n : ℕ). IsPlace inst sched way k n 1 (moved g.way_on u.place x)) (omega arith)
        (g.along x (omega arith))) in
        let here =
        place_once inst sched way k m 1 _ _ t.there_is
        (subst (λ (n : ℕ). IsPlace inst sched way k n 1 (moved g.way_on u.place (x + 1))) (omega arith)
        (g.along (x + 1) (omega arith))) in
        let after =
        place_once inst sched way k (m + 1) 1 _ _ t.after_is
        (subst (λ (n : ℕ). IsPlace inst sched way k n 1 (moved g.way_on u.place (x + 2))) (omega arith)
        (g.along (x + 2) (omega arith))) in
        t.differs (omega (arith, ints, before, here, after, even g.way_on u.place x))

    found : (m : ℕ) → IsNamed inst sched way k m → Contains (map (λ (w : Waypoint). w.at) points) m
    found m (inl e) = contains m 0 h.some (h.first ∙ sym e)
    found m (inr (inl e)) = contains m (length points - 1) (omega (arith, h.some)) (h.last ∙ sym e)
    found m (inr (inr t)) =
        let b = between at m (length points - 1) (omega (arith, h.first)) (omega (arith, h.last, t.1)) in
        elim (cases_lt (at b.0) m) [
          | inl l ↦ absurd (straight m b.0 (omega (arith, b.1)) l b.3 t.2)
          | inr l ↦ contains m b.0 (omega (arith, b.1)) (omega (arith, b.2))
        ]

    pub place_at : (i : ℕ) → i < length points
        → IsPlace inst sched way k (waypoint points i).at 1 (waypoint points i).place
    place_at i l = elim (cases_lt (i + 1) (length points)) [
      | inl g ↦
          let leg = h.legs i g in
          let u = waypoint points i in
          subst (λ (p : ℤ). IsPlace inst sched way k u.at 1 p) (moved_none leg.way_on u.place)
          (subst (λ (n : ℕ). IsPlace inst sched way k n 1 (moved leg.way_on u.place 0)) (omega arith)
          (leg.along 0 (omega (arith, leg.rising))))
      | inr g ↦
          let same : length points - 1 ≡ i = omega arith in
          subst (λ (n : ℕ). IsPlace inst sched way k (waypoint points n).at 1
          (waypoint points n).place) same h.there
    ]

    pub are_waypoints : AreWaypoints inst sched way k points
    are_waypoints = record {
      rising = rising;
      ticks = λ m. (named m, found m);
      places = All-from_get_or (λ (w : Waypoint). IsPlace inst sched way k w.at 1 w.place) points no_waypoint place_at;
    }
