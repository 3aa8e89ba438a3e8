-- From each of its points to the next a crane goes evenly, fractions of a tick included.
use Rattle.std.proofs.Common.{◌≡◌, ◌≢◌, ℕ, zero, suc, ◌+◌, ◌-◌, ◌*◌, ◌<◌, ◌≤◌, ℤ, pos, ◌-ℤ◌, ◌*ℤ◌, inl, inr, List, length, map, refl, sym, ap, ap₂, ◌∙◌, Contains, arith}
use Rattle.std.proofs.lemmas.Bool.{cases_lt}
use Rattle.std.proofs.lemmas.Int.{by_lt_z, ints}
use Rattle.std.proofs.lemmas.List.{get_or-map, length-map}
use Rattle.std.specs.declared.cmp.Ordering.{Ordering}
use Rattle.std.specs.declared.cmp.Ordering.TheVariants.{Less, Equal, Greater}
use Rattle.qc_model.specs.declared.schedule.Slot.{Slot}
use Rattle.qc_model.specs.Instance.{InstanceView, Valid}
use Rattle.qc_model.specs.Rules.{ends}
use Rattle.qc_model.proofs.Places.{floor_exists}
use Rattle.qc_freemove.specs.declared.track.HalfPoint.{HalfPoint}
use Rattle.qc_freemove.specs.FreeSweep.{FreeSwept, IsBend, IsFreeSound, floor_place, hold_count, hold_of, place_at}
use Rattle.qc_freemove.specs.HalfLines.{MovesBetween, no_point, point}
use Rattle.qc_freemove.specs.HalfPoints.{AreHalfPoints, IsNamed}
use Rattle.qc_freemove.proofs.Even.{speed}
use Rattle.qc_motion.proofs.Extrema.{greatest_unique}
use Rattle.qc_motion.proofs.Linear.{on_line, parts_of, part_way}
use Rattle.qc_freemove.proofs.HalfTicks.{goes_evenly, part}
use Rattle.qc_freemove.proofs.SweptHolds.{place_is}
use Rattle.qc_freemove.proofs.Traced.{tick_of, turn_of}
use Rattle.qc_freemove.proofs.Ways.{way_of}
use Rattle.qc_motion.specs.Sweep.{moved}

-- a place that goes on by the same step
same_way : (o : Ordering) (x : ℕ) (p q a b : ℤ) → q ≡ moved o p 1 → a ≡ moved o p x → (b -ℤ a) ≡ (q -ℤ p)
    → b ≡ moved o p (x + 1)
same_way Less x p q a b e f g = omega (arith, ints)
same_way Equal x p q a b e f g = omega (arith, ints)
same_way Greater x p q a b e f g = omega (arith, ints)

moved_none : (o : Ordering) (p : ℤ) → p ≡ moved o p 0
moved_none Less p = omega (arith, ints)
moved_none Equal p = refl
moved_none Greater p = omega (arith, ints)

module _ (it : FreeSwept) (s : IsFreeSound it) (points : List HalfPoint)
    (h : AreHalfPoints it.inst it.sched it.crane points) where
  abbrev at : ℕ → ℕ
  at i = (point points i).at

  pub there : (i : ℕ) → i < length points → (point points i).place ≡ place_at it (at i)
  there i low = greatest_unique _ _ _ (h.places i no_point low) (place_is it s (at i))

  pub within : (i : ℕ) → i < length points → at i ≤ 2 * ends it.inst it.sched
  within i low = by ((h.ticks (at i)).0 (
    i,
    omega (arith, low, length-map points tick_of),
    get_or-map tick_of points i no_point (at i) low,
  ))
    where
      by : IsNamed it.inst it.sched it.crane (at i) → at i ≤ 2 * ends it.inst it.sched
      by (inl none) = omega arith
      by (inr (inl last)) = omega arith
      by (inr (inr turn)) = omega (arith, turn.1)

  -- between two points there is no turn
  unbent : (i m : ℕ) → i + 1 < length points → at i < m → m < at (i + 1) → ¬ IsBend it m
  unbent i m low after before bends = by ((h.ticks m).1 (inr (inr (
    omega arith,
    omega (arith, within (i + 1) low),
    turn_of it s m bends,
  ))))
    where
      by : Contains (map tick_of points) m → ⊥
      by c =
          let j = c.0 in
          let l : j < length points = omega (arith, c.1, length-map points tick_of) in
          let e : at j ≡ m = sym (get_or-map tick_of points j no_point m l) ∙ c.2 in
          elim (cases_lt j i) [
            | inl k ↦ let r = h.rising j i no_point k (omega arith) in omega (arith, r, e)
            | inr k ↦ elim (cases_lt (i + 1) j) [
              | inl n ↦ let r = h.rising (i + 1) j no_point n l in omega (arith, r, e)
              | inr n ↦ elim (cases_lt i j) [
                | inl o ↦ let same : j ≡ i + 1 = omega arith in omega (arith, ap at same, e)
                | inr o ↦ let same : j ≡ i = omega arith in omega (arith, ap at same, e)
              ]
            ]
          ]

  -- so all steps are the same
  straight : (a b : ℤ) → ¬ (a ≢ b) → a ≡ b
  straight a b never =
      by_lt_z a b (λ l. absurd (never (λ e. omega (arith, ints, l, e))))
      (λ k. by_lt_z b a (λ l. absurd (never (λ e. omega (arith, ints, l, e)))) (λ l. omega (arith, ints, k, l)))

  module _ (i : ℕ) (low : i + 1 < length points) where
    abbrev from : ℕ
    from = at i

    abbrev step : ℕ → ℤ
    step m = place_at it (m + 1) -ℤ place_at it m

    steps : (x : ℕ) → from + x < at (i + 1) → step (from + x) ≡ step from
    steps zero early = let none : from + 0 ≡ from = omega arith in ap step none
    steps (suc x) early =
        let m : ℕ = from + suc x in
        let back : m - 1 ≡ from + x = omega arith in
        let here : m ≡ (from + x) + 1 = omega arith in
        let even = straight (step m) (place_at it m -ℤ place_at it (m - 1))
        (unbent i m low (omega arith) early) in
        even ∙ ap₂ (λ (a b : ℕ). place_at it a -ℤ place_at it b) here back ∙ steps x (omega arith)

    pub way : (o : Ordering) × (place_at it (from + 1) ≡ moved o (place_at it from) 1)
    way =
        let r = speed (hold_of it) (floor_place it) (hold_count it) from in
        way_of (place_at it from) (place_at it (from + 1)) r.0 r.1

    pub along : (x : ℕ) → from + x ≤ at (i + 1) → place_at it (from + x) ≡ moved way.0 (place_at it from) x
    along zero early =
        let none : from + 0 ≡ from = omega arith in ap (place_at it) none ∙ moved_none way.0 (place_at it from)
    along (suc x) early =
        let one : x + 1 ≡ suc x = omega arith in
        let next : (from + x) + 1 ≡ from + suc x = omega arith in
        let there =
        same_way way.0 x (place_at it from) (place_at it (from + 1)) (place_at it (from + x))
        (place_at it ((from + x) + 1)) way.1 (along x (omega arith)) (steps x (omega arith)) in
        sym (ap (place_at it) next) ∙ there ∙ ap (moved way.0 (place_at it from)) one

  pub moves_between : MovesBetween it.inst it.sched it.crane points
  moves_between i m d p low some after before place =
      let u = point points i in
      let v = point points (i + 1) in
      let order = h.rising i (i + 1) no_point (omega arith) low in
      let t = parts_of d (at i) (at (i + 1)) (2 * m) some order after before in
      let x : ℕ = t.tick - at i in
      let o = (way i low).0 in
      let here : at i + x ≡ t.tick = omega (arith, t.after) in
      let next : at i + (x + 1) ≡ t.tick + 1 = omega (arith, t.after) in
      let last : at i + (at (i + 1) - at i) ≡ at (i + 1) = omega (arith, order) in
      let first = there i (omega arith) in
      let base = ap (λ (z : ℤ). moved o z x) (sym first) in
      let now = sym (ap (place_at it) here) ∙ along i low x (omega (arith, t.after, t.before)) ∙ base in
      let then = sym (ap (place_at it) next) ∙ along i low (x + 1) (omega (arith, t.after, t.before))
      ∙ ap (λ (z : ℤ). moved o z (x + 1)) (sym first) in
      let comes = there (i + 1) low ∙ sym (ap (place_at it) last)
      ∙ along i low (at (i + 1) - at i) (omega (arith, order))
      ∙ ap (λ (z : ℤ). moved o z (at (i + 1) - at i)) (sym first) in
      let y : ℕ = 2 * m - d * at i in
      let y_is : y ≡ d * x + t.parts = omega (arith, t.is, ap (λ n. d * n) here) in
      let even = goes_evenly it s d t.parts t.tick m t.few t.is p place in
      on_line o (at (i + 1) - at i) y (pos d *ℤ u.place) u.place v.place (pos 2 *ℤ p) comes
      (even ∙ ap₂ (part d t.parts) now then ∙ part_way o d t.parts x y u.place y_is)

pub points_move_between : (inst : InstanceView) (sched : List Slot) (k : ℕ) (points : List HalfPoint)
    → Valid inst → k < length inst.cranes → AreHalfPoints inst sched k points → MovesBetween inst sched k points
points_move_between inst sched k points valid low h =
    let bottom = floor_exists inst sched k low in
    let it : FreeSwept = record { inst = inst; sched = sched; crane = k; floor = bottom.0 } in
    let s : IsFreeSound it = record { valid = valid; range = low; floor = bottom.1 } in
    moves_between it s points h
