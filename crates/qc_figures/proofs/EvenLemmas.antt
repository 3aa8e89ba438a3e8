-- A crane that goes to and fro goes for a whole number of ticks from when it is ready to its last end: at whole ticks its
-- place is a whole number, and while it goes its place changes by one each half tick.
use Rattle.std.proofs.Common.{◌≡◌, ◌≢◌, ℕ, zero, suc, ◌+◌, ◌-◌, ◌*◌, ◌/◌, ◌<◌, ◌≤◌, max, Bool, true, false, cond, ◌==◌, ℤ, pos, ◌+ℤ◌, ◌-ℤ◌, ◌*ℤ◌, unsigned_abs, inl, inr, List, length, map, refl, ap, ap₂, sym, subst, ◌∙◌, arith, sum_by}
use Rattle.std.specs.List.{range_with_len}
use Rattle.std.specs.declared.cmp.Ordering.{Ordering}
use Rattle.std.specs.declared.cmp.Ordering.TheVariants.{Less, Equal, Greater}
use Rattle.std.proofs.lemmas.Bool.{cases_lt, eq-eqb, eqb-true}
use Rattle.std.proofs.lemmas.Int.{ints}
use Rattle.std.proofs.lemmas.List.{get_or-map, length-map}
use Rattle.qc_freemove.specs.declared.track.HalfPoint.{HalfPoint}
use Rattle.qc_freemove.specs.FreeMotion.{FreeLowPlace, parts_off}
use Rattle.qc_freemove.specs.FreeMotion.FreeLowPlace.{of_berth, of_floor, of_task}
use Rattle.qc_freemove.specs.FreeSweep.{FreeSwept, IsFreeSound, place_at}
use Rattle.qc_freemove.specs.HalfLines.{no_point, point}
use Rattle.qc_freemove.specs.HalfPoints.{AreHalfPoints, IsNamed}
use Rattle.qc_freemove.proofs.BetweenPoints.{along, there, way, within}
use Rattle.qc_freemove.proofs.SweptHolds.{place_is}
use Rattle.qc_freemove.proofs.Traced.{tick_of}
use Rattle.qc_motion.specs.Sweep.{moved}
use Rattle.qc_model.specs.declared.schedule.Slot.{Slot}
use Rattle.qc_model.specs.Instance.{InstanceView, Valid, bay_of, crane}
use Rattle.qc_model.specs.Motion.{bay_ahead}
use Rattle.qc_model.specs.Rules.{crane_of, end_of, ends, start_of}
use Rattle.qc_model.proofs.Places.{floor_exists}
use Rattle.qc_motion.specs.declared.track.Waypoint.{Waypoint}
use Rattle.qc_motion.specs.Waypoints.{no_waypoint, waypoint}
use Rattle.qc_figures.specs.Figures.{clipped, leg, time_moving}
use Rattle.qc_figures.specs.Motions.{IsFreeTrack, of_half}
use Rattle.qc_figures.proofs.TallyLemmas.{sum_next}
use Rattle.qc_figures.proofs.TimeLemmas.{sum_same}

-- from x to y it is n, up to twice a number
abbrev IsLike : ℤ → ℤ → ℕ → Type 0
IsLike x y n = (e : ℤ) × (y ≡ (x +ℤ pos n +ℤ e +ℤ e))

like_same : (x y : ℤ) (n : ℕ) → y ≡ x → n ≡ 0 → IsLike x y n
like_same x y n e f = (pos 0, omega (arith, ints))

like_more : (x y z : ℤ) (n m k : ℕ) → k ≡ n + m → IsLike x y n → IsLike y z m → IsLike x z k
like_more x y z n m k e one two =
    let a = one.0 in
    let b = two.0 in
    (a +ℤ b, omega (arith, ints, one.1, two.1))

-- what lies between two even places is an even number
like_even : (x y a b : ℤ) (n : ℕ) → x ≡ (a +ℤ a) → y ≡ (b +ℤ b) → IsLike x y n → 2 * (n / 2) ≡ n
like_even x y a b n e f like =
    let s : ℤ = (b -ℤ a) -ℤ like.0 in
    let twice : pos n ≡ (s +ℤ s) = omega (arith, ints, like.1) in
    omega (arith, ints, twice)

-- ---- at whole ticks

-- twice a product, less an even number
even_less : (t n : ℕ) (x : ℤ) (m : ℕ) → n ≡ m + m
    → (a : ℤ) × (((pos (2 * t) *ℤ x) -ℤ pos n) ≡ (a +ℤ a))
even_less t n x m e =
    ((pos t *ℤ x) -ℤ pos m, omega (arith, ints))

even_place : (inst : InstanceView) (sched : List Slot) (k n : ℕ) (x : ℤ) → FreeLowPlace inst sched k (2 * n) 2 x
    → (a : ℤ) × (x ≡ (a +ℤ a))
even_place inst sched k n _ (of_task i low below) =
    even_less inst.travel (parts_off inst sched i (2 * n) 2) (bay_ahead inst (crane_of sched i) (bay_of inst i) k)
    (max (start_of sched i - n) (n - end_of inst sched i)) (omega arith)
even_place inst sched k n _ (of_berth v below) =
    even_less inst.travel (2 * n - 2 * (crane inst v).ready) (bay_ahead inst v (crane inst v).bay k)
    (n - (crane inst v).ready) (omega arith)
even_place inst sched k n _ (of_floor y is) =
    let h = even_less inst.travel 0 y 0 refl in
    (h.0, omega (arith, ints, h.1))

-- ---- a leg

leg_none : (b : Bool) (n : ℕ) → b ≡ true → cond b 0 n ≡ 0
leg_none true n e = refl
leg_none false n e = absurd (cc e)

leg_all : (b : Bool) (n : ℕ) → b ≢ true → cond b 0 n ≡ n
leg_all true n e = absurd (e refl)
leg_all false n e = refl

leg_short : (b : Bool) (n : ℕ) → n ≡ 0 → cond b 0 n ≡ 0
leg_short true n e = refl
leg_short false n e = e

-- a crane stands at u at half tick a and at v at b, and goes evenly: from m to n it is the time of the leg
module _ (u v : ℤ) (a m n b : ℕ) (am : a ≤ m) (mn : m ≤ n) (nb : n ≤ b) (ab : a < b) where
  abbrev time : ℕ
  time = cond (unsigned_abs (u -ℤ v) == 0) 0 (n - m)

  goes : (y z e : ℤ) → u ≢ v → z ≡ (y +ℤ pos (n - m) +ℤ e +ℤ e) → IsLike y z time
  goes y z e differs is =
      let k = leg_all (unsigned_abs (u -ℤ v) == 0) (n - m)
      (λ t. let none = eqb-true (unsigned_abs (u -ℤ v)) 0 t in differs (omega (arith, ints, none))) in
      (e, is ∙ ap (λ (x : ℕ). y +ℤ pos x +ℤ e +ℤ e) (sym k))

  leg_by : (o : Ordering) (x y z : ℤ) → u ≡ x → v ≡ moved o x (b - a) → y ≡ moved o x (m - a) → z ≡ moved o x (n - a)
      → IsLike y z time
  leg_by Less x y z ux vx yx zx =
      goes y z (pos 0 -ℤ pos (n - m)) (λ e. absurd (omega (arith, ints, e, ux, vx, ab))) (omega (arith, ints, yx, zx, am, mn))
  leg_by Greater x y z ux vx yx zx =
      goes y z (pos 0) (λ e. absurd (omega (arith, ints, e, ux, vx, ab))) (omega (arith, ints, yx, zx, am, mn))
  leg_by Equal x y z ux vx yx zx =
      let none : unsigned_abs (u -ℤ v) ≡ 0 = omega (arith, ints, ux, vx) in
      like_same y z time (zx ∙ sym yx)
      (leg_none (unsigned_abs (u -ℤ v) == 0) (n - m) (eq-eqb (unsigned_abs (u -ℤ v)) 0 none))

module _ (it : FreeSwept) (s : IsFreeSound it) (points : List HalfPoint)
    (h : AreHalfPoints it.inst it.sched it.crane points) (from till : ℕ) (order : from ≤ till) where
  abbrev at : ℕ → ℕ
  at i = (point points i).at

  abbrev place : ℕ → ℤ
  place m = place_at it m

  abbrev cut : ℕ → ℕ
  cut m = clipped from till m

  -- the time that is told of leg i
  abbrev told : ℕ → ℕ
  told i = leg from till (of_half (point points i)) (of_half (point points (i + 1)))

  leg_like : (i : ℕ) → i + 1 < length points → IsLike (place (cut (at i))) (place (cut (at (i + 1)))) (told i)
  leg_like i low = elim (cases_lt (cut (at i)) (cut (at (i + 1)))) [
    | inr none ↦
        let same : cut (at (i + 1)) ≡ cut (at i) = omega (arith, r) in
        like_same (place (cut (at i))) (place (cut (at (i + 1)))) (told i) (ap place same)
        (leg_short (unsigned_abs ((point points i).place -ℤ (point points (i + 1)).place) == 0) (cut (at (i + 1)) - cut (at i)) (omega arith))
    | inl some ↦
        leg_by (point points i).place (point points (i + 1)).place (at i) (cut (at i)) (cut (at (i + 1))) (at (i + 1))
        (omega arith) (omega arith) (omega arith) r
        (way it s points h i low).0 (place (at i)) (place (cut (at i))) (place (cut (at (i + 1))))
        (there it s points h i (omega arith))
        (there it s points h (i + 1) low ∙ come (at (i + 1)) (omega (arith, r)) (omega arith))
        (come (cut (at i)) (omega arith) (omega arith))
        (come (cut (at (i + 1))) (omega arith) (omega arith))
  ]
    where
      r : at i < at (i + 1)
      r = h.rising i (i + 1) no_point (omega arith) low

      come : (m : ℕ) → at i ≤ m → m ≤ at (i + 1)
          → place m ≡ moved (way it s points h i low).0 (place (at i)) (m - at i)
      come m after before =
          let e : at i + (m - at i) ≡ m = omega arith in
          sym (ap place e) ∙ along it s points h i low (m - at i) (omega arith)

  -- and of the first n legs
  legs_like : (n : ℕ) → n < length points
      → IsLike (place (cut (at 0))) (place (cut (at n))) (sum_by told (range_with_len 0 n))
  legs_like zero low = like_same (place (cut (at 0))) (place (cut (at 0))) 0 refl refl
  legs_like (suc n) low =
      let next : n + 1 ≡ suc n = omega arith in
      like_more (place (cut (at 0))) (place (cut (at n))) (place (cut (at (suc n))))
      (sum_by told (range_with_len 0 n)) (told n) (sum_by told (range_with_len 0 (suc n)))
      (sym (ap (λ (x : ℕ). sum_by told (range_with_len 0 x)) next) ∙ sum_next told n)
      (legs_like n (omega arith))
      (subst (λ (x : ℕ). IsLike (place (cut (at n))) (place (cut (at x))) (told n)) next (leg_like n (omega arith)))

  -- ---- the first point and the last one

  found : (m : ℕ) → IsNamed it.inst it.sched it.crane m → (i : ℕ) × (i < length points) × (at i ≡ m)
  found m named =
      let c = (h.ticks m).1 named in
      let l : c.0 < length points = omega (arith, c.1, length-map points tick_of) in
      (c.0, l, sym (get_or-map tick_of points c.0 no_point m l) ∙ c.2)

  first : (0 < length points) × (at 0 ≡ 0)
  first =
      let f = found 0 (inl refl) in
      let low : f.0 < length points = f.1 in
      let is : at f.0 ≡ 0 = f.2 in
      elim (cases_lt 0 f.0) [
        | inl later ↦ let r = h.rising 0 f.0 no_point later low in absurd (omega (arith, r, is))
        | inr here ↦ let e : f.0 ≡ 0 = omega arith in (omega (arith, low), sym (ap at e) ∙ is)
      ]

  last : at (length points - 1) ≡ 2 * ends it.inst it.sched
  last =
      let f = found (2 * ends it.inst it.sched) (inr (inl refl)) in
      let low : f.0 < length points = f.1 in
      let is : at f.0 ≡ 2 * ends it.inst it.sched = f.2 in
      elim (cases_lt f.0 (length points - 1)) [
        | inl sooner ↦
            let r = h.rising f.0 (length points - 1) no_point sooner (omega arith) in
            let w = within it s points h (length points - 1) (omega arith) in
            absurd (omega (arith, r, is, w))
        | inr here ↦ let e : f.0 ≡ length points - 1 = omega arith in sym (ap at e) ∙ is
      ]

  -- from one whole tick to another
  all_even : (f t : ℕ) → from ≡ 2 * f → till ≡ 2 * t → t ≤ ends it.inst it.sched
      → let n = sum_by told (range_with_len 0 (length points - 1)) in 2 * (n / 2) ≡ n
  all_even f t f_is t_is early =
      let from_at : cut (at 0) ≡ 2 * f = omega (arith, first.1, f_is, order) in
      let till_at : cut (at (length points - 1)) ≡ 2 * t = omega (arith, last, t_is, early, order) in
      let a = even_place it.inst it.sched it.crane f (place (2 * f)) (place_is it s (2 * f)).is in
      let b = even_place it.inst it.sched it.crane t (place (2 * t)) (place_is it s (2 * t)).is in
      like_even (place (cut (at 0))) (place (cut (at (length points - 1)))) a.0 b.0 (sum_by told (range_with_len 0 (length points - 1)))
      (ap place from_at ∙ a.1) (ap place till_at ∙ b.1) (legs_like (length points - 1) (omega (arith, first.0)))

-- the half ticks in which the crane goes from one whole tick to another are an even number
pub halves_even : (inst : InstanceView) (sched : List Slot) (k : ℕ) (points : List Waypoint) → Valid inst
    → k < length inst.cranes → IsFreeTrack inst sched k points → (f t : ℕ) → f ≤ t → t ≤ ends inst sched
    → 2 * (time_moving points (2 * f) (2 * t) / 2) ≡ time_moving points (2 * f) (2 * t)
halves_even inst sched k points valid low is f t order early =
    let bottom = floor_exists inst sched k low in
    let it : FreeSwept = record { inst = inst; sched = sched; crane = k; floor = bottom.0 } in
    let s : IsFreeSound it = record { valid = valid; range = low; floor = bottom.1 } in
    let hs = is.halves in
    let e = all_even it s hs is.are (2 * f) (2 * t) (omega arith) f t refl refl early in
    subst (λ (n : ℕ). 2 * (n / 2) ≡ n) (sym (same points hs is.points_are)) e
  where
    same : (ps : List Waypoint) (hs : List HalfPoint) → ps ≡ map of_half hs
        → time_moving ps (2 * f) (2 * t)
        ≡ sum_by (λ i. leg (2 * f) (2 * t) (of_half (point hs i)) (of_half (point hs (i + 1)))) (range_with_len 0 (length hs - 1))
    same ps hs e =
        let count : length ps ≡ length hs = ap (λ (l : List Waypoint). length l) e ∙ length-map hs of_half in
        let here = λ (i : ℕ) (l : i < length hs). ap (λ (l : List Waypoint). waypoint l i) e ∙ get_or-map of_half hs i no_point no_waypoint l in
        ap (λ (n : ℕ). sum_by (λ i. leg (2 * f) (2 * t) (waypoint ps i) (waypoint ps (i + 1))) (range_with_len 0 n)) (ap (λ (n : ℕ). n - 1) count)
        ∙ sum_same (λ i. leg (2 * f) (2 * t) (waypoint ps i) (waypoint ps (i + 1)))
        (λ i. leg (2 * f) (2 * t) (of_half (point hs i)) (of_half (point hs (i + 1)))) 0 (length hs - 1)
        (λ i l. ap₂ (leg (2 * f) (2 * t)) (here i (omega arith)) (here (i + 1) (omega arith)))
