-- What holds of the motion of the cranes of a feasible schedule, whether it goes one way or to and fro.
use Rattle.std.proofs.Common.{◌≡◌, ℕ, ◌+◌, ◌-◌, ◌*◌, ◌<◌, ◌≤◌, ℤ, pos, ◌+ℤ◌, ◌-ℤ◌, ◌*ℤ◌, ◌⊎◌, inl, inr, Option, None, Some, List, length, map, refl, ap, ap₂, sym, subst, ◌∙◌, arith}
use Rattle.std.proofs.lemmas.Int.{ints}
use Rattle.std.proofs.lemmas.List.{get_or-map, length-map}
use Rattle.qc_freemove.specs.declared.track.HalfPoint.{HalfPoint}
use Rattle.qc_freemove.specs.HalfLines.{no_point, point}
use Rattle.qc_freemove.specs.HalfLines as half
use Rattle.qc_freemove.proofs.FreeSafe.{free_safe}
use Rattle.qc_model.specs.declared.direction.Direction.{Direction}
use Rattle.qc_model.specs.declared.direction.Direction.TheVariants.{Up, Down}
use Rattle.qc_model.specs.declared.schedule.Slot.{Slot}
use Rattle.qc_model.specs.Instance.{InstanceView, Valid, bay_of}
use Rattle.qc_model.specs.Judge.{Goes, IsDirection}
use Rattle.qc_model.specs.Motion.{scaled}
use Rattle.qc_model.specs.Rules.{Feasible, crane_of, end_of, ends, start_of}
use Rattle.qc_model.proofs.SafeLemmas.{safe_of}
use Rattle.qc_model.proofs.Scaled.{scaled_sum}
use Rattle.qc_motion.specs.declared.track.Waypoint.{Waypoint}
use Rattle.qc_motion.specs.Waypoints.{IsOnLine, no_waypoint, waypoint}
use Rattle.qc_figures.specs.Motions.{HasPlace, IsPath, IsWay, of_half, parts}
use Rattle.qc_figures.specs.Views.{IsRising}

pub goes_of : (inst : InstanceView) (sched : List Slot) (way : Direction) → IsDirection inst sched way → Goes inst sched way
goes_of inst sched Up is = is
goes_of inst sched Down is = is.0

pub parts_are : (way : Option Direction) → (parts way ≡ 1) ⊎ (parts way ≡ 2)
parts_are None = inr refl
parts_are (Some way) = inl refl

-- at each part of a tick up to the end each crane stands somewhere, and at its task's bay while it does the task
pub record IsMotion (inst : InstanceView) (sched : List Slot) (way : Option Direction) : Type 0 where
  pub somewhere : (k m : ℕ) → k < length inst.cranes → m ≤ parts way * ends inst sched
      → (x : ℤ) × HasPlace inst sched way k m (parts way) x
  pub at_task : (j m : ℕ) (x : ℤ) → j < length inst.tasks
      → parts way * start_of sched j ≤ m → m ≤ parts way * end_of inst sched j
      → HasPlace inst sched way (crane_of sched j) m (parts way) x → x ≡ scaled inst (parts way) (bay_of inst j)

pub motion_of : (inst : InstanceView) (sched : List Slot) (way : Option Direction) → Valid inst → Feasible inst sched
    → IsWay inst sched way → IsMotion inst sched way
motion_of inst sched None valid feasible is =
    let safe = free_safe inst sched valid.cranes feasible 2 (omega arith) in
    record { somewhere = safe.somewhere; at_task = safe.at_task }
motion_of inst sched (Some way) valid feasible is =
    let safe = safe_of inst sched way valid (goes_of inst sched way is) 1 (omega arith) in
    record { somewhere = safe.somewhere; at_task = safe.at_task }

-- place x at moment m lies on the line from one waypoint to another, both moments told in the same parts
abbrev pub IsBetween : Waypoint → Waypoint → ℕ → ℤ → Type 0
IsBetween u v m x =
    (x *ℤ pos (v.at - u.at)) ≡ ((u.place *ℤ pos (v.at - u.at)) +ℤ ((v.place -ℤ u.place) *ℤ pos (m - u.at)))

whole_line : (u v : Waypoint) (m : ℕ) (x : ℤ) → IsOnLine u v m 1 x → IsBetween u v m x
whole_line u v m x is =
    let one : (pos 1 *ℤ u.place) ≡ u.place = omega (arith, ints) in
    let none : m - 1 * u.at ≡ m - u.at = omega arith in
    is
    ∙ ap₂ (λ (z : ℤ) (n : ℕ). (z *ℤ pos (v.at - u.at)) +ℤ ((v.place -ℤ u.place) *ℤ pos n)) one none

-- the half of what is twice on a line
halved : (x p q : ℤ) (l a b : ℕ) → b ≡ a + a
    → (pos 2 *ℤ x *ℤ pos l) ≡ ((pos 2 *ℤ p *ℤ pos l) +ℤ (q *ℤ pos b))
    → (x *ℤ pos l) ≡ ((p *ℤ pos l) +ℤ (q *ℤ pos a))
halved x p q l a b e is =
    let one = scaled_sum l (pos 2 *ℤ x) x x (omega (arith, ints)) in
    let two = scaled_sum l (pos 2 *ℤ p) p p (omega (arith, ints)) in
    let three : (q *ℤ pos b) ≡ (q *ℤ pos (a + a)) = ap (λ n. q *ℤ pos n) e in
    omega (arith, ints, is, one, two, three)

half_line : (u v : Waypoint) (a b : HalfPoint) (m : ℕ) (x : ℤ) → u ≡ of_half a → v ≡ of_half b → half.IsOnLine a b m 2 x
    → IsBetween u v m x
half_line u v a b m x e f is =
    rw (e, f) (halved x a.place (b.place -ℤ a.place) (b.at - a.at) (m - a.at) (2 * m - 2 * a.at) (omega arith) is)

-- the moments of a crane's waypoints rise, and it goes evenly from each to the next
pub record GoesEvenly (inst : InstanceView) (sched : List Slot) (way : Option Direction) (k : ℕ)
    (points : List Waypoint) : Type 0 where
  pub rising : IsRising points
  pub linear : (i m : ℕ) (x : ℤ) → i + 1 < length points
      → (waypoint points i).at ≤ m → m ≤ (waypoint points (i + 1)).at → m ≤ parts way * ends inst sched
      → HasPlace inst sched way k m (parts way) x → IsBetween (waypoint points i) (waypoint points (i + 1)) m x

pub evenly_of : (inst : InstanceView) (sched : List Slot) (way : Option Direction) (k : ℕ) (points : List Waypoint)
    → IsPath inst sched way k points → GoesEvenly inst sched way k points
evenly_of inst sched (Some way) k points is = record {
  rising = is.waypoints.rising;
  linear = λ i m x low after before early place.
      whole_line (waypoint points i) (waypoint points (i + 1)) m x
      ((is.between m 1 x (omega arith) early place).linear i low (omega arith) (omega arith));
}
evenly_of inst sched None k points is = record {
  rising = subst IsRising (sym is.points_are) rising;
  linear = linear;
}
  where
    count : length points ≡ length is.halves
    count = ap (λ (ps : List Waypoint). length ps) is.points_are ∙ length-map is.halves of_half

    rising : IsRising (map of_half is.halves)
    rising i j d order l =
        let m : j < length is.halves = omega (arith, l, length-map is.halves of_half) in
        let one = ap (λ (w : Waypoint). w.at) (get_or-map of_half is.halves i no_point d (omega arith)) in
        let two = ap (λ (w : Waypoint). w.at) (get_or-map of_half is.halves j no_point d m) in
        omega (arith, one, two, is.are.rising i j no_point order m)

    here : (i : ℕ) → i < length points → waypoint points i ≡ of_half (point is.halves i)
    here i low =
        ap (λ (ps : List Waypoint). waypoint ps i) is.points_are
        ∙ get_or-map of_half is.halves i no_point no_waypoint (omega (arith, low, count))

    linear : (i m : ℕ) (x : ℤ) → i + 1 < length points
        → (waypoint points i).at ≤ m → m ≤ (waypoint points (i + 1)).at → m ≤ parts None * ends inst sched
        → HasPlace inst sched None k m (parts None) x → IsBetween (waypoint points i) (waypoint points (i + 1)) m x
    linear i m x low after before early place =
        let u = here i (omega arith) in
        let v = here (i + 1) low in
        half_line (waypoint points i) (waypoint points (i + 1)) (point is.halves i) (point is.halves (i + 1)) m x u v
        (is.between i m 2 x (omega (arith, low, count)) (omega arith) (omega (arith, after, ap (λ (w : Waypoint). w.at) u)) (omega (arith, before, ap (λ (w : Waypoint). w.at) v)) place)
