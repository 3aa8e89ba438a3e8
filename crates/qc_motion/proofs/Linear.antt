-- Between two waypoints a crane goes evenly, fractions of a tick included.
use Rattle.std.proofs.Common.{◌≡◌, ℕ, ◌+◌, ◌-◌, ◌*◌, ◌/◌, ◌%◌, ◌<◌, ◌≤◌, ℤ, pos, ◌+ℤ◌, ◌-ℤ◌, ◌*ℤ◌, inl, inr, List, length, refl, sym, ap, subst, ◌∙◌, mul-le-mul_left, arith}
use Rattle.std.proofs.lemmas.Bool.{cases_lt}
use Rattle.std.proofs.lemmas.Int.{ints}
use Rattle.std.specs.declared.cmp.Ordering.{Ordering}
use Rattle.std.specs.declared.cmp.Ordering.TheVariants.{Less, Equal, Greater}
use Rattle.qc_model.specs.declared.direction.Direction.{Direction}
use Rattle.qc_model.specs.declared.schedule.Slot.{Slot}
use Rattle.qc_model.specs.Instance.{InstanceView, Valid}
use Rattle.qc_model.specs.Judge.{Goes}
use Rattle.qc_model.specs.Motion.{IsPlace}
use Rattle.qc_model.proofs.Places.{place_exists}
use Rattle.qc_model.proofs.Scaled.{scaled_sum}
use Rattle.qc_model.proofs.WholeTicks.{linear_within}
use Rattle.qc_motion.specs.declared.track.Waypoint.{Waypoint}
use Rattle.qc_motion.specs.Sweep.{moved}
use Rattle.qc_motion.specs.Waypoints.{IsOnLine, MovesBetween, waypoint}
use Rattle.qc_motion.proofs.Legs.{IsLeg, place_once}
use Rattle.qc_motion.proofs.Named.{IsWhole, place_at}

-- r of d parts of the way from one tick to the next, while a crane goes one way
pub part_way : (o : Ordering) (d r x y : ℕ) (p : ℤ) → y ≡ d * x + r
    → ((pos d *ℤ moved o p x) +ℤ (pos r *ℤ (moved o p (x + 1) -ℤ moved o p x))) ≡ moved o (pos d *ℤ p) y
part_way Greater d r x y p e =
    let one : ((p +ℤ pos (x + 1)) -ℤ (p +ℤ pos x)) ≡ pos 1 = omega (arith, ints) in
    let step = ap (λ z. pos r *ℤ z) one in
    omega (arith, ints, scaled_sum d (p +ℤ pos x) p (pos x) refl, step)
part_way Equal d r x y p e =
    let none : (p -ℤ p) ≡ pos 0 = omega (arith, ints) in
    let step = ap (λ z. pos r *ℤ z) none in
    omega (arith, ints, step)
part_way Less d r x y p e =
    let one : ((p -ℤ pos x) -ℤ (p -ℤ pos (x + 1))) ≡ pos 1 = omega (arith, ints) in
    let step = scaled_sum r (pos 0) (pos 1) ((p -ℤ pos (x + 1)) -ℤ (p -ℤ pos x)) (omega (arith, ints)) in
    omega (arith, ints, scaled_sum d p (p -ℤ pos x) (pos x) (omega (arith, ints)), step)

-- such a place lies on the line from where the crane was to where it comes
pub on_line : (o : Ordering) (n y : ℕ) (whole x z p : ℤ) → z ≡ moved o x n → p ≡ moved o whole y
    → (p *ℤ pos n) ≡ ((whole *ℤ pos n) +ℤ ((z -ℤ x) *ℤ pos y))
on_line Greater n y whole x z p e f =
    let way : (z -ℤ x) ≡ pos n = omega (arith, ints) in
    omega (arith, ints, scaled_sum n p whole (pos y) f, ap (λ w. w *ℤ pos y) way)
on_line Equal n y whole x z p e f =
    let way : (z -ℤ x) ≡ pos 0 = omega (arith, ints) in
    omega (arith, ints, ap (λ w. w *ℤ pos n) f, ap (λ w. w *ℤ pos y) way)
on_line Less n y whole x z p e f =
    let way : (x -ℤ z) ≡ pos n = omega (arith, ints) in
    let back = scaled_sum y (pos 0) (z -ℤ x) (x -ℤ z) (omega (arith, ints)) in
    omega (arith, ints, scaled_sum n whole p (pos y) (omega (arith, ints)), back, ap (λ w. pos y *ℤ w) way)

-- a moment between two whole ticks, as a tick and parts of the next
pub record Parts (d low high m : ℕ) : Type 0 where
  pub tick : ℕ
  pub parts : ℕ
  pub few : parts ≤ d
  pub after : low ≤ tick
  pub before : tick + 1 ≤ high
  pub is : m ≡ d * tick + parts

not_more : (a b : ℕ) → (b < a → ⊥) → a ≤ b
not_more a b h = elim (cases_lt b a) [ inl l ↦ absurd (h l) | inr l ↦ l ]

pub parts_of : (d low high m : ℕ) → 1 ≤ d → low < high → d * low ≤ m → m ≤ d * high → Parts d low high m
parts_of d low high m some order from to = elim (cases_lt m (d * high)) [
  | inl l ↦ record {
    tick = m / d;
    parts = m % d;
    few = omega arith;
    after = not_more low (m / d) (λ h. let g = mul-le-mul_left d h in omega arith);
    before = not_more (m / d + 1) high (λ h. let g = mul-le-mul_left d h in omega arith);
    is = omega arith;
  }
  | inr l ↦ record {
    tick = high - 1;
    parts = d;
    few = omega arith;
    after = omega arith;
    before = omega arith;
    is = let e : high ≡ (high - 1) + 1 = omega arith in omega (arith, ap (λ n. d * n) e);
  }
]

module _ (inst : InstanceView) (sched : List Slot) (way : Direction) (k : ℕ) (valid : Valid inst)
    (goes : Goes inst sched way)
    (low : k < length inst.cranes) (points : List Waypoint) (h : IsWhole inst sched way k points) where
  leg_line : (u v : Waypoint) → IsLeg inst sched way k u v → (m d : ℕ) (p : ℤ) → 1 ≤ d
      → IsPlace inst sched way k m d p
      → d * u.at ≤ m → m ≤ d * v.at → IsOnLine u v m d p
  leg_line u v leg m d p some place from to =
      let t = parts_of d u.at v.at m some leg.rising from to in
      let x : ℕ = t.tick - u.at in
      let r = t.parts in
      let tick_is : u.at + x ≡ t.tick = omega (arith, t.after) in
      let next_is : u.at + (x + 1) ≡ t.tick + 1 = omega (arith, t.after) in
      let here =
      subst (λ (n : ℕ). IsPlace inst sched way k n 1 (moved leg.way_on u.place x)) tick_is
      (leg.along x (omega (arith, t.after, t.before))) in
      let next =
      subst (λ (n : ℕ). IsPlace inst sched way k n 1 (moved leg.way_on u.place (x + 1))) next_is
      (leg.along (x + 1) (omega (arith, t.after, t.before))) in
      let there = linear_within inst sched way valid goes k t.tick d r _ _ low t.few here next in
      let y : ℕ = m - d * u.at in
      let y_is : y ≡ d * x + r = omega (arith, t.is, ap (λ n. d * n) tick_is) in
      let z =
      (pos d *ℤ moved leg.way_on u.place x) +ℤ
      (pos r *ℤ (moved leg.way_on u.place (x + 1) -ℤ moved leg.way_on u.place x)) in
      let same =
      place_once inst sched way k m d p z place
      (subst (λ (n : ℕ). IsPlace inst sched way k n d z) (sym t.is) there) in
      on_line leg.way_on (v.at - u.at) y (pos d *ℤ u.place) u.place v.place p leg.ends_at
      (same ∙ part_way leg.way_on d r x y u.place y_is)

  -- a crane of a schedule that ends at once stands still
  stands : length points ≡ 1 → (m d : ℕ) (p : ℤ) → IsPlace inst sched way k m d p → m ≡ 0
      → p ≡ (pos d *ℤ (waypoint points 0).place)
  stands only m d p place none =
      let start =
      subst (λ (n : ℕ). IsPlace inst sched way k n 1 (waypoint points 0).place) h.first
      (place_at inst sched way k points h 0 h.some) in
      let next = place_exists inst sched way k 1 1 low in
      let there =
      linear_within inst sched way valid goes k 0 d 0 (waypoint points 0).place next.0 low
      (omega arith) start next.1 in
      let z = (pos d *ℤ (waypoint points 0).place) +ℤ (pos 0 *ℤ (next.0 -ℤ (waypoint points 0).place)) in
      let tick : d * 0 + 0 ≡ m = omega arith in
      let same =
      place_once inst sched way k m d p z place (subst (λ (n : ℕ). IsPlace inst sched way k n d z) tick there) in
      omega (arith, ints, same)

  pub moves_between : MovesBetween inst sched way k points
  moves_between m d p some early place = record {
    alone = λ only none. stands only m d p place none;
    linear = λ i l from to. leg_line _ _ (h.legs i l) m d p some place from to;
  }
