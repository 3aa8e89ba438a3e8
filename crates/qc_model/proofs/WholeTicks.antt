-- In a one-way schedule places change their slopes at whole ticks alone: between two of them a place is linear.
use Rattle.std.proofs.Common.{◌≡◌, ℕ, ◌+◌, ◌-◌, ◌*◌, ◌<◌, ◌≤◌, ℤ, pos, negsuc, ◌+ℤ◌, ◌-ℤ◌, ◌*ℤ◌, ◌≤ℤ◌, inl, inr, List, length, subst, sym, refl, ap, ap₂, ◌∙◌, arith, mul-le-mul_left, mul-zero}
use Rattle.std.proofs.lemmas.Bool.{cases_lt}
use Rattle.std.proofs.lemmas.Int.{by_lt_z, ints}
use borrow.Author.Differences.{down, product_is, up}
use Rattle.qc_model.specs.declared.direction.Direction.{Direction}
use Rattle.qc_model.specs.declared.direction.Direction.TheVariants.{Up, Down}
use Rattle.qc_model.specs.declared.schedule.Slot.{Slot}
use Rattle.qc_model.specs.Instance.{InstanceView, Valid, crane}
use Rattle.qc_model.specs.Judge.{Goes}
use Rattle.qc_model.specs.Motion.{IsFloor, IsGreatest, IsPlace, LowPlace, scaled}
use Rattle.qc_model.specs.OneWay.{GoesUp, mirror, mirror_schedule}
use Rattle.qc_model.specs.Rules.{crane_of, start_of}
use Rattle.qc_model.proofs.MirrorLemmas.{mirror_valid}
use Rattle.qc_model.proofs.SeenLemmas.{seen-crane_count}
use Rattle.qc_model.proofs.Scaled.{scaled_le, scaled_sum}
use Rattle.qc_model.proofs.Levels.{HasLevels, before, berth_at, berth_level, levels_of, task_at, task_level, visits_of}
use Rattle.qc_model.proofs.Moves.{floor_moment}
use Rattle.qc_model.proofs.Places.{Term, floor_exists, up_low}
use Rattle.qc_model.proofs.Places.Term.{berth, floor, task}
use Rattle.qc_model.proofs.PlaceTerms.{HasFloor, IsTop, floor_level, greatest_of, has_floor, level_at, lift, top_of}
use Rattle.qc_model.proofs.Standing.{step}

-- ---- numbers

-- the number r of d steps on the way from one number to another, d times as large
abbrev pub mixed : ℕ → ℕ → ℤ → ℤ → ℤ
mixed d r a b = (pos d *ℤ a) +ℤ (pos r *ℤ (b -ℤ a))

mixed_is : (d r : ℕ) (a b n : ℤ) → (b -ℤ a) ≡ n → mixed d r a b ≡ ((pos d *ℤ a) +ℤ (pos r *ℤ n))
mixed_is d r a b n e = ap (λ z. (pos d *ℤ a) +ℤ (pos r *ℤ z)) e

mixed_parts : (d r e : ℕ) (a b : ℤ) → d ≡ e + r → mixed d r a b ≡ ((pos e *ℤ a) +ℤ (pos r *ℤ b))
mixed_parts d r e a b is =
    let parts = scaled_sum r b (b -ℤ a) a (omega (arith, ints)) in
    let ups = ap (λ n. n * up a) is in
    let downs = ap (λ n. n * down a) is in
    omega (arith, ints)

mixed_le : (d r : ℕ) (a b x y : ℤ) → r ≤ d → a ≤ℤ x → b ≤ℤ y → mixed d r a b ≤ℤ mixed d r x y
mixed_le d r a b x y part h k =
    let e : d ≡ (d - r) + r = omega arith in
    let one = mixed_parts d r (d - r) a b e in
    let other = mixed_parts d r (d - r) x y e in
    omega (arith, ints, one, other, scaled_le (d - r) a x h, scaled_le r b y k)

mixed_lift : (d r : ℕ) (a b c : ℤ) → mixed d r (a +ℤ c) (b +ℤ c) ≡ (mixed d r a b +ℤ (pos d *ℤ c))
mixed_lift d r a b c =
    let parts = scaled_sum d (a +ℤ c) a c refl in
    let same : ((b +ℤ c) -ℤ (a +ℤ c)) ≡ (b -ℤ a) = omega (arith, ints) in
    let way = mixed_is d r (a +ℤ c) (b +ℤ c) (b -ℤ a) same in
    omega (arith, ints, parts, way)

mixed_flat : (d r : ℕ) (a b : ℤ) → b ≡ a → mixed d r a b ≡ (pos d *ℤ a)
mixed_flat d r a b e =
    let way = mixed_is d r a b (pos 0) (omega (arith, ints)) in omega (arith, ints, way)

-- ---- terms

module _ (level high : ℤ) (d r a : ℕ) (is : high ≡ (pos d *ℤ level)) (part : r ≤ d) where
  -- below its level by as many parts as there are until a tick, or since a tick
  abbrev until : ℤ → ℕ → ℕ → ℕ → ℤ
  until x e m s = x -ℤ pos (e * s - m)

  abbrev since : ℤ → ℕ → ℕ → ℕ → ℤ
  since x e m s = x -ℤ pos (m - e * s)

  -- a term that rises from n ticks below its level
  rises : (n s : ℕ) → s ≡ a + n → 1 ≤ n
      → until high d (d * a + r) s ≡ mixed d r (until level 1 a s) (until level 1 (a + 1) s)
  rises n s e far =
      let way = mixed_is d r (until level 1 a s) (until level 1 (a + 1) s) (pos 1) (omega (arith, ints)) in
      let down_by = scaled_sum d level (level -ℤ pos n) (pos n) (omega (arith, ints)) in
      let same : until level 1 a s ≡ (level -ℤ pos n) = omega (arith, ints) in
      let under = ap (λ z. pos d *ℤ z) same in
      let times = ap (λ m. d * m) e in
      let least = mul-le-mul_left d far in
      omega (arith, ints, way, down_by, under, times, least)

  -- one that has come
  come : (s : ℕ) → s ≤ a
      → until high d (d * a + r) s ≡ mixed d r (until level 1 a s) (until level 1 (a + 1) s)
  come s late =
      let way = mixed_flat d r (until level 1 a s) (until level 1 (a + 1) s) (omega (arith, ints)) in
      let same : until level 1 a s ≡ level = omega (arith, ints) in
      let under = ap (λ z. pos d *ℤ z) same in
      let times = mul-le-mul_left d late in
      omega (arith, ints, way, under, times)

  -- one that has been falling for n ticks
  falls : (n s : ℕ) → a ≡ s + n
      → since high d (d * a + r) s ≡ mixed d r (since level 1 a s) (since level 1 (a + 1) s)
  falls n s e =
      let way = mixed_is d r (since level 1 a s) (since level 1 (a + 1) s) (negsuc 0) (omega (arith, ints)) in
      let down_by = scaled_sum d level (level -ℤ pos n) (pos n) (omega (arith, ints)) in
      let same : since level 1 a s ≡ (level -ℤ pos n) = omega (arith, ints) in
      let under = ap (λ z. pos d *ℤ z) same in
      let times = ap (λ m. d * m) e in
      omega (arith, ints, way, down_by, under, times)

  -- one that still stands
  stands : (n s : ℕ) → s ≡ a + n → 1 ≤ n
      → since high d (d * a + r) s ≡ mixed d r (since level 1 a s) (since level 1 (a + 1) s)
  stands n s e far =
      let way = mixed_flat d r (since level 1 a s) (since level 1 (a + 1) s) (omega (arith, ints)) in
      let same : since level 1 a s ≡ level = omega (arith, ints) in
      let under = ap (λ z. pos d *ℤ z) same in
      let times = ap (λ m. d * m) e in
      let least = mul-le-mul_left d far in
      omega (arith, ints, way, under, times, least)

  coming : (s : ℕ) → until high d (d * a + r) s ≡ mixed d r (until level 1 a s) (until level 1 (a + 1) s)
  coming s = elim (cases_lt a s) [ inl l ↦ rises (s - a) s (omega arith) (omega arith) | inr l ↦ come s l ]

  leaving : (s : ℕ) → since high d (d * a + r) s ≡ mixed d r (since level 1 a s) (since level 1 (a + 1) s)
  leaving s = elim (cases_lt a s) [
    | inl l ↦ stands (s - a) s (omega arith) (omega arith)
    | inr l ↦ falls (a - s) s (omega arith)
  ]

times : (d t : ℕ) (x : ℤ) → (pos (d * t) *ℤ x) ≡ (pos d *ℤ (pos (1 * t) *ℤ x))
times d t x =
    let inner = product_is (pos (1 * t)) x in
    let ups = ap (λ n. d * n) inner.0 in
    let downs = ap (λ n. d * n) inner.1 in
    omega (arith, ints, ups, downs)

module _ (inst : InstanceView) (sched : List Slot) (k : ℕ) (x : ℤ) where
  -- the level and the place that a term gives
  abbrev level : ℕ → Term inst sched k → ℕ → ℤ
  level d t m = level_at inst sched k x d (before sched d) t m

  abbrev height : ℕ → Term inst sched k → ℕ → ℤ
  height d t m = level d t m +ℤ lift inst d k

  -- p is the greatest of them at a tick
  abbrev IsOnTop : ℕ → ℤ → Type 0
  IsOnTop m p = IsTop inst sched k x 1 (before sched 1) m p

  module _ (d r a : ℕ) (part : r ≤ d) where
    level_part : (t : Term inst sched k) → level d t (d * a + r) ≡ mixed d r (level 1 t a) (level 1 t (a + 1))
    unfolding task_level berth_level floor_level
    level_part (task i low below) =
        coming (task_level inst sched 1 i) (task_level inst sched d i) d r a (times d inst.travel _) part
        (start_of sched i)
    level_part (berth v below) =
        leaving (berth_level inst 1 v) (berth_level inst d v) d r a (times d inst.travel _) part
        (crane inst v).ready
    level_part floor =
        times d inst.travel _ ∙ sym (mixed_flat d r (floor_level inst 1 k x) (floor_level inst 1 k x) refl)

    -- between two whole ticks a term goes evenly
    height_part : (t : Term inst sched k)
        → height d t (d * a + r) ≡ mixed d r (height 1 t a) (height 1 t (a + 1))
    unfolding lift
    height_part t =
        ap₂ (λ p q. p +ℤ q) (level_part t) (times d inst.travel (pos (inst.gap * k)))
        ∙ sym (mixed_lift d r (level 1 t a) (level 1 t (a + 1)) (lift inst 1 k))

  -- one term gives the place at both ends of a tick
  record IsCommon (m n : ℕ) (p q : ℤ) : Type 0 where
    term : Term inst sched k
    now : p ≡ height 1 term m
    next : q ≡ height 1 term n

  linear_by : (d r a : ℕ) (p q : ℤ) → r ≤ d → IsFloor inst sched k x → IsCommon a (a + 1) p q
      → IsOnTop a p → IsOnTop (a + 1) q
      → IsGreatest (LowPlace inst sched k (d * a + r) d) (mixed d r p q)
  linear_by d r a p q part f common here there =
      greatest_of inst sched k x d (before sched d) (d * a + r) _ (up_low inst sched k (d * a + r) d x f)
      (mixed d r p q) (record {
        from = common.term;
        is = ap₂ (mixed d r) common.now common.next ∙ sym (height_part d r a part common.term);
        most = λ t. subst (λ (z : ℤ). z ≤ℤ mixed d r p q) (sym (height_part d r a part t))
            (mixed_le d r _ _ p q part (here.most t) (there.most t));
      })

  -- a term that gives the place p at one end, and none below it at the other
  record IsLasting (m n : ℕ) (p : ℤ) : Type 0 where
    term : Term inst sched k
    now : p ≡ height 1 term m
    on : height 1 term m ≤ℤ height 1 term n

  -- with one, some term gives both places: it, or the one that gives the other
  common_of : (m n : ℕ) (p q : ℤ) → IsOnTop m p → IsOnTop n q
      → ((t : Term inst sched k) → height 1 t n ≤ℤ (height 1 t m +ℤ pos 1)) → IsLasting m n p → IsCommon m n p q
  common_of m n p q here there near one =
      let most = there.most one.term in
      by_lt_z (height 1 one.term n) q
      (λ lower.
      let by_one = near there.from in
      let other = here.most there.from in
      let same : p ≡ height 1 there.from m = omega (arith, ints, one.now, one.on, there.is, by_one, other) in
      record { term = there.from; now = same; next = there.is })
      (λ higher. record { term = one.term; now = one.now; next = omega (arith, ints, most) })

  module _ (h : HasLevels inst sched 1) (f : HasFloor inst sched 1 k (floor_level inst 1 k x)) (a : ℕ) (p q : ℤ)
      (here : IsOnTop a p) (there : IsOnTop (a + 1) q) where
    rising : ((v : ℕ) → v ≤ k → berth_at inst 1 v a ≤ℤ floor_level inst 1 k x)
        → (t : Term inst sched k) → p ≡ height 1 t a → IsLasting a (a + 1) p
    rising low (task i is below) e = record { term = task i is below; now = e; on = omega (arith, ints) }
    rising low (berth v below) e =
        let most = here.most floor in
        let under = low v below in
        record { term = floor; now = omega (arith, ints, most, under, e); on = omega (arith, ints) }
    rising low floor e = record { term = floor; now = e; on = omega (arith, ints) }

    sinking : ((i : ℕ) → i < length inst.tasks → crane_of sched i ≤ k
        → task_at inst sched 1 i (a + 1) ≤ℤ floor_level inst 1 k x)
        → (t : Term inst sched k) → q ≡ height 1 t (a + 1) → IsLasting (a + 1) a q
    sinking low (task i is below) e =
        let most = there.most floor in
        let under = low i is below in
        record { term = floor; now = omega (arith, ints, most, under, e); on = omega (arith, ints) }
    sinking low (berth v below) e = record { term = berth v below; now = e; on = omega (arith, ints) }
    sinking low floor e = record { term = floor; now = e; on = omega (arith, ints) }

    near : (t : Term inst sched k) → (height 1 t a ≤ℤ (height 1 t (a + 1) +ℤ pos 1))
        × (height 1 t (a + 1) ≤ℤ (height 1 t a +ℤ pos 1))
    near t =
        let by_one = step inst sched 1 (before sched 1) (visits_of inst sched 1 h) k x a t in
        (omega (arith, ints, by_one.0), omega (arith, ints, by_one.1))

    common : IsCommon a (a + 1) p q
    common =
        let moment = floor_moment inst sched 1 h k x f f.from in
        elim (cases_lt a moment.0) [
          | inl early ↦
              let one = common_of (a + 1) a q p there here (λ t. (near t).0)
              (sinking (moment.1.tasks (a + 1) (omega arith)) there.from there.is) in
              record { term = one.term; now = one.next; next = one.now }
          | inr late ↦ common_of a (a + 1) p q here there (λ t. (near t).1)
              (rising (moment.1.berths a (omega arith)) here.from here.is)
        ]

-- ---- between two whole ticks a place is linear

linear_up : (inst : InstanceView) (sched : List Slot) → Valid inst → GoesUp inst sched
    → (k a d r : ℕ) (p q : ℤ) → k < length inst.cranes → r ≤ d
    → IsPlace inst sched Up k a 1 p → IsPlace inst sched Up k (a + 1) 1 q
    → IsPlace inst sched Up k (d * a + r) d (mixed d r p q)
linear_up inst sched valid goes k a d r p q low part g h =
    let (x, f) = floor_exists inst sched k low in
    let here = top_of inst sched k x 1 (before sched 1) a _ (up_low inst sched k a 1 x f) p g in
    let there = top_of inst sched k x 1 (before sched 1) (a + 1) _ (up_low inst sched k (a + 1) 1 x f) q h in
    let floored = has_floor inst sched 1 k x f in
    let one = common inst sched k x (levels_of inst sched goes valid 1) floored a p q here there in
    linear_by inst sched k x d r a p q part f one here there

turned : (d r : ℕ) (p q c b : ℤ) → b ≡ (pos d *ℤ c) → mixed d r (c -ℤ p) (c -ℤ q) ≡ (b -ℤ mixed d r p q)
turned d r p q c b e =
    let first = scaled_sum d c (c -ℤ p) p (omega (arith, ints)) in
    let way = mixed_is d r (c -ℤ p) (c -ℤ q) (p -ℤ q) (omega (arith, ints)) in
    let back = scaled_sum r (pos 0) (p -ℤ q) (q -ℤ p) (omega (arith, ints)) in
    omega (arith, ints, e, first, way, back, mul-zero r)

pub linear_within : (inst : InstanceView) (sched : List Slot) (way : Direction) → Valid inst → Goes inst sched way
    → (k a d r : ℕ) (p q : ℤ) → k < length inst.cranes → r ≤ d
    → IsPlace inst sched way k a 1 p → IsPlace inst sched way k (a + 1) 1 q
    → IsPlace inst sched way k (d * a + r) d ((pos d *ℤ p) +ℤ (pos r *ℤ (q -ℤ p)))
linear_within inst sched Up valid goes k a d r p q low part g h =
    linear_up inst sched valid goes k a d r p q low part g h
linear_within inst sched Down valid goes k a d r p q low part g h =
    let number = length inst.cranes - 1 - k in
    let there : number < length (mirror inst).cranes = omega (arith, seen-crane_count inst Down) in
    let whole = scaled inst 1 (pos (inst.bays + 1)) in
    let place = linear_up (mirror inst) (mirror_schedule inst sched) (mirror_valid inst valid) goes.mirrored
    number a d r (whole -ℤ p) (whole -ℤ q) there part g h in
    let Seen = IsGreatest (LowPlace (mirror inst) (mirror_schedule inst sched) number (d * a + r) d) in
    subst Seen (turned d r p q whole _ (times d inst.travel (pos (inst.bays + 1)))) place
