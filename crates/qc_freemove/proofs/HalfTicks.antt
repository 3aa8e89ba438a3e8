-- Within a half tick every crane goes evenly: a fall and a rise never meet in the middle of one.
use Rattle.std.proofs.Common.{◌≡◌, ℕ, ◌+◌, ◌-◌, ◌*◌, ◌<◌, ◌≤◌, max, ℤ, pos, negsuc, ◌+ℤ◌, ◌-ℤ◌, ◌*ℤ◌, ◌≤ℤ◌, ◌<ℤ◌, inl, inr, length, refl, sym, ap, ap₂, subst, ◌∙◌, arith, mul-le-mul_left}
use Rattle.std.proofs.lemmas.Bool.{cases_lt}
use Rattle.std.proofs.lemmas.Int.{by_lt_z, ints}
use borrow.Author.Differences.{down, product_is, up}
use Rattle.qc_model.specs.Instance.{InstanceView, bay_of, crane}
use Rattle.qc_model.specs.Motion.{bay_ahead, berth_place, scaled}
use Rattle.qc_model.specs.Rules.{crane_of, end_of, start_of}
use Rattle.qc_model.proofs.Places.{floor_unique}
use Rattle.qc_model.proofs.Scaled.{scaled_le, scaled_sum}
use Rattle.qc_freemove.specs.declared.hold.Hold.{Hold}
use Rattle.qc_freemove.specs.FreeMotion.{FreeLowPlace, IsFreePlace, visit_place}
use Rattle.qc_freemove.specs.FreeMotion.FreeLowPlace.{of_berth, of_floor, of_task}
use Rattle.qc_freemove.specs.FreeSweep.{FreeSwept, IsFreeSound, berth_hold, floor_place, held, hold_count, hold_of, place_at, task_hold}
use Rattle.qc_freemove.proofs.SweepLemmas.{twice_scaled}
use Rattle.qc_freemove.proofs.SweptHolds.{HoldIs, felt_is, hold_is, lasting, post_is}
use Rattle.qc_freemove.proofs.SweptHolds.HoldIs.{of_one, of_post}
use Rattle.qc_freemove.proofs.Tops.{IsTaken, highest_first, highest_most, taken}
use Rattle.qc_freemove.proofs.Tops.IsTaken.{by_floor, by_hold}
use Rattle.qc_freemove.proofs.Ways.{held_step}

-- ---- numbers

-- r of d parts of the way from one number to another, d times as large
abbrev pub part : ℕ → ℕ → ℤ → ℤ → ℤ
part d r a b = (pos d *ℤ a) +ℤ (pos r *ℤ (b -ℤ a))

part_is : (d r : ℕ) (a b n : ℤ) → (b -ℤ a) ≡ n → part d r a b ≡ ((pos d *ℤ a) +ℤ (pos r *ℤ n))
part_is d r a b n e = ap (λ z. (pos d *ℤ a) +ℤ (pos r *ℤ z)) e

part_sum : (d r e : ℕ) (a b : ℤ) → d ≡ e + r → part d r a b ≡ ((pos e *ℤ a) +ℤ (pos r *ℤ b))
part_sum d r e a b is =
    let parts = scaled_sum r b (b -ℤ a) a (omega (arith, ints)) in
    let ups = ap (λ n. n * up a) is in
    let downs = ap (λ n. n * down a) is in
    omega (arith, ints)

part_le : (d r : ℕ) (a b x y : ℤ) → r ≤ d → a ≤ℤ x → b ≤ℤ y → part d r a b ≤ℤ part d r x y
part_le d r a b x y few h k =
    let e : d ≡ (d - r) + r = omega arith in
    let one = part_sum d r (d - r) a b e in
    let other = part_sum d r (d - r) x y e in
    omega (arith, ints, one, other, scaled_le (d - r) a x h, scaled_le r b y k)

part_flat : (d r : ℕ) (a b : ℤ) → b ≡ a → part d r a b ≡ (pos d *ℤ a)
part_flat d r a b e = let way = part_is d r a b (pos 0) (omega (arith, ints)) in omega (arith, ints, way)

-- ---- one hold

-- twice the place of a hold, n being twice the parts of a tick
abbrev fine : ℤ → ℕ → ℕ → ℕ → ℕ → ℤ
fine x s e d n = (pos d *ℤ x) -ℤ pos (max (d * s - n) (n - d * e))

abbrev at : ℤ → ℕ → ℕ → ℕ → ℤ
at x s e m = x -ℤ pos (max (s - m) (m - e))

module _ (x : ℤ) (s e d r a : ℕ) (few : r ≤ d) (order : s ≤ e) where
  rises : (n : ℕ) → s ≡ a + n → 1 ≤ n → fine x s e d (d * a + r) ≡ part d r (at x s e a) (at x s e (a + 1))
  rises n is far =
      let way = part_is d r (at x s e a) (at x s e (a + 1)) (pos 1) (omega (arith, ints)) in
      let same : at x s e a ≡ (x -ℤ pos n) = omega (arith, ints) in
      let whole = scaled_sum d x (x -ℤ pos n) (pos n) (omega (arith, ints)) in
      let under = ap (λ z. pos d *ℤ z) same in
      let times = ap (λ m. d * m) is in
      let least = mul-le-mul_left d far in
      let late = mul-le-mul_left d order in
      omega (arith, ints, way, whole, under, times, least, late)

  stands : (n : ℕ) → s ≤ a → e ≡ a + n → 1 ≤ n
      → fine x s e d (d * a + r) ≡ part d r (at x s e a) (at x s e (a + 1))
  stands n begun is far =
      let way = part_flat d r (at x s e a) (at x s e (a + 1)) (omega (arith, ints)) in
      let same : at x s e a ≡ x = omega (arith, ints) in
      let under = ap (λ z. pos d *ℤ z) same in
      let times = ap (λ m. d * m) is in
      let least = mul-le-mul_left d far in
      let soon = mul-le-mul_left d begun in
      omega (arith, ints, way, under, times, least, soon)

  falls : (n : ℕ) → a ≡ e + n → fine x s e d (d * a + r) ≡ part d r (at x s e a) (at x s e (a + 1))
  falls n is =
      let way = part_is d r (at x s e a) (at x s e (a + 1)) (negsuc 0) (omega (arith, ints)) in
      let same : at x s e a ≡ (x -ℤ pos n) = omega (arith, ints) in
      let whole = scaled_sum d x (x -ℤ pos n) (pos n) (omega (arith, ints)) in
      let under = ap (λ z. pos d *ℤ z) same in
      let times = ap (λ m. d * m) is in
      let late = mul-le-mul_left d order in
      omega (arith, ints, way, whole, under, times, late)

  pub evenly : fine x s e d (d * a + r) ≡ part d r (at x s e a) (at x s e (a + 1))
  evenly = elim (cases_lt a s) [
    | inl l ↦ rises (s - a) (omega arith) (omega arith)
    | inr l ↦ elim (cases_lt a e) [
      | inl k ↦ stands (e - a) l (omega arith) (omega arith)
      | inr k ↦ falls (a - e) (omega arith)
    ]
  ]

-- twice what is told in parts of a tick
twice : (d o n : ℕ) (big x : ℤ) → (pos 2 *ℤ big) ≡ (pos d *ℤ x) → 2 * o ≡ n
    → (pos 2 *ℤ (big -ℤ pos o)) ≡ ((pos d *ℤ x) -ℤ pos n)
twice d o n big x e f =
    let whole = scaled_sum 2 big (big -ℤ pos o) (pos o) (omega (arith, ints)) in omega (arith, ints, whole)

cross : (inst : InstanceView) (d : ℕ) (b : ℤ) → (pos 2 *ℤ scaled inst d b) ≡ (pos d *ℤ scaled inst 2 b)
cross inst d b =
    let t = inst.travel in
    let one = product_is (pos (d * t)) b in
    let other = product_is (pos (2 * t)) b in
    let ups = ap (λ n. 2 * n) one.0 in
    let downs = ap (λ n. 2 * n) one.1 in
    let other_ups = ap (λ n. d * n) other.0 in
    let other_downs = ap (λ n. d * n) other.1 in
    omega (arith, ints, ups, downs, other_ups, other_downs)

off_twice : (d s e m n : ℕ) → 2 * m ≡ n
    → 2 * max (d * s - m) (m - d * e) ≡ max (d * (2 * s) - n) (n - d * (2 * e))
off_twice d s e m n is = omega arith

wait_twice : (d e m n : ℕ) → 2 * m ≡ n → 2 * (m - d * e) ≡ max (d * 0 - n) (n - d * (2 * e))
wait_twice d e m n is = omega arith

-- ---- no fall meets a rise in the middle of a half tick

fallen : (x : ℤ) (s e a : ℕ) (p : ℤ) → s ≤ e → p ≡ at x s e a → (p -ℤ pos 1) ≡ at x s e (a + 1)
    → (p +ℤ pos a) ≡ (x +ℤ pos e)
fallen x s e a p order h k = omega (arith, ints)

risen : (x : ℤ) (s e a : ℕ) (p : ℤ) → s ≤ e → p ≡ at x s e (a + 1) → (p -ℤ pos 1) ≡ at x s e a
    → (p +ℤ pos s) ≡ (x +ℤ pos (a + 1))
risen x s e a p order h k = omega (arith, ints)

odd : (x y u v : ℤ) (s e f g a : ℕ) (p : ℤ) → x ≡ (pos 2 *ℤ u) → y ≡ (pos 2 *ℤ v) → e ≡ 2 * f → s ≡ 2 * g
    → (p +ℤ pos a) ≡ (x +ℤ pos e) → (p +ℤ pos s) ≡ (y +ℤ pos (a + 1)) → ⊥
odd x y u v s e f g a p i j k l h m = absurd (omega (arith, ints))

-- a hold whose place, start and end are even
record IsHalved (h : Hold) : Type 0 where
  place : ℤ
  from : ℕ
  until : ℕ
  place_is : h.place ≡ (pos 2 *ℤ place)
  from_is : h.from ≡ 2 * from
  until_is : h.until ≡ 2 * until

module _ (it : FreeSwept) (s : IsFreeSound it) where
  halved : (i : ℕ) → i < hold_count it → IsHalved (hold_of it i)
  halved i low = by (hold_is it i low)
    where
      by : HoldIs it i → IsHalved (hold_of it i)
      by (of_one there below e) = subst IsHalved (sym e) (record {
        place = scaled it.inst 1 (bay_ahead it.inst (crane_of it.sched i) (bay_of it.inst i) it.crane);
        from = start_of it.sched i;
        until = end_of it.inst it.sched i;
        place_is = sym (twice_scaled it.inst _);
        from_is = refl;
        until_is = refl;
      })
      by (of_post below e) =
          let v : ℕ = i - length it.inst.tasks in
          subst IsHalved (sym e) (record {
            place = scaled it.inst 1 (bay_ahead it.inst v (crane it.inst v).bay it.crane);
            from = 0;
            until = (crane it.inst v).ready;
            place_is = sym (twice_scaled it.inst _);
            from_is = refl;
            until_is = refl;
          })

  -- the floor, or a hold
  data Piece : Type 0 where
    floor : Piece
    hold : (i : ℕ) → i < hold_count it → Piece

  abbrev value : Piece → ℕ → ℤ
  value floor m = floor_place it
  value (hold i low) m = held (hold_of it i) m

  value_le : (c : Piece) (m : ℕ) → value c m ≤ℤ place_at it m
  value_le floor m = highest_first (hold_of it) (floor_place it) m (hold_count it)
  value_le (hold i low) m = highest_most (hold_of it) (floor_place it) m (hold_count it) i low

  value_step : (c : Piece) (m : ℕ)
      → ((value c m -ℤ pos 1) ≤ℤ value c (m + 1)) × (value c (m + 1) ≤ℤ (value c m +ℤ pos 1))
  value_step floor m = (omega (arith, ints), omega (arith, ints))
  value_step (hold i low) m = held_step (hold_of it i) m

  gives : (m : ℕ) → (c : Piece) × (place_at it m ≡ value c m)
  gives m = by (taken (hold_of it) (floor_place it) m (hold_count it))
    where
      by : IsTaken (hold_of it) (floor_place it) m (hold_count it) → (c : Piece) × (place_at it m ≡ value c m)
      by (by_floor e) = (floor, e)
      by (by_hold i low e) = (hold i low, e)

  -- one that falls and one that rises don't meet in the middle of a half tick
  apart : (b c : Piece) (a : ℕ) (p : ℤ) → p ≡ value b a → (p -ℤ pos 1) ≡ value b (a + 1)
      → p ≡ value c (a + 1) → (p -ℤ pos 1) ≡ value c a → ⊥
  apart floor c a p e f g h = absurd (omega (arith, ints, e, f))
  apart (hold i low) floor a p e f g h = absurd (omega (arith, ints, g, h))
  apart (hold i low) (hold j less) a p e f g h =
      let x = halved i low in
      let y = halved j less in
      let one = hold_of it i in
      let other = hold_of it j in
      odd one.place other.place x.place y.place other.from one.until x.until y.from a p x.place_is y.place_is
      x.until_is y.from_is
      (fallen one.place one.from one.until a p (lasting it s i low).order e f)
      (risen other.place other.from other.until a p (lasting it s j less).order g h)

  -- one piece gives the place at both ends of a half tick
  record IsCommon (a : ℕ) : Type 0 where
    piece : Piece
    now : place_at it a ≡ value piece a
    next : place_at it (a + 1) ≡ value piece (a + 1)

  middle : (p q u v : ℤ) → u <ℤ q → v <ℤ p → (p -ℤ pos 1) ≤ℤ u → q ≤ℤ (v +ℤ pos 1)
      → ((p -ℤ pos 1) ≡ u) × (p ≡ q) × ((p -ℤ pos 1) ≡ v)
  middle p q u v h k l m = (omega (arith, ints), omega (arith, ints), omega (arith, ints))

  common : (a : ℕ) → IsCommon a
  common a =
      let b = gives a in
      let c = gives (a + 1) in
      by_lt_z (value b.0 (a + 1)) (place_at it (a + 1))
      (λ lower.
      by_lt_z (value c.0 a) (place_at it a)
      (λ under.
      let down = value_step b.0 a in
      let up = value_step c.0 a in
      let m = middle (place_at it a) (place_at it (a + 1)) (value b.0 (a + 1)) (value c.0 a) lower under
      (subst (λ (z : ℤ). (z -ℤ pos 1) ≤ℤ value b.0 (a + 1)) (sym b.1) down.0)
      (subst (λ (z : ℤ). z ≤ℤ (value c.0 a +ℤ pos 1)) (sym c.1) up.1) in
      absurd (apart b.0 c.0 a (place_at it a) b.1 m.0 (m.1 ∙ c.1) m.2))
      (λ no. record { piece = c.0; now = both _ _ no (value_le c.0 a); next = c.1 }))
      (λ no. record { piece = b.0; now = b.1; next = both _ _ no (value_le b.0 (a + 1)) })
    where
      both : (y z : ℤ) → y ≤ℤ z → z ≤ℤ y → y ≡ z
      both y z h k = omega (arith, ints)

  -- ---- at a moment within a half tick

  module _ (d r a m : ℕ) (few : r ≤ d) (is : 2 * m ≡ d * a + r) where
    abbrev Low : ℤ → Type 0
    Low = FreeLowPlace it.inst it.sched it.crane m d

    abbrev along : Piece → ℤ
    along c = part d r (value c a) (value c (a + 1))

    hold_along : (i : ℕ) (low : i < hold_count it) (h : Hold) → hold_of it i ≡ h
        → ((pos d *ℤ h.place) -ℤ pos (max (d * h.from - (d * a + r)) ((d * a + r) - d * h.until)))
        ≡ along (hold i low)
    hold_along i low h e =
        subst (λ (g : Hold). (pos d *ℤ g.place)
        -ℤ pos (max (d * g.from - (d * a + r)) ((d * a + r) - d * g.until)) ≡ along (hold i low)) e
        (evenly (hold_of it i).place (hold_of it i).from (hold_of it i).until d r a few
        (lasting it s i low).order)

    -- twice a number of the kind is that of a piece
    piece_of : (y : ℤ) → Low y → (c : Piece) × ((pos 2 *ℤ y) ≡ along c)
    piece_of _ (of_task i low below) =
        let there : i < hold_count it = omega arith in (
          hold i there,
          twice d _ _ _ _ (cross it.inst d _)
              (off_twice d (start_of it.sched i) (end_of it.inst it.sched i) m _ is)
              ∙ hold_along i there (task_hold it i) (felt_is it i low below),
        )
    piece_of _ (of_berth v below) =
        let n : ℕ = length it.inst.tasks + v in
        let there : n < hold_count it = omega arith in (
          hold n there,
          twice d _ _ _ _ (cross it.inst d _) (wait_twice d (crane it.inst v).ready m _ is)
              ∙ hold_along n there (berth_hold it v) (post_is it v),
        )
    piece_of _ (of_floor x f) =
        let same = floor_unique it.inst it.sched it.crane x it.floor f s.floor in (
          floor,
          cross it.inst d x ∙ ap (λ b. pos d *ℤ scaled it.inst 2 b) same
              ∙ sym (part_flat d r (floor_place it) (floor_place it) refl),
        )

    -- and each piece is that of one
    low_of : (c : Piece) → (y : ℤ) × Low y × ((pos 2 *ℤ y) ≡ along c)
    low_of floor = (
      scaled it.inst d it.floor,
      of_floor it.floor s.floor,
      cross it.inst d it.floor ∙ sym (part_flat d r (floor_place it) (floor_place it) refl),
    )
    low_of (hold i low) = by (hold_is it i low)
      where
        by : HoldIs it i → (y : ℤ) × Low y × ((pos 2 *ℤ y) ≡ along (hold i low))
        by (of_one there below e) = (
          visit_place it.inst it.sched i it.crane m d,
          of_task i there below,
          twice d _ _ _ _ (cross it.inst d _)
              (off_twice d (start_of it.sched i) (end_of it.inst it.sched i) m _ is)
              ∙ hold_along i low (task_hold it i) e,
        )
        by (of_post below e) =
            let v : ℕ = i - length it.inst.tasks in (
              berth_place it.inst v it.crane m d,
              of_berth v below,
              twice d _ _ _ _ (cross it.inst d _) (wait_twice d (crane it.inst v).ready m _ is)
                  ∙ hold_along i low (berth_hold it v) e,
            )

    double_le : (y z : ℤ) → y ≤ℤ z → (pos 2 *ℤ y) ≤ℤ (pos 2 *ℤ z)
    double_le y z h = scaled_le 2 y z h

    both_ways : (y z : ℤ) → y ≤ℤ z → z ≤ℤ y → y ≡ z
    both_ways y z h k = omega (arith, ints)

    pub goes_evenly : (y : ℤ) → IsFreePlace it.inst it.sched it.crane m d y
        → (pos 2 *ℤ y) ≡ part d r (place_at it a) (place_at it (a + 1))
    goes_evenly y g =
        let c = piece_of y g.is in
        let k = common a in
        let l = low_of k.piece in
        let high = part_le d r (value c.0 a) (value c.0 (a + 1)) (place_at it a) (place_at it (a + 1)) few
        (value_le c.0 a) (value_le c.0 (a + 1)) in
        let up = subst (λ (z : ℤ). z ≤ℤ part d r (place_at it a) (place_at it (a + 1))) (sym c.1) high in
        let same = l.2 ∙ sym (ap₂ (part d r) k.now k.next) in
        let most = subst (λ (z : ℤ). z ≤ℤ (pos 2 *ℤ y)) same (double_le l.0 y (g.most l.0 l.1)) in
        both_ways (pos 2 *ℤ y) (part d r (place_at it a) (place_at it (a + 1))) up most
