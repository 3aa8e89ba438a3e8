-- A crane that goes down does so until it comes to its floor or to the hold of a berth that still stands.
use Rattle.std.proofs.Common.{◌≡◌, ℕ, ◌+◌, ◌-◌, ◌<◌, ◌≤◌, ℤ, pos, ◌+ℤ◌, ◌-ℤ◌, ◌≤ℤ◌, ◌<ℤ◌, ◌⊎◌, min, inl, inr, ap, subst, arith}
use Rattle.std.proofs.lemmas.Bool.{cases_lt}
use Rattle.std.proofs.lemmas.Int.{by_lt_z, ints}
use Rattle.std.specs.declared.cmp.Ordering.TheVariants.{Less}
use Rattle.qc_model.proofs.Bays.{bays}
use Rattle.qc_motion.specs.Sweep.{IsAt, IsBelow, IsFelt, IsFirst, IsRun, IsSound, Swept, berth_hold, descent, floor_place, ready_of, stopping}
use Rattle.qc_motion.proofs.Moments.{moment_of}
use Rattle.qc_motion.proofs.Rises.{no_faster}
use Rattle.qc_motion.proofs.Terms.{Given, at_of, berth_at, berth_le, floor_le, given_of, task_at, task_le}
use Rattle.qc_motion.proofs.Terms.Given.{by_berth, by_floor, by_task}

module _ (it : Swept) (s : IsSound it) (m : ℕ) (p q : ℤ) (a : IsAt it m p) (b : IsAt it (m + 1) q)
    (down : q <ℤ p) where
  -- the berth that has the crane at p, and no longer stands
  record Leaves : Type 0 where
    berth : ℕ
    order : berth ≤ it.crane
    left : ready_of it berth ≤ m
    has : p ≡ berth_at it berth m

  leaves : Leaves
  leaves = go (given_of it s m p a.is)
    where
      go : Given it m p → Leaves
      go (by_task i felt g) = absurd (omega (arith, ints, g, task_le it s (m + 1) q b i felt, down))
      go (by_berth v order g) =
          let h = berth_le it s (m + 1) q b v order in
          record { berth = v; order = order; left = omega (arith, ints, g, h, down); has = g }
      go (by_floor g) = absurd (omega (arith, ints, g, floor_le it s (m + 1) q b, down))

  by_one : q ≡ (p -ℤ pos 1)
  by_one = let h = (no_faster it s m p a q b).0 in omega (arith, ints)

  -- a berth that still stands when the crane comes to its hold stands now, and holds it lower
  stands : (v : ℕ) → IsBelow it m p v → (m < ready_of it v) × (berth_hold it v <ℤ p)
  stands v below =
      let g = berth_le it s m p a v below.0 in
      let h = berth_le it s (m + 1) q b v below.0 in
      (omega (arith, ints, g, below.1), omega (arith, ints, g, h, below.1, by_one))

  module _ (e : ℕ) (first : IsFirst (IsBelow it m p) (stopping it m p) (it.crane + 1)
      (descent m p (floor_place it)) e) where
    floor_far : floor_place it <ℤ p
    floor_far = let h = floor_le it s (m + 1) q b in omega (arith, ints, h, down)

    falls_on : m < e
    falls_on = go first.found
      where
        go : (e ≡ descent m p (floor_place it)) ⊎
            ((v : ℕ) × (v < it.crane + 1) × IsBelow it m p v × (stopping it m p v ≡ e))
            → m < e
        go (inl g) = let h = floor_far in omega (arith, bays)
        go (inr t) = let h = (stands t.0 t.2).1 in omega (arith, bays, t.3, h)

    -- the floor lies no higher than where the crane comes to
    above_floor : (x : ℕ) → m + x ≤ e → floor_place it ≤ℤ (p -ℤ pos x)
    above_floor x low = let h = floor_far in omega (arith, bays, first.bound, h)

    tasks_low : (x i : ℕ) → m + x ≤ e → IsFelt it i → task_at it i (m + x) ≤ℤ (p -ℤ pos x)
    tasks_low x i low felt = elim (cases_lt 0 x) [
      | inl later ↦
          let l = leaves in
          let tick = moment_of it s in
          let h = above_floor x low in
          elim (cases_lt (m + x - 1) tick.0) [
            | inl before ↦ let t = tick.1.tasks (m + x) i (omega arith) felt in omega (arith, ints, t, h)
            | inr after ↦
                let t = tick.1.berths (m + x - 1) l.berth after l.order in
                absurd (omega (arith, ints, t, h, l.has, l.left, later))
          ]
      | inr now ↦
          let same : m + x ≡ m = omega arith in
          let h = task_le it s m p a i felt in
          let t : task_at it i (m + x) ≡ task_at it i m = ap (task_at it i) same in
          omega (arith, ints, t, h)
    ]

    berths_low : (x v : ℕ) → m + x ≤ e → v ≤ it.crane → berth_at it v (m + x) ≤ℤ (p -ℤ pos x)
    berths_low x v low order =
        by_lt_z (p +ℤ pos m) (berth_hold it v +ℤ pos (ready_of it v))
        (λ far.
        let h = first.rest v (omega arith) (order, far) in
        let g = (stands v (order, far)).1 in
        let to : berth_hold it v ≤ℤ (p -ℤ pos x) = omega (arith, bays, h, g, low) in
        omega (arith, ints, to))
        (λ near. omega (arith, ints, near))

    fall_along : (x : ℕ) → m + x ≤ e → IsAt it (m + x) (p -ℤ pos x)
    fall_along x low =
        let l = leaves in
        at_of it s (m + x) (p -ℤ pos x) (by_berth l.berth l.order (omega (arith, ints, l.has, l.left)))
        (λ i felt. tasks_low x i low felt) (λ v order. berths_low x v low order) (above_floor x low)

    fall_stops : ¬ IsAt it (e + 1) (p -ℤ pos (e + 1 - m))
    fall_stops c = go first.found
      where
        go : (e ≡ descent m p (floor_place it)) ⊎
            ((v : ℕ) × (v < it.crane + 1) × IsBelow it m p v × (stopping it m p v ≡ e))
            → ⊥
        go (inl g) = let h = floor_le it s (e + 1) _ c in let f = floor_far in absurd (omega (arith, bays, g, h, f))
        go (inr t) =
            let h = berth_le it s (e + 1) _ c t.0 t.2.0 in
            let f = (stands t.0 t.2).1 in
            let to : berth_hold it t.0 ≡ (p -ℤ pos (e - m)) = omega (arith, bays, t.3, f) in
            absurd (omega (arith, ints, h, to, t.2.1, falls_on))

    pub fall_is : (end n : ℕ) → m < end → n ≡ min e end → IsRun it m p end n
    fall_is end n early is =
        let o = falls_on in
        let l = leaves in
        record {
          way = Less;
          onward = omega arith;
          within = omega arith;
          along = λ x low. fall_along x (omega arith);
          stops = λ inside. subst (λ (t : ℕ). ¬ IsAt it (t + 1) (p -ℤ pos (t + 1 - m))) (omega arith) fall_stops;
          risen = λ same. absurd (cc);
          fallen = λ same. (l.berth, l.order, l.left, l.has);
        }
