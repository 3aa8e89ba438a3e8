-- A crane rests until a task comes to raise it, or until the last berth that holds it there is left.
use Rattle.std.proofs.Common.{◌≡◌, ℕ, ◌+◌, ◌<◌, ◌≤◌, ℤ, pos, ◌+ℤ◌, ◌<ℤ◌, ◌⊎◌, min, length, inl, inr, subst, sym, arith}
use Rattle.std.proofs.lemmas.Bool.{cases_lt}
use Rattle.std.proofs.lemmas.Int.{by_lt_z, ints}
use Rattle.std.specs.declared.cmp.Ordering.TheVariants.{Equal}
use Rattle.qc_model.specs.Rules.{start_of}
use Rattle.qc_model.proofs.Bays.{bays}
use Rattle.qc_motion.specs.Sweep.{IsAt, IsBerthAt, IsFirst, IsHeld, IsHigher, IsLast, IsRun, IsSound, Swept, berth_hold, floor_place, passing, ready_of, task_hold}
use Rattle.qc_motion.proofs.Moments.{moment_of}
use Rattle.qc_motion.proofs.Terms.{Given, at_of, berth_le, floor_le, given_of, task_le}
use Rattle.qc_motion.proofs.Terms.Given.{by_berth, by_floor, by_task}

module _ (it : Swept) (s : IsSound it) (m : ℕ) (p : ℤ) (a : IsAt it m p) (b : IsAt it (m + 1) p) (end f : ℕ)
    (early : m < end)
    (first : IsFirst (IsHigher it p) (passing it p) (length it.inst.tasks) end f) where
  -- a task that comes to raise the crane has it at p no sooner than at the next tick
  passes : (i : ℕ) → IsHigher it p i
      → (m + 1 ≤ passing it p i) × ((pos (passing it p i) +ℤ task_hold it i) ≡ (p +ℤ pos (start_of it.sched i)))
  passes i higher =
      let h = task_le it s (m + 1) p b i higher.0 in
      (omega (arith, bays, h, higher.1), omega (arith, bays, h, higher.1))

  rests_on : m < f
  rests_on = go first.found
    where
      go : (f ≡ end) ⊎ ((i : ℕ) × (i < length it.inst.tasks) × IsHigher it p i × (passing it p i ≡ f)) → m < f
      go (inl g) = omega arith
      go (inr t) = let h = (passes t.0 t.2).0 in omega (arith, t.3)

  -- the crane is no higher until then
  rest_at : (t : ℕ) → m ≤ t → t ≤ f → Given it t p → IsAt it t p
  rest_at t low high given =
      at_of it s t p given
      (λ i felt. by_lt_z p (task_hold it i)
      (λ higher.
      let h = first.rest i felt.0 (felt, higher) in
      let g = (passes i (felt, higher)).1 in
      omega (arith, ints, h, g, high))
      (λ lower. omega (arith, ints, lower)))
      (λ v order. omega (arith, ints, berth_le it s m p a v order))
      (floor_le it s m p a)

  -- it is raised after that
  raised : f < end → ¬ IsAt it (f + 1) p
  raised inside c = go first.found
    where
      go : (f ≡ end) ⊎ ((i : ℕ) × (i < length it.inst.tasks) × IsHigher it p i × (passing it p i ≡ f)) → ⊥
      go (inl g) = absurd (omega arith)
      go (inr t) =
          let h = task_le it s (f + 1) p c t.0 t.2.0 in
          let g = (passes t.0 t.2).1 in
          let hi = t.2.1 in
          absurd (omega (arith, ints, h, g, t.3, hi))

  module _ (n : ℕ) (on : m < n) (low : n ≤ f) (given : (t : ℕ) → m + 2 ≤ t → t ≤ n → Given it t p) where
    along : (x : ℕ) → m + x ≤ n → IsAt it (m + x) p
    along x h = elim (cases_lt 1 x) [
      | inl l ↦ rest_at (m + x) (omega arith) (omega arith) (given (m + x) (omega arith) h)
      | inr k ↦ elim (cases_lt 0 x) [
        | inl l ↦ let same : m + 1 ≡ m + x = omega arith in subst (λ (t : ℕ). IsAt it t p) same b
        | inr l ↦ let same : m ≡ m + x = omega arith in subst (λ (t : ℕ). IsAt it t p) same a
      ]
    ]

    rest_of : (n < end → ¬ IsAt it (n + 1) p) → IsRun it m p end n
    rest_of stops = record {
      way = Equal;
      onward = on;
      within = omega (arith, first.bound);
      along = along;
      stops = stops;
      risen = λ same. absurd (cc);
      fallen = λ same. absurd (cc);
    }

  -- where the floor or a task holds it
  pub held_is : IsHeld it m p → IsRun it m p end f
  held_is held = rest_of f rests_on (omega arith) (λ t low high. go t low held) raised
    where
      go : (t : ℕ) → m + 2 ≤ t → IsHeld it m p → Given it t p
      go t low (inl floor) = by_floor (sym floor)
      go t low (inr h) = by_task h.0 h.1.0 (omega (arith, ints, h.1.1, h.1.2))

  -- where only berths hold it
  module _ (free : ¬ IsHeld it m p) (l : ℕ)
      (last : IsLast (IsBerthAt it p) (ready_of it) (it.crane + 1) (m + 1) l) where
    above_floor : floor_place it <ℤ p
    above_floor = by_lt_z (floor_place it) p (λ h. h) (λ h.
        let g = floor_le it s m p a in
        let same : floor_place it ≡ p = omega (arith, ints) in
        absurd (free (inl same)))

    record Waits : Type 0 where
      berth : ℕ
      order : berth ≤ it.crane
      holds : berth_hold it berth ≡ p
      until : ready_of it berth ≡ l

    -- a berth that stands until the last tick
    waits : l < f → Waits
    waits sooner = go (given_of it s (m + 1) p b.is)
      where
        found : (v : ℕ) → IsBerthAt it p v → m + 1 ≤ ready_of it v
            → (l ≡ m + 1) ⊎ ((u : ℕ) × (u < it.crane + 1) × IsBerthAt it p u × (ready_of it u ≡ l)) → Waits
        found v here stands (inl g) =
            let h = last.rest v (omega (arith, here.0)) here in
            record { berth = v; order = here.0; holds = here.1; until = omega arith }
        found v here stands (inr t) = record { berth = t.0; order = t.2.0; holds = t.2.1; until = t.3 }

        go : Given it (m + 1) p → Waits
        go (by_task i felt g) = elim (cases_lt (m + 1) (start_of it.sched i)) [
          | inl far ↦
              let higher : IsHigher it p i = (felt, omega (arith, ints, g, far)) in
              let h = first.rest i felt.0 higher in
              let k = (passes i higher).1 in
              let o = last.bound in
              absurd (omega (arith, ints, g, far, h, k, o))
          | inr near ↦ absurd (free (inr (i, (felt, omega (arith, ints, g, near), near))))
        ]
        go (by_berth v order g) =
            let h = berth_le it s m p a v order in
            let here : IsBerthAt it p v = (order, omega (arith, ints, g, h)) in
            found v here (omega (arith, ints, g, h)) last.found
        go (by_floor g) = absurd (free (inl (sym g)))

    left : l < f → ¬ IsAt it (l + 1) p
    left sooner c = go (given_of it s (l + 1) p c.is)
      where
        w : Waits
        w = waits sooner

        go : Given it (l + 1) p → ⊥
        go (by_task i felt g) =
            let tick = moment_of it s in
            let h = above_floor in
            elim (cases_lt l tick.0) [
              | inl before ↦
                  let t = tick.1.tasks (l + 1) i (omega arith) felt in absurd (omega (arith, ints, g, t, h))
              | inr after ↦
                  let t =
                  tick.1.berths l w.berth after w.order in absurd (omega (arith, ints, t, w.holds, w.until, h))
            ]
        go (by_berth v order g) = elim (cases_lt l (ready_of it v)) [
          | inl stands ↦
              let here : IsBerthAt it p v = (order, omega (arith, ints, g, stands)) in
              let h = last.rest v (omega arith) here in absurd (omega arith)
          | inr gone ↦
              let here = berth_le it s (m + 1) p b v order in
              let o = last.bound in absurd (omega (arith, ints, g, gone, here, o))
        ]
        go (by_floor g) = absurd (free (inl (sym g)))

    pub berths_is : (n : ℕ) → n ≡ min f l → IsRun it m p end n
    berths_is n is =
        let o = last.bound in
        let r = rests_on in
        rest_of n (omega arith) (omega arith) given (λ inside. elim (cases_lt l f) [
          | inl k ↦ subst (λ (t : ℕ). ¬ IsAt it (t + 1) p) (omega arith) (left k)
          | inr k ↦ subst (λ (t : ℕ). ¬ IsAt it (t + 1) p) (omega arith) (raised (omega arith))
        ])
      where
        given : (t : ℕ) → m + 2 ≤ t → t ≤ n → Given it t p
        given t low high = go last.found
          where
            go : (l ≡ m + 1) ⊎ ((u : ℕ) × (u < it.crane + 1) × IsBerthAt it p u × (ready_of it u ≡ l))
                → Given it t p
            go (inl g) = absurd (omega arith)
            go (inr u) = by_berth u.0 u.2.0 (omega (arith, ints, u.2.1, u.3))
