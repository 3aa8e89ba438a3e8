-- A crane goes on as it goes for as long as a rise, a rest and a fall last.
use Rattle.std.proofs.Common.{◌≡◌, ℕ, ◌+◌, ◌-◌, ◌<◌, ◌≤◌, ℤ, pos, ◌+ℤ◌, ◌-ℤ◌, ◌≤ℤ◌, ◌<ℤ◌, ◌⊎◌, min, length, inl, inr, subst, arith}
use Rattle.std.proofs.lemmas.Bool.{cases_lt}
use Rattle.std.proofs.lemmas.Int.{ints}
use Rattle.std.specs.declared.cmp.Ordering.TheVariants.{Greater}
use Rattle.qc_model.specs.Rules.{start_of}
use Rattle.qc_model.proofs.SafeLemmas.{up_stand}
use Rattle.qc_motion.specs.Sweep.{IsAt, IsFelt, IsLast, IsOnRise, IsRun, IsSound, Swept, task_hold}
use Rattle.qc_motion.proofs.Terms.{Given, at_of, berth_le, floor_le, given_of, task_le}
use Rattle.qc_motion.proofs.Terms.Given.{by_berth, by_floor, by_task}

module _ (it : Swept) (s : IsSound it) (m : ℕ) (p : ℤ) (a : IsAt it m p) where
  -- no crane is faster than a place a tick
  pub no_faster : (q : ℤ) → IsAt it (m + 1) q → ((p -ℤ pos 1) ≤ℤ q) × (q ≤ℤ (p +ℤ pos 1))
  no_faster q b = (up_stand it.inst it.sched s.valid s.goes 1).speed it.crane m p q s.range a b

  -- ---- a rise

  -- how long the crane goes up
  record Rises (e : ℕ) : Type 0 where
    task : ℕ
    felt : IsFelt it task
    rise : (task_hold it task +ℤ pos m) ≡ (p +ℤ pos (start_of it.sched task))
    starts : start_of it.sched task ≡ e
    later : m < e

  module _ (e : ℕ) (last : IsLast (IsOnRise it m p) (start_of it.sched) (length it.inst.tasks) m e) where
    rises_of : (q : ℤ) → IsAt it (m + 1) q → p <ℤ q → Rises e
    rises_of q b up = found (go (given_of it s (m + 1) q b.is)) last.found
      where
        go : Given it (m + 1) q → m < e
        go (by_task i felt g) =
            let h = task_le it s m p a i felt in
            let t = (no_faster q b).1 in
            let on : IsOnRise it m p i = (felt, omega (arith, ints, g, h, t, up)) in
            let l = last.rest i felt.0 on in
            omega (arith, ints, g, h, l, up)
        go (by_berth v order g) = absurd (omega (arith, ints, g, berth_le it s m p a v order, up))
        go (by_floor g) = absurd (omega (arith, ints, g, floor_le it s m p a, up))

        found : m < e
            → (e ≡ m) ⊎ ((i : ℕ) × (i < length it.inst.tasks) × IsOnRise it m p i × (start_of it.sched i ≡ e))
            → Rises e
        found l (inl g) = absurd (omega arith)
        found l (inr t) = record { task = t.0; felt = t.2.0; rise = t.2.1; starts = t.3; later = l }

    rise_along : Rises e → (x : ℕ) → m + x ≤ e → IsAt it (m + x) (p +ℤ pos x)
    rise_along r x low =
        at_of it s (m + x) (p +ℤ pos x) (by_task r.task r.felt (omega (arith, ints, r.rise, r.starts)))
        (λ i felt. omega (arith, ints, task_le it s m p a i felt))
        (λ v order. omega (arith, ints, berth_le it s m p a v order))
        (omega (arith, ints, floor_le it s m p a))

    rise_stops : Rises e → ¬ IsAt it (e + 1) (p +ℤ pos (e + 1 - m))
    rise_stops r b = go (given_of it s (e + 1) _ b.is)
      where
        before : IsAt it e (p +ℤ pos (e - m))
        before = let same : m + (e - m) ≡ e = let l = r.later in omega arith in
            subst (λ (t : ℕ). IsAt it t (p +ℤ pos (e - m))) same (rise_along r (e - m) (omega arith))

        go : Given it (e + 1) (p +ℤ pos (e + 1 - m)) → ⊥
        go (by_task i felt g) =
            let h = task_le it s e _ before i felt in
            let l = r.later in
            elim (cases_lt e (start_of it.sched i)) [
              | inl far ↦
                  let on : IsOnRise it m p i = (felt, omega (arith, ints, g, far, l)) in
                  let most = last.rest i felt.0 on in omega arith
              | inr near ↦ absurd (omega (arith, ints, g, h, near, l))
            ]
        go (by_berth v order g) =
            let h = berth_le it s e _ before v order in let l = r.later in absurd (omega (arith, ints, g, h, l))
        go (by_floor g) = let h = floor_le it s e _ before in let l = r.later in absurd
            (omega (arith, ints, g, h, l))

    pub rise_is : (q : ℤ) (end n : ℕ) → IsAt it (m + 1) q → p <ℤ q → m < end → n ≡ min e end → IsRun it m p end n
    rise_is q end n b up early is =
        let r = rises_of q b up in
        let l = r.later in
        record {
          way = Greater;
          onward = omega arith;
          within = omega arith;
          along = λ x low. rise_along r x (omega arith);
          stops = λ inside. subst (λ (t : ℕ). ¬ IsAt it (t + 1) (p +ℤ pos (t + 1 - m))) (omega arith)
              (rise_stops r);
          risen = λ same inside. (r.task, r.felt.0, let t = r.starts in omega arith);
          fallen = λ same. absurd (cc);
        }
