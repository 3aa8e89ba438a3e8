-- The place of a crane at a tick, term by term.
use Rattle.std.proofs.Common.{◌≡◌, ℕ, ◌+◌, ◌<◌, ◌≤◌, ℤ, pos, ◌≤ℤ◌, length, FitsSigned, to_z, of_z, w64, refl, sym, ap, subst, inl, inr, arith}
use Rattle.std.proofs.lemmas.Bool.{cases_lt}
use Rattle.std.proofs.lemmas.Int.{ints}
use Rattle.std.specs.Int.{int_max}
use Rattle.qc_model.specs.Limits.{IsPlaceNear}
use Rattle.qc_model.specs.Motion.{LowPlace, berth_place, task_place}
use Rattle.qc_model.specs.Motion.LowPlace.{of_berth, of_floor, of_task}
use Rattle.qc_model.specs.Rules.{crane_of}
use Rattle.qc_motion.specs.Sweep.{IsAt, IsFelt, IsHighest, IsSound, Swept, floor_place}
use Rattle.qc_motion.proofs.Extrema.{of_max}
use Rattle.qc_motion.proofs.Terms.{at_of, given_of}

module _ (it : Swept) (m : ℕ) where
  pub highest_of_floor : (x : ℤ) → IsSound it → x ≡ floor_place it → IsPlaceNear x → IsHighest it m 0 0 x
  highest_of_floor x s e near = record {
    is = subst (LowPlace it.inst it.sched it.crane m 1) (sym e) (of_floor it.floor s.floor);
    floor = omega (arith, ints);
    tasks = λ i low. absurd (omega arith);
    berths = λ w low. absurd (omega arith);
    near = near;
  }

  pub highest_kept : (n : ℕ) (x : ℤ) → IsHighest it m n 0 x → it.crane < crane_of it.sched n
      → IsHighest it m (n + 1) 0 x
  highest_kept n x h higher = record {
    is = h.is;
    floor = h.floor;
    tasks = λ i low felt. elim (cases_lt i n) [
      | inl l ↦ h.tasks i l felt
      | inr l ↦ let same : i ≡ n = omega arith in absurd (omega (arith, ap (crane_of it.sched) same, felt.1))
    ];
    berths = h.berths;
    near = h.near;
  }

  pub highest_of_task : (n : ℕ) (x y r : ℤ) → IsHighest it m n 0 x → IsFelt it n
      → y ≡ task_place it.inst it.sched n it.crane m 1 → y ≤ℤ pos 400000000
      → FitsSigned w64 r → r ≡ int_max x y → x ≤ℤ r → y ≤ℤ r → IsHighest it m (n + 1) 0 (to_z w64 (of_z w64 r))
  highest_of_task n x y r h felt e near f is a b = record {
    is = of_max (LowPlace it.inst it.sched it.crane m 1) w64 x _ y r f is e h.is (of_task n felt.0 felt.1);
    floor = omega (arith, ints, h.floor);
    tasks = λ i low here. elim (cases_lt i n) [
      | inl l ↦ omega (arith, ints, h.tasks i l here)
      | inr l ↦ let same : n ≡ i = omega arith in
          subst (λ (j : ℕ). task_place it.inst it.sched j it.crane m 1 ≤ℤ to_z w64 (of_z w64 r)) same
          (omega (arith, ints))
    ];
    berths = λ w low. absurd (omega arith);
    near = (omega (arith, ints, h.near.0), of_max (λ z. z ≤ℤ pos 400000000) w64 x y y r f is refl h.near.1 near);
  }

  pub highest_of_berth : (n v : ℕ) (x y r : ℤ) → IsHighest it m n v x → v ≤ it.crane
      → y ≡ berth_place it.inst v it.crane m 1 → y ≤ℤ pos 400000000
      → FitsSigned w64 r → r ≡ int_max x y → x ≤ℤ r → y ≤ℤ r → IsHighest it m n (v + 1) (to_z w64 (of_z w64 r))
  highest_of_berth n v x y r h order e near f is a b = record {
    is = of_max (LowPlace it.inst it.sched it.crane m 1) w64 x _ y r f is e h.is (of_berth v order);
    floor = omega (arith, ints, h.floor);
    tasks = λ i low here. omega (arith, ints, h.tasks i low here);
    berths = λ w low. elim (cases_lt w v) [
      | inl l ↦ omega (arith, ints, h.berths w l)
      | inr l ↦ let same : v ≡ w = omega arith in
          subst (λ (u : ℕ). berth_place it.inst u it.crane m 1 ≤ℤ to_z w64 (of_z w64 r)) same (omega (arith, ints))
    ];
    near = (omega (arith, ints, h.near.0), of_max (λ z. z ≤ℤ pos 400000000) w64 x y y r f is refl h.near.1 near);
  }

  -- the highest of all is the place
  pub at_of_highest : (n v : ℕ) (x : ℤ) → IsHighest it m n v x → IsSound it → length it.inst.tasks ≤ n
      → it.crane < v
      → IsAt it m x
  at_of_highest n v x h s tasks berths =
      at_of it s m x (given_of it s m x h.is) (λ i felt. h.tasks i (omega arith) felt)
      (λ w order. h.berths w (omega arith)) h.floor
