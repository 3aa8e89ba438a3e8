-- What the place of a crane at a tick says of the tasks and berths that hold it, and how fast it changes.
use Rattle.std.proofs.Common.{◌≡◌, ℕ, ◌≤◌, ℤ, ◌≤ℤ◌, refl, sym, ap, subst, arith}
use Rattle.std.proofs.lemmas.Int.{ints}
use Rattle.qc_model.specs.Motion.{LowPlace, berth_place, scaled, task_place}
use Rattle.qc_model.specs.Motion.LowPlace.{of_berth, of_floor, of_task}
use Rattle.qc_model.proofs.Places.{floor_unique}
use Rattle.qc_motion.specs.Sweep.{IsAt, IsFelt, IsSound, Swept, floor_place}

-- where a task has the crane at a tick
abbrev pub task_at : Swept → ℕ → ℕ → ℤ
task_at it i m = task_place it.inst it.sched i it.crane m 1

-- where a berth has the crane at a tick
abbrev pub berth_at : Swept → ℕ → ℕ → ℤ
berth_at it v m = berth_place it.inst v it.crane m 1

-- a place is given by a task, a berth or the floor
pub data Given (it : Swept) (m : ℕ) (y : ℤ) : Type 0 where
  by_task : (i : ℕ) → IsFelt it i → y ≡ task_at it i m → Given it m y
  by_berth : (v : ℕ) → v ≤ it.crane → y ≡ berth_at it v m → Given it m y
  by_floor : y ≡ floor_place it → Given it m y

module _ (it : Swept) (s : IsSound it) where
  pub given_of : (m : ℕ) (y : ℤ) → LowPlace it.inst it.sched it.crane m 1 y → Given it m y
  given_of m _ (of_task i low order) = by_task i (low, order) refl
  given_of m _ (of_berth v order) = by_berth v order refl
  given_of m _ (of_floor x lowest) =
      let same = floor_unique it.inst it.sched it.crane x it.floor lowest s.floor in
      by_floor (ap (scaled it.inst 1) same)

  -- a place that is given and at least all others is the crane's
  pub at_of : (m : ℕ) (p : ℤ) → Given it m p
      → ((i : ℕ) → IsFelt it i → task_at it i m ≤ℤ p)
      → ((v : ℕ) → v ≤ it.crane → berth_at it v m ≤ℤ p)
      → floor_place it ≤ℤ p → IsAt it m p
  at_of m p g tasks berths floor = record { is = back g; most = λ y h. below y (given_of m y h) }
    where
      back : Given it m p → LowPlace it.inst it.sched it.crane m 1 p
      back (by_task i felt e) = subst (LowPlace it.inst it.sched it.crane m 1) (sym e) (of_task i felt.0 felt.1)
      back (by_berth v order e) = subst (LowPlace it.inst it.sched it.crane m 1) (sym e) (of_berth v order)
      back (by_floor e) = subst (LowPlace it.inst it.sched it.crane m 1) (sym e) (of_floor it.floor s.floor)

      below : (y : ℤ) → Given it m y → y ≤ℤ p
      below y (by_task i felt e) = let h = tasks i felt in omega (arith, ints)
      below y (by_berth v order e) = let h = berths v order in omega (arith, ints)
      below y (by_floor e) = omega (arith, ints)

  module _ (m : ℕ) (p : ℤ) (a : IsAt it m p) where
    pub task_le : (i : ℕ) → IsFelt it i → task_at it i m ≤ℤ p
    task_le i felt = a.most _ (of_task i felt.0 felt.1)

    pub berth_le : (v : ℕ) → v ≤ it.crane → berth_at it v m ≤ℤ p
    berth_le v order = a.most _ (of_berth v order)

    pub floor_le : floor_place it ≤ℤ p
    floor_le = a.most _ (of_floor it.floor s.floor)
