-- Tasks raise a crane above its floor after one moment alone, and berths hold it above until that moment.
use Rattle.std.proofs.Common.{◌≡◌, ℕ, ◌≤◌, ℤ, ◌+ℤ◌, ◌≤ℤ◌, arith}
use Rattle.std.proofs.lemmas.Int.{ints}
use Rattle.qc_model.proofs.Levels.{before, levels_of}
use Rattle.qc_model.proofs.Moves.{HasMoment, floor_moment}
use Rattle.qc_model.proofs.PlaceTerms.{HasFloor, berth_place-lifted, floor-lifted, floor_level, has_floor, lift, task_place-lifted}
use Rattle.qc_motion.specs.Sweep.{IsFelt, IsSound, Swept, floor_place}
use Rattle.qc_motion.proofs.Terms.{berth_at, task_at}

pub record IsMoment (it : Swept) (f : ℕ) : Type 0 where
  pub tasks : (m i : ℕ) → m ≤ f → IsFelt it i → task_at it i m ≤ℤ floor_place it
  pub berths : (m v : ℕ) → f ≤ m → v ≤ it.crane → berth_at it v m ≤ℤ floor_place it

raised : (a b c y z : ℤ) → y ≡ (a +ℤ c) → z ≡ (b +ℤ c) → a ≤ℤ b → y ≤ℤ z
raised a b c y z e g h = omega (arith, ints)

pub moment_of : (it : Swept) → IsSound it → (f : ℕ) × IsMoment it f
moment_of it s = (
  tick.0,
  record {
    tasks = λ m i low felt.
        raised _ _ (lift it.inst 1 it.crane) _ _
        (task_place-lifted it.inst it.sched 1 i it.crane (before it.sched 1 i m) felt.1) lowest
        (tick.1.tasks m (omega arith) i felt.0 felt.1);
    berths = λ m v high order.
        raised _ _ (lift it.inst 1 it.crane) _ _ (berth_place-lifted it.inst it.sched 1 v it.crane m order) lowest
        (tick.1.berths m (omega arith) v order);
  },
)
  where
    f : HasFloor it.inst it.sched 1 it.crane (floor_level it.inst 1 it.crane it.floor)
    f = has_floor it.inst it.sched 1 it.crane it.floor s.floor

    tick : (t : ℕ) × HasMoment it.inst it.sched 1
        (levels_of it.inst it.sched s.goes s.valid 1) it.crane it.floor f t
    tick = floor_moment it.inst it.sched 1 (levels_of it.inst it.sched s.goes s.valid 1) it.crane it.floor f f.from

    lowest : floor_place it ≡ (floor_level it.inst 1 it.crane it.floor +ℤ lift it.inst 1 it.crane)
    lowest = floor-lifted it.inst it.sched 1 it.crane it.floor
