-- inner: how a sweep over the motion of one crane sees it: from the end of the ship from which the schedule
-- goes up, at whole ticks.
use Rattle.std.specs.Prelude.{◌≡◌, ℕ, ◌+◌, ◌-◌, ◌<◌, ◌≤◌, ℤ, pos, ◌+ℤ◌, ◌-ℤ◌, ◌<ℤ◌, ◌≤ℤ◌, ◌⊎◌, List, length}
use Rattle.std.specs.declared.cmp.Ordering.{Ordering}
use Rattle.std.specs.declared.cmp.Ordering.TheVariants.{Less, Equal, Greater}
use Rattle.qc_model.specs.declared.schedule.Slot.{Slot}
use Rattle.qc_model.specs.Bays.{bays_up}
use Rattle.qc_model.specs.Instance.{InstanceView, Valid, bay_of, crane}
use Rattle.qc_model.specs.Limits.{IsPlaceNear}
use Rattle.qc_model.specs.Motion.{IsFloor, IsGreatest, LowPlace, bay_ahead, berth_place, scaled, task_place}
use Rattle.qc_model.specs.OneWay.{GoesUp}
use Rattle.qc_model.specs.Rules.{crane_of, start_of}

-- an instance and a schedule that goes up in it, a crane, and the bay of its floor
pub record Swept : Type 0 where
  pub inst : InstanceView
  pub sched : List Slot
  pub crane : ℕ
  pub floor : ℤ

pub record IsSound (it : Swept) : Type 0 where
  pub valid : Valid it.inst
  pub goes : GoesUp it.inst it.sched
  pub range : it.crane < length it.inst.cranes
  pub floor : IsFloor it.inst it.sched it.crane it.floor

-- the crane's place at a tick
abbrev pub IsAt : Swept → ℕ → ℤ → Type 0
IsAt it m p = IsGreatest (LowPlace it.inst it.sched it.crane m 1) p

abbrev pub floor_place : Swept → ℤ
floor_place it = scaled it.inst 1 it.floor

-- the place to which task i brings the crane
abbrev pub task_hold : Swept → ℕ → ℤ
task_hold it i = scaled it.inst 1 (bay_ahead it.inst (crane_of it.sched i) (bay_of it.inst i) it.crane)

-- the place at which the berth of crane v has the crane
abbrev pub berth_hold : Swept → ℕ → ℤ
berth_hold it v = scaled it.inst 1 (bay_ahead it.inst v (crane it.inst v).bay it.crane)

-- task i is one of those that the crane has to make room for
abbrev pub IsFelt : Swept → ℕ → Type 0
IsFelt it i = (i < length it.inst.tasks) × (crane_of it.sched i ≤ it.crane)

-- the highest place of the floor, the tasks below n and the berths below v
pub record IsHighest (it : Swept) (m n v : ℕ) (x : ℤ) : Type 0 where
  pub is : LowPlace it.inst it.sched it.crane m 1 x
  pub floor : floor_place it ≤ℤ x
  pub tasks : (i : ℕ) → i < n → IsFelt it i → task_place it.inst it.sched i it.crane m 1 ≤ℤ x
  pub berths : (w : ℕ) → w < v → berth_place it.inst w it.crane m 1 ≤ℤ x
  pub near : IsPlaceNear x

-- a place after so many ticks of motion one way
abbrev pub moved : Ordering → ℤ → ℕ → ℤ
moved Less p x = p -ℤ pos x
moved Equal p x = p
moved Greater p x = p +ℤ pos x

-- of the numbers below n of a kind, the tick farthest one way that f gives, and start where none is farther
pub record IsFarthest (IsPast : ℕ → ℕ → Type 0) (P : ℕ → Type 0) (f : ℕ → ℕ) (n start e : ℕ) : Type 0 where
  pub bound : IsPast start e
  pub rest : (i : ℕ) → i < n → P i → IsPast (f i) e
  pub found : (e ≡ start) ⊎ ((i : ℕ) × (i < n) × P i × (f i ≡ e))

-- the last such tick, and the first
abbrev pub IsLast : (P : ℕ → Type 0) (f : ℕ → ℕ) (n low e : ℕ) → Type 0
IsLast = IsFarthest (λ a b. a ≤ b)

abbrev pub IsFirst : (P : ℕ → Type 0) (f : ℕ → ℕ) (n high e : ℕ) → Type 0
IsFirst = IsFarthest (λ a b. b ≤ a)

-- as the crane goes up from p at tick m, it comes to the hold of task i just as that starts
abbrev pub IsOnRise : Swept → ℕ → ℤ → ℕ → Type 0
IsOnRise it m p i = IsFelt it i × ((task_hold it i +ℤ pos m) ≡ (p +ℤ pos (start_of it.sched i)))

-- task i comes to hold the crane higher than p
abbrev pub IsHigher : Swept → ℤ → ℕ → Type 0
IsHigher it p i = IsFelt it i × (p <ℤ task_hold it i)

-- the tick at which a coming task has the crane at p
abbrev pub passing : Swept → ℤ → ℕ → ℕ
passing it p i = start_of it.sched i - bays_up p (task_hold it i)

-- task i has started by tick m + 1 and holds the crane at p
abbrev pub HoldsAt : Swept → ℕ → ℤ → ℕ → Type 0
HoldsAt it m p i = IsFelt it i × (task_hold it i ≡ p) × (start_of it.sched i ≤ m + 1)

-- the floor or a task that has started by tick m + 1 holds the crane at p
abbrev pub IsHeld : Swept → ℕ → ℤ → Type 0
IsHeld it m p = (floor_place it ≡ p) ⊎ ((i : ℕ) × HoldsAt it m p i)

-- the berth of crane v holds the crane at p while it stands
abbrev pub IsBerthAt : Swept → ℤ → ℕ → Type 0
IsBerthAt it p v = (v ≤ it.crane) × (berth_hold it v ≡ p)

-- until when the berth of crane v stands
abbrev pub ready_of : Swept → ℕ → ℕ
ready_of it v = (crane it.inst v).ready

-- as the crane goes down from p at tick m, it comes to the hold of berth v while that still stands
abbrev pub IsBelow : Swept → ℕ → ℤ → ℕ → Type 0
IsBelow it m p v = (v ≤ it.crane) × ((p +ℤ pos m) <ℤ (berth_hold it v +ℤ pos (ready_of it v)))

-- the tick at which a crane that goes down from p at tick m comes to a place
abbrev pub descent : ℕ → ℤ → ℤ → ℕ
descent m p q = m + bays_up q p

-- the tick at which such a crane comes to the hold of berth v
abbrev pub stopping : Swept → ℕ → ℤ → ℕ → ℕ
stopping it m p v = descent m p (berth_hold it v)

-- the crane goes one way from p at tick m to tick e, the end or a turn
pub record IsRun (it : Swept) (m : ℕ) (p : ℤ) (end e : ℕ) : Type 0 where
  pub way : Ordering
  pub onward : m < e
  pub within : e ≤ end
  pub along : (x : ℕ) → m + x ≤ e → IsAt it (m + x) (moved way p x)
  pub stops : e < end → ¬ IsAt it (e + 1) (moved way p (e + 1 - m))
  -- a rise ends at the start of a task
  pub risen : way ≡ Greater → e < end → (i : ℕ) × (i < length it.inst.tasks) × (start_of it.sched i ≡ e)
  -- what falls is the place that a berth had
  pub fallen : way ≡ Less → (v : ℕ) × (v ≤ it.crane) × ((crane it.inst v).ready ≤ m)
      × (p ≡ berth_place it.inst v it.crane m 1)
