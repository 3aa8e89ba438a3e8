-- inner: how a sweep over the motion of one crane sees it: what holds the crane, at half ticks.
use Rattle.std.specs.Prelude.{◌≡◌, ◌≢◌, ℕ, zero, suc, ◌+◌, ◌-◌, ◌*◌, ◌<◌, ◌≤◌, max, ℤ, pos, negsuc, ◌+ℤ◌, ◌-ℤ◌, ◌≤ℤ◌, ◌⊎◌, Bool, List, length, nat_lt, nat_le, ◌&&◌, if◌then◌else◌}
use Rattle.std.specs.Int.{int_max}
use Rattle.qc_model.specs.declared.schedule.Slot.{Slot}
use Rattle.qc_model.specs.Instance.{InstanceView, Valid, bay_of, crane}
use Rattle.qc_model.specs.Motion.{IsFloor, bay_ahead, scaled}
use Rattle.qc_model.specs.Numbers.{most_end}
use Rattle.qc_model.specs.Rules.{crane_of, start_of, end_of}
use Rattle.qc_freemove.specs.declared.hold.Hold.{Hold}

-- the place to which a hold brings the crane at a half tick
abbrev pub held : Hold → ℕ → ℤ
held h m = h.place -ℤ pos (max (h.from - m) (m - h.until))

-- an instance and a schedule of it, a crane, and the bay of its floor
pub record FreeSwept : Type 0 where
  pub inst : InstanceView
  pub sched : List Slot
  pub crane : ℕ
  pub floor : ℤ

pub record IsFreeSound (it : FreeSwept) : Type 0 where
  pub valid : Valid it.inst
  pub range : it.crane < length it.inst.cranes
  pub floor : IsFloor it.inst it.sched it.crane it.floor

abbrev pub floor_place : FreeSwept → ℤ
floor_place it = scaled it.inst 2 it.floor

-- task i holds the crane while it is done
abbrev pub task_hold : FreeSwept → ℕ → Hold
task_hold it i = record {
  place = scaled it.inst 2 (bay_ahead it.inst (crane_of it.sched i) (bay_of it.inst i) it.crane);
  from = 2 * start_of it.sched i;
  until = 2 * end_of it.inst it.sched i;
}

-- the berth of crane v holds the crane until v is ready
abbrev pub berth_hold : FreeSwept → ℕ → Hold
berth_hold it v = record {
  place = scaled it.inst 2 (bay_ahead it.inst v (crane it.inst v).bay it.crane);
  from = 0;
  until = 2 * (crane it.inst v).ready;
}

-- number n is that of a task for which the crane has to make room
abbrev pub is_felt : FreeSwept → ℕ → Bool
is_felt it n = nat_lt n (length it.inst.tasks) && nat_le (crane_of it.sched n) it.crane

-- what holds the crane, by number: tasks first, then berths; a higher crane's task stands for the first berth
abbrev pub hold_of : FreeSwept → ℕ → Hold
hold_of it n = if is_felt it n then task_hold it n else berth_hold it (n - length it.inst.tasks)

abbrev pub hold_count : FreeSwept → ℕ
hold_count it = length it.inst.tasks + it.crane + 1

-- the highest of a place and the first n holds at a half tick
abbrev pub highest : (ℕ → Hold) → ℤ → ℕ → ℕ → ℤ
highest h z m zero = z
highest h z m (suc n) = int_max (highest h z m n) (held (h n) m)

-- the crane's place at a half tick
abbrev pub place_at : FreeSwept → ℕ → ℤ
place_at it m = highest (hold_of it) (floor_place it) m (hold_count it)

-- the crane goes on otherwise than it came
abbrev pub IsBend : FreeSwept → ℕ → Type 0
IsBend it m = (place_at it (m + 1) -ℤ place_at it m) ≢ (place_at it m -ℤ place_at it (m - 1))

-- a half tick before the end that has a point: the first, or one at which the crane turns
abbrev pub IsKept : FreeSwept → ℕ → Type 0
IsKept it m = (m ≡ 0) ⊎ ((0 < m) × IsBend it m)

-- the last half tick of which the place is asked for
abbrev pub last_half : ℕ
last_half = 2 * most_end + 1

-- twice the place of a bay
abbrev pub IsHalfPlace : ℤ → Type 0
IsHalfPlace x = (negsuc 799999999 ≤ℤ x) × (x ≤ℤ pos 800000000)

-- where such a place or a hold of it may have a crane
abbrev pub IsHeldPlace : ℤ → Type 0
IsHeldPlace x = (negsuc 9999999999999 ≤ℤ x) × (x ≤ℤ pos 800000000)

-- what lies between four such places
abbrev pub IsSmall : ℤ → Type 0
IsSmall x = (negsuc 99999999999999 ≤ℤ x) × (x ≤ℤ pos 99999999999999)

pub record IsNearHold (h : Hold) : Type 0 where
  pub place : IsHalfPlace h.place
  pub from : h.from ≤ 2 * most_end
  pub until : h.until ≤ 2 * most_end

-- a moment doesn't lie strictly between two others
abbrev pub IsOutside : ℕ → ℕ → ℕ → Type 0
IsOutside m e t = (t ≤ m) ⊎ (e ≤ t)

-- what goes from `now` to `next` in a half tick and then on evenly has not come past what goes on evenly from
-- `place` to `ahead`, by half tick e
pub record IsUnpassed (m : ℕ) (place ahead now next : ℤ) (e : ℕ) : Type 0 where
  pub by_one : (next -ℤ now) ≡ ((ahead -ℤ place) +ℤ pos 1) → pos e ≤ℤ (pos m +ℤ (place -ℤ now))
  pub by_two : (next -ℤ now) ≡ ((ahead -ℤ place) +ℤ pos 2) → pos (2 * e) ≤ℤ (pos (2 * m) +ℤ (place -ℤ now))

-- between two half ticks a hold neither starts nor ends, nor does it come past the crane
pub record IsSteady (h : Hold) (m : ℕ) (place ahead : ℤ) (e : ℕ) : Type 0 where
  pub from : IsOutside m e h.from
  pub until : IsOutside m e h.until
  pub below : IsUnpassed m place ahead (held h m) (held h (m + 1)) e

-- of the floor and the first n holds none starts, ends or comes past the crane between two half ticks
pub record AreSteady (it : FreeSwept) (m n end e : ℕ) : Type 0 where
  pub onward : m < e
  pub within : e ≤ end
  pub floor : IsUnpassed m (place_at it m) (place_at it (m + 1)) (floor_place it) (floor_place it) e
  pub holds : (i : ℕ) → i < n → IsSteady (hold_of it i) m (place_at it m) (place_at it (m + 1)) e

-- from one half tick to another all steps of the crane are the same
pub record IsEven (it : FreeSwept) (m e end : ℕ) : Type 0 where
  pub onward : m < e
  pub within : e ≤ end
  pub steps : (x : ℕ) → m ≤ x → x < e
      → (place_at it (x + 1) -ℤ place_at it x) ≡ (place_at it (m + 1) -ℤ place_at it m)
