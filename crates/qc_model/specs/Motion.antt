-- public: where the cranes of a schedule stand at each moment, and what makes that safe.
--
-- The moment of m parts of a tick that is divided into d parts is m / d. A place there is told times d and times
-- the travel per bay, so that it is a whole number at every moment; a crane in motion goes by one a part.
use Rattle.std.specs.Prelude.{◌≡◌, ℕ, ◌+◌, ◌-◌, ◌*◌, ◌<◌, ◌≤◌, ℤ, pos, ◌+ℤ◌, ◌-ℤ◌, ◌*ℤ◌, ◌≤ℤ◌, List, length}
use Rattle.qc_model.specs.declared.direction.Direction.{Direction}
use Rattle.qc_model.specs.declared.direction.Direction.TheVariants.{Up, Down}
use Rattle.qc_model.specs.declared.schedule.Slot.{Slot}
use Rattle.qc_model.specs.Instance.{InstanceView, bay_of, crane}
use Rattle.qc_model.specs.Rules.{crane_of, start_of, end_of, ends}
use Rattle.qc_model.specs.Seen.{seen, seen_number, seen_schedule}

-- a number of the kind that is at least each number of it
pub record IsGreatest (P : ℤ → Type 0) (x : ℤ) : Type 0 where
  pub is : P x
  pub most : (y : ℤ) → P y → y ≤ℤ x

-- a number of the kind that is at most each number of it
pub record IsLeast (P : ℤ → Type 0) (x : ℤ) : Type 0 where
  pub is : P x
  pub least : (y : ℤ) → P y → x ≤ℤ y

-- how high crane k must at least stand while a crane v of no higher number stands at bay x
abbrev pub bay_ahead : InstanceView → ℕ → ℤ → ℕ → ℤ
bay_ahead inst v x k = x +ℤ pos (inst.gap * (k - v))

-- how high crane k may at most stand while a crane w of no lower number stands at bay x
abbrev pub bay_behind : InstanceView → ℕ → ℤ → ℕ → ℤ
bay_behind inst w x k = x -ℤ pos (inst.gap * (w - k))

-- a bay as a place, for d parts a tick
abbrev pub scaled : InstanceView → ℕ → ℤ → ℤ
scaled inst d x = pos (d * inst.travel) *ℤ x

-- a bay for which crane k must make room at some time: of a task or a berth, its own or of a higher crane
pub data FloorBay (inst : InstanceView) (sched : List Slot) (k : ℕ) : ℤ → Type 0 where
  of_task : (j : ℕ) → j < length inst.tasks → k ≤ crane_of sched j
      → FloorBay inst sched k (bay_behind inst (crane_of sched j) (bay_of inst j) k)
  of_berth : (w : ℕ) → w < length inst.cranes → k ≤ w
      → FloorBay inst sched k (bay_behind inst w (crane inst w).bay k)

-- the bay below which crane k never goes
abbrev pub IsFloor : InstanceView → List Slot → ℕ → ℤ → Type 0
IsFloor inst sched k = IsLeast (FloorBay inst sched k)

-- where a coming or a done task i has crane k: it comes up to its bay as its start comes near, and then stays
abbrev pub task_place : InstanceView → List Slot → ℕ → ℕ → ℕ → ℕ → ℤ
task_place inst sched i k m d =
    scaled inst d (bay_ahead inst (crane_of sched i) (bay_of inst i) k) -ℤ pos (d * start_of sched i - m)

-- where the berth of crane v has crane k: v stays until it is ready, and then may go down
abbrev pub berth_place : InstanceView → ℕ → ℕ → ℕ → ℕ → ℤ
berth_place inst v k m d =
    scaled inst d (bay_ahead inst v (crane inst v).bay k) -ℤ pos (m - d * (crane inst v).ready)

-- the places that crane k must not be below at a moment, in a schedule that goes up
pub data LowPlace (inst : InstanceView) (sched : List Slot) (k m d : ℕ) : ℤ → Type 0 where
  of_task : (i : ℕ) → i < length inst.tasks → crane_of sched i ≤ k
      → LowPlace inst sched k m d (task_place inst sched i k m d)
  of_berth : (v : ℕ) → v ≤ k → LowPlace inst sched k m d (berth_place inst v k m d)
  of_floor : (x : ℤ) → IsFloor inst sched k x → LowPlace inst sched k m d (scaled inst d x)

-- a place as it is seen with a direction
abbrev pub seen_place : InstanceView → Direction → ℕ → ℤ → ℤ
seen_place inst Up d p = p
seen_place inst Down d p = scaled inst d (pos (inst.bays + 1)) -ℤ p

-- the place of crane k at a moment: going up it stands as low as it may; going down this is said of the other
-- end of the ship
abbrev pub IsPlace : InstanceView → List Slot → Direction → ℕ → ℕ → ℕ → ℤ → Type 0
IsPlace inst sched way k m d p =
    IsGreatest (LowPlace (seen inst way) (seen_schedule inst sched way) (seen_number inst way k) m d)
    (seen_place inst way d p)

-- a place doesn't lie behind an earlier one in this direction
abbrev pub IsOnward : Direction → ℤ → ℤ → Type 0
IsOnward Up p q = p ≤ℤ q
IsOnward Down p q = q ≤ℤ p

-- every crane has a place at every moment from 0 to the end of the schedule, in parts d of a tick
pub record IsSafeBy (inst : InstanceView) (sched : List Slot) (way : Direction) (d : ℕ) : Type 0 where
  -- each crane stands somewhere
  pub somewhere : (k m : ℕ) → k < length inst.cranes → m ≤ d * ends inst sched
      → (p : ℤ) × IsPlace inst sched way k m d p
  -- cranes keep their order and the margin
  pub margin : (v w m : ℕ) (p q : ℤ) → v < w → w < length inst.cranes → m ≤ d * ends inst sched
      → IsPlace inst sched way v m d p → IsPlace inst sched way w m d q
      → (p +ℤ scaled inst d (pos (inst.gap * (w - v)))) ≤ℤ q
  -- while a task is done its crane stands at its bay
  pub at_task : (j m : ℕ) (p : ℤ) → j < length inst.tasks
      → d * start_of sched j ≤ m → m ≤ d * end_of inst sched j
      → IsPlace inst sched way (crane_of sched j) m d p → p ≡ scaled inst d (bay_of inst j)
  -- until it is ready a crane stands at its berth
  pub at_berth : (k m : ℕ) (p : ℤ) → k < length inst.cranes
      → m ≤ d * ends inst sched → m ≤ d * (crane inst k).ready
      → IsPlace inst sched way k m d p → p ≡ scaled inst d (crane inst k).bay
  -- no crane is faster than one bay in the ticks of travel
  pub speed : (k m : ℕ) (p q : ℤ) → k < length inst.cranes → m + 1 ≤ d * ends inst sched
      → IsPlace inst sched way k m d p → IsPlace inst sched way k (m + 1) d q
      → ((p -ℤ pos 1) ≤ℤ q) × (q ≤ℤ (p +ℤ pos 1))
  -- from the start of its first task on a crane moves one way
  pub one_way : (j m : ℕ) (p q : ℤ) → j < length inst.tasks
      → d * start_of sched j ≤ m → m + 1 ≤ d * ends inst sched
      → IsPlace inst sched way (crane_of sched j) m d p → IsPlace inst sched way (crane_of sched j) (m + 1) d q
      → IsOnward way p q

-- the motion of the schedule is safe at every moment, however finely ticks are divided
abbrev pub IsSafe : InstanceView → List Slot → Direction → Type 0
IsSafe inst sched way = (d : ℕ) → 1 ≤ d → IsSafeBy inst sched way d
