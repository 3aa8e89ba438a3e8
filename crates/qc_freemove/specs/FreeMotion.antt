-- public: where the cranes of a feasible schedule stand at each moment, whichever way they go, and what makes
-- that safe. Moments, parts d of a tick, places and floors are those of the motion of one-way schedules.
use Rattle.std.specs.Prelude.{◌≡◌, ℕ, ◌+◌, ◌-◌, ◌*◌, ◌<◌, ◌≤◌, max, ℤ, pos, ◌+ℤ◌, ◌-ℤ◌, ◌≤ℤ◌, List, length}
use Rattle.qc_model.specs.declared.schedule.Slot.{Slot}
use Rattle.qc_model.specs.Instance.{InstanceView, bay_of, crane}
use Rattle.qc_model.specs.Motion.{IsFloor, IsGreatest, bay_ahead, berth_place, scaled}
use Rattle.qc_model.specs.Rules.{crane_of, start_of, end_of, ends}

-- by how many parts of a tick a moment lies before the start of task i or behind its end; 0 while it is done
abbrev pub parts_off : InstanceView → List Slot → ℕ → ℕ → ℕ → ℕ
parts_off inst sched i m d = max (d * start_of sched i - m) (m - d * end_of inst sched i)

-- where task i has crane k: it comes up to its bay as the start comes near, and may go down from the end on
abbrev pub visit_place : InstanceView → List Slot → ℕ → ℕ → ℕ → ℕ → ℤ
visit_place inst sched i k m d =
    scaled inst d (bay_ahead inst (crane_of sched i) (bay_of inst i) k) -ℤ pos (parts_off inst sched i m d)

-- the places that crane k must not be below at a moment: a task or a berth, its own or of a lower crane, has it
-- there, or it is its floor
pub data FreeLowPlace (inst : InstanceView) (sched : List Slot) (k m d : ℕ) : ℤ → Type 0 where
  of_task : (i : ℕ) → i < length inst.tasks → crane_of sched i ≤ k
      → FreeLowPlace inst sched k m d (visit_place inst sched i k m d)
  of_berth : (v : ℕ) → v ≤ k → FreeLowPlace inst sched k m d (berth_place inst v k m d)
  of_floor : (x : ℤ) → IsFloor inst sched k x → FreeLowPlace inst sched k m d (scaled inst d x)

-- the place of crane k at a moment: it stands as low as it may
abbrev pub IsFreePlace : InstanceView → List Slot → ℕ → ℕ → ℕ → ℤ → Type 0
IsFreePlace inst sched k m d = IsGreatest (FreeLowPlace inst sched k m d)

-- every crane has a place at every moment from 0 to the end of the schedule, in parts d of a tick
pub record IsFreeSafeBy (inst : InstanceView) (sched : List Slot) (d : ℕ) : Type 0 where
  -- each crane stands somewhere
  pub somewhere : (k m : ℕ) → k < length inst.cranes → m ≤ d * ends inst sched
      → (p : ℤ) × IsFreePlace inst sched k m d p
  -- cranes keep their order and the margin
  pub margin : (v w m : ℕ) (p q : ℤ) → v < w → w < length inst.cranes → m ≤ d * ends inst sched
      → IsFreePlace inst sched v m d p → IsFreePlace inst sched w m d q
      → (p +ℤ scaled inst d (pos (inst.gap * (w - v)))) ≤ℤ q
  -- while a task is done its crane stands at its bay
  pub at_task : (j m : ℕ) (p : ℤ) → j < length inst.tasks
      → d * start_of sched j ≤ m → m ≤ d * end_of inst sched j
      → IsFreePlace inst sched (crane_of sched j) m d p → p ≡ scaled inst d (bay_of inst j)
  -- until it is ready a crane stands at its berth
  pub at_berth : (k m : ℕ) (p : ℤ) → k < length inst.cranes
      → m ≤ d * ends inst sched → m ≤ d * (crane inst k).ready
      → IsFreePlace inst sched k m d p → p ≡ scaled inst d (crane inst k).bay
  -- no crane is faster than one bay in the ticks of travel
  pub speed : (k m : ℕ) (p q : ℤ) → k < length inst.cranes → m + 1 ≤ d * ends inst sched
      → IsFreePlace inst sched k m d p → IsFreePlace inst sched k (m + 1) d q
      → ((p -ℤ pos 1) ≤ℤ q) × (q ≤ℤ (p +ℤ pos 1))

-- the motion of the schedule is safe at every moment, however finely ticks are divided
abbrev pub IsFreeSafe : InstanceView → List Slot → Type 0
IsFreeSafe inst sched = (d : ℕ) → 1 ≤ d → IsFreeSafeBy inst sched d
