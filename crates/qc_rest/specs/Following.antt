-- inner: the old order as starts of all tasks, by their old numbers.
use Rattle.std.specs.Prelude.{ℕ, ◌+◌, ◌≤◌, ◌↔◌, if◌then◌else◌, List, slice_index}
use Rattle.qc_dispatch.specs.Course.{Course, is_waiting, stage_of}
use Rattle.qc_dispatch.specs.Order.{Leads, gap}
use Rattle.qc_model.specs.declared.schedule.Slot.{Slot}
use Rattle.qc_model.specs.Instance.{InstanceView, ticks_of}
use Rattle.qc_model.specs.Nodes.{free}
use Rattle.qc_model.specs.Numbers.{most_start, most_work}
use Rattle.qc_model.specs.Rules.{crane_of, start_of}
use Rattle.qc_rest.specs.Progress.{IsLeft, number_of}

-- from when on task j may start in the rest, whatever leads it; 0 where it has begun
abbrev pub first_start : Course → InstanceView → ℕ → ℕ
first_start c rest j = if is_waiting (stage_of c j) then free rest (number_of c j) (crane_of c.plan j) else 0

-- by this tick task j may start: its crane can begin it, and each task that is left and leads it is over, by the gap
pub record MayStartBy (c : Course) (rest : InstanceView) (starts : List ℕ) (j tick : ℕ) : Type 0 where
  pub free : free rest (number_of c j) (crane_of c.plan j) ≤ tick
  pub clear : (i : ℕ) → IsLeft c i → Leads c.inst c.plan i j → slice_index starts i + ticks_of c.inst i + gap c.inst c.plan i j ≤ tick

-- each task that is left starts at the first tick at which it may
pub record AreFollowed (c : Course) (rest : InstanceView) (starts : List ℕ) : Type 0 where
  pub each_one : (j : ℕ) → IsLeft c j → (tick : ℕ) → (slice_index starts j ≤ tick) ↔ MayStartBy c rest starts j tick

-- no start is later than may be judged, nor an end, whatever task it is
pub record AreEarlySlots (order : List Slot) : Type 0 where
  pub each_one : (a : ℕ) → start_of order a + most_work ≤ most_start
