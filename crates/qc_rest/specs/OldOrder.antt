-- public: the old order as a schedule of the rest.
use Rattle.std.specs.Prelude.{◌≡◌, ℕ, ◌+◌, ◌≤◌, ◌↔◌, List, length}
use Rattle.qc_dispatch.specs.Course.{Course, left}
use Rattle.qc_dispatch.specs.Order.{Leads, gap}
use Rattle.qc_model.specs.declared.schedule.Slot.{Slot}
use Rattle.qc_model.specs.Instance.{InstanceView, ticks_of}
use Rattle.qc_model.specs.Nodes.{free}
use Rattle.qc_model.specs.Rules.{crane_of, start_of}
use Rattle.qc_rest.specs.Progress.{IsLeft, number_of}

-- by this tick of the rest its crane can begin task j, and each task that is left and leads it is over, by the gap
pub record MayFollowBy (c : Course) (rest : InstanceView) (sched : List Slot) (j tick : ℕ) : Type 0 where
  pub free : free rest (number_of c j) (crane_of c.plan j) ≤ tick
  pub clear : (i : ℕ) → IsLeft c i → Leads c.inst c.plan i j
      → start_of sched (number_of c i) + ticks_of c.inst i + gap c.inst c.plan i j ≤ tick

-- each task that is left is on its crane of the plan, and starts at the first tick at which it may
pub record IsOldOrder (c : Course) (rest : InstanceView) (sched : List Slot) : Type 0 where
  pub count : length sched ≡ left c
  pub cranes : (j : ℕ) → IsLeft c j → crane_of sched (number_of c j) ≡ crane_of c.plan j
  pub starts : (j : ℕ) → IsLeft c j → (tick : ℕ) → (start_of sched (number_of c j) ≤ tick) ↔ MayFollowBy c rest sched j tick
