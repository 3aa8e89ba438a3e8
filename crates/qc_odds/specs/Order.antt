-- inner: the tasks in an order in which each comes behind those that lead it.
use Rattle.std.specs.Prelude.{◌≡◌, ◌≢◌, ℕ, ◌<◌, List, length, map, slice_index}
use Rattle.std.specs.Ordering.{nat_cmp, ordering_then}
use Rattle.std.specs.declared.cmp.Ordering.{Ordering}
use Rattle.qc_dispatch.specs.Order.{Leads}
use Rattle.qc_model.specs.declared.schedule.Slot.{Slot}
use Rattle.qc_model.specs.Instance.{InstanceView}
use Rattle.qc_model.specs.Rules.{start_of}
use Rattle.qc_odds.specs.declared.order.PlannedStart.{PlannedStart}

-- turns are in order of the planned start, then of the task's number
abbrev pub turn_cmp : PlannedStart → PlannedStart → Ordering
turn_cmp a b = ordering_then (nat_cmp a.start b.start) (nat_cmp a.task b.task)

-- the turn of a task
abbrev pub turn_of : List Slot → ℕ → PlannedStart
turn_of plan j = record { start = start_of plan j; task = j }

-- the task whose turn is at a place
abbrev pub task_at : List PlannedStart → ℕ → ℕ
task_at turns at = slice_index (map (λ turn. turn.task) turns) at

-- a task before this place leads the one there
pub record ComesAhead (turns : List PlannedStart) (at i : ℕ) : Type 0 where
  pub place : ℕ
  pub ahead : place < at
  pub is : task_at turns place ≡ i

-- the turns of all tasks, each once, behind those that lead it
pub record AreTurns (inst : InstanceView) (plan : List Slot) (turns : List PlannedStart) : Type 0 where
  pub count : length turns ≡ length inst.tasks
  pub inside : (at : ℕ) → at < length turns → task_at turns at < length inst.tasks
  pub all_there : (j : ℕ) → j < length inst.tasks → ComesAhead turns (length turns) j
  pub once : (a b : ℕ) → a < b → b < length turns → task_at turns a ≢ task_at turns b
  pub behind : (at i : ℕ) → at < length turns → Leads inst plan i (task_at turns at) → ComesAhead turns at i
