-- inner: what is kept of each task: how many of its leaders have no end yet, and when it may start for the others.
use Rattle.std.specs.Prelude.{◌≡◌, ℕ, ◌+◌, ◌-◌, ◌<◌, ◌≤◌, ◌↔◌, max, Bool, ◌&&◌, ◌==◌, nat_le, nat_lt, if◌then◌else◌, List, length, slice_index_or, count_by, Option, None, Some, is_none}
use Rattle.std.specs.List.{range_with_len}
use Rattle.qc_dispatch.specs.declared.next.Next.{Next}
use Rattle.qc_dispatch.specs.declared.stage.Stage.{Stage}
use Rattle.qc_dispatch.specs.declared.waits.Wait.{Wait}
use Rattle.qc_dispatch.specs.Course.{is_waiting}
use Rattle.qc_dispatch.specs.Marks.{mark}
use Rattle.qc_dispatch.specs.Order.{Leads, free_of, gap}
use Rattle.qc_model.specs.declared.schedule.Slot.{Slot}
use Rattle.qc_model.specs.Instance.{InstanceView}
use Rattle.qc_model.specs.Rules.{start_of}

-- task i leads task j, and has no end
abbrev pub is_open : List Bool → (ℕ → Option ℕ) → ℕ → ℕ → Bool
is_open marks ends j i = mark marks i j && is_none (ends i)

-- how many of the first n tasks do
abbrev pub open_below : ℕ → List Bool → (ℕ → Option ℕ) → ℕ → ℕ
open_below n marks ends j = count_by (is_open marks ends j) (range_with_len 0 n)

-- when the plan starts task i, if that leads task j and has no end
abbrev pub open_start : List Bool → (ℕ → Option ℕ) → List Slot → ℕ → ℕ → Option ℕ
open_start marks ends plan j i = if is_open marks ends j i then Some (start_of plan i) else None

-- by this moment the crane can be there, and those that lead task j and have an end ended long enough before
pub record IsDueBy (inst : InstanceView) (plan : List Slot) (ends : ℕ → Option ℕ) (j moment : ℕ) : Type 0 where
  pub free : free_of inst plan j ≤ moment
  pub clear : (i end : ℕ) → Leads inst plan i j → ends i ≡ Some end → end + gap inst plan i j ≤ moment

pub record IsWait (inst : InstanceView) (plan : List Slot) (marks : List Bool) (ends : ℕ → Option ℕ) (j : ℕ)
    (wait : Wait) : Type 0 where
  pub open_is : wait.leaders ≡ open_below (length inst.tasks) marks ends j
  pub due_is : (moment : ℕ) → (wait.due ≤ moment) ↔ IsDueBy inst plan ends j moment

-- what stands for a task past the end
abbrev pub no_wait : Wait
no_wait = record { leaders = 0; due = 0 }

abbrev pub wait_of : List Wait → ℕ → Wait
wait_of waits j = slice_index_or waits j no_wait

pub record AreWaits (inst : InstanceView) (plan : List Slot) (marks : List Bool) (ends : ℕ → Option ℕ)
    (waits : List Wait) : Type 0 where
  pub count : length waits ≡ length inst.tasks
  pub each : (j : ℕ) → j < length inst.tasks → IsWait inst plan marks ends j (wait_of waits j)

-- a leader of task j ended at this moment
abbrev pub let_go : InstanceView → List Slot → (task moment j : ℕ) → Wait → Wait
let_go inst plan task moment j wait =
    record { leaders = wait.leaders - 1; due = max wait.due (moment + gap inst plan task j) }

-- the task ended at this moment, and lets those go that it leads
pub record AreLetGo (inst : InstanceView) (plan : List Slot) (marks : List Bool) (task moment : ℕ)
    (old new : List Wait) : Type 0 where
  pub count : length new ≡ length old
  pub each : (j : ℕ) → j < length inst.tasks → wait_of new j
      ≡ (if mark marks task j then let_go inst plan task moment j (wait_of old j) else wait_of old j)

-- when a task may start from now on; none where it has a start or must wait for a leader's end
abbrev pub moment_of : ℕ → Stage → Wait → Option ℕ
moment_of now stage wait =
    if is_waiting stage && (wait.leaders == 0) then Some (max now wait.due) else None

-- the earlier of two starts, and the first of them where they are at one moment
abbrev pub sooner : Option Next → ℕ → Option ℕ → Option Next
sooner best task None = best
sooner None task (Some moment) = Some (record { task = task; moment = moment })
sooner (Some best) task (Some moment) =
    if nat_lt moment best.moment then Some (record { task = task; moment = moment }) else Some best

-- a start, if it comes by this moment
abbrev pub within : Option Next → ℕ → Option Next
within None to = None
within (Some next) to = if nat_le next.moment to then Some next else None

-- of the first n tasks this is the one that starts first, and of those at one moment the lowest
pub record IsFirst (f : ℕ → Option ℕ) (n : ℕ) (next : Next) : Type 0 where
  pub inside : next.task < n
  pub at_it : f next.task ≡ Some next.moment
  pub soonest : (j moment : ℕ) → j < n → f j ≡ Some moment → next.moment ≤ moment
  pub lowest : (j moment : ℕ) → j < next.task → f j ≡ Some moment → next.moment < moment

abbrev pub IsNext : (ℕ → Option ℕ) → ℕ → Option Next → Type 0
IsNext f n None = (j : ℕ) → j < n → f j ≡ None
IsNext f n (Some next) = IsFirst f n next
