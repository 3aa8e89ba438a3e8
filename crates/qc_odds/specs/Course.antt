-- public: the course of a plan with lengths of its tasks: the order is the plan's, and each task starts as soon as it may.
use Rattle.std.specs.Prelude.{◌≡◌, ℕ, ◌+◌, ◌<◌, ◌≤◌, ◌↔◌, List, [], ◌∷◌, length, slice_index}
use Rattle.qc_dispatch.specs.Order.{Leads, free_of, gap}
use Rattle.qc_dispatch.specs.Worked.{with_tasks}
use Rattle.qc_model.specs.declared.schedule.Slot.{Slot}
use Rattle.qc_model.specs.declared.task.Task.{Task}
use Rattle.qc_model.specs.Instance.{InstanceView}

-- when a task ends
abbrev pub end_in : (lengths starts : List ℕ) → ℕ → ℕ
end_in lengths starts j = slice_index starts j + slice_index lengths j

-- by this moment task j may start: its crane can be there with all berths clear, and each task that leads it has
-- ended, by the gap at the least
pub record MayStartBy (inst : InstanceView) (plan : List Slot) (ends : ℕ → ℕ) (j moment : ℕ) : Type 0 where
  pub free : free_of inst plan j ≤ moment
  pub clear : (i : ℕ) → Leads inst plan i j → ends i + gap inst plan i j ≤ moment

-- task j starts by a moment exactly where it may
abbrev pub IsStart : InstanceView → List Slot → (ends : ℕ → ℕ) → (j start : ℕ) → Type 0
IsStart inst plan ends j start = (moment : ℕ) → (start ≤ moment) ↔ MayStartBy inst plan ends j moment

-- the starts of all tasks with these lengths: each comes at the first moment at which the task may start
pub record AreStarts (inst : InstanceView) (plan : List Slot) (lengths starts : List ℕ) : Type 0 where
  pub count : length starts ≡ length inst.tasks
  pub each_one : (j : ℕ) → j < length inst.tasks → IsStart inst plan (end_in lengths starts) j (slice_index starts j)

-- the last end of all tasks, 0 without tasks: it comes by a moment exactly where all of them do
pub record IsLastEnd (lengths starts : List ℕ) (last : ℕ) : Type 0 where
  pub each_by : (moment : ℕ) → (last ≤ moment) ↔ ((j : ℕ) → j < length starts → end_in lengths starts j ≤ moment)

-- a plan that is tried with other lengths each time, and the starts of the last time
pub record CourseView : Type 0 where
  pub inst : InstanceView
  pub plan : List Slot
  pub starts : List ℕ

-- tasks with other lengths, and slots with other starts
abbrev pub with_ticks : List Task → List ℕ → List Task
with_ticks [] lengths = []
with_ticks (task ∷ tasks) [] = task ∷ tasks
with_ticks (task ∷ tasks) (ticks ∷ lengths) = record task { ticks = ticks } ∷ with_ticks tasks lengths

abbrev pub with_starts : List Slot → List ℕ → List Slot
with_starts [] starts = []
with_starts (slot ∷ slots) [] = slot ∷ slots
with_starts (slot ∷ slots) (start ∷ starts) = record slot { start = start } ∷ with_starts slots starts

-- the instance with these lengths
abbrev pub with_lengths : InstanceView → List ℕ → InstanceView
with_lengths inst lengths = with_tasks inst (with_ticks inst.tasks lengths)
