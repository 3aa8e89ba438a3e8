-- public: what a run of a plan tells of cranes and tasks.
use Rattle.std.specs.Prelude.{ℕ, ◌+◌, ◌-◌, max, min, Bool, ◌&&◌, ◌==◌, nat_lt, if◌then◌else◌, List, length, map, slice_index, slice_set, sum_by}
use Rattle.std.specs.List.{range_with_len}
use Rattle.qc_model.specs.declared.schedule.Slot.{Slot}
use Rattle.qc_model.specs.Instance.{InstanceView, bay_of, ticks_of}
use Rattle.qc_model.specs.Nodes.{greatest}
use Rattle.qc_model.specs.Rules.{crane_of, start_of}
use Rattle.qc_model.specs.Ticks.{arrival, travel_between}
use Rattle.qc_odds.specs.Course.{end_in}
use Rattle.qc_odds.specs.Critical.{is_marked}

-- the plan gives task j to crane k
abbrev pub is_on : List Slot → (k j : ℕ) → Bool
is_on plan k j = crane_of plan j == k

-- by the plan one crane does task i and later task j
abbrev pub is_ahead_of : List Slot → (i j : ℕ) → Bool
is_ahead_of plan i j = is_on plan (crane_of plan j) i && nat_lt (start_of plan i) (start_of plan j)

-- when the crane of task j has come there from task i, which it does before; 0 where it does not
abbrev pub there_from : InstanceView → List Slot → (lengths starts : List ℕ) → (j i : ℕ) → ℕ
there_from inst plan lengths starts j i =
    if is_ahead_of plan i j then end_in lengths starts i + travel_between inst (bay_of inst i) (bay_of inst j) else 0

-- when the crane of task j is there, whatever else the task waits for: it was ready and came from its start bay, and it has
-- come from each task that it does before; the last of them decides, since no detour is shorter
unfoldable pub there : InstanceView → List Slot → (lengths starts : List ℕ) → ℕ → ℕ
there inst plan lengths starts j =
    max (arrival inst (crane_of plan j) (bay_of inst j))
    (greatest (map (there_from inst plan lengths starts j) (range_with_len 0 (length inst.tasks))))

-- for how long crane k stands at task j and waits; 0 where the task is another crane's
abbrev pub held_at : InstanceView → List Slot → (lengths starts : List ℕ) → (k j : ℕ) → ℕ
held_at inst plan lengths starts k j = if is_on plan k j then slice_index starts j - there inst plan lengths starts j else 0

-- for how long crane k stands at its tasks and waits
unfoldable pub held : InstanceView → List Slot → (lengths starts : List ℕ) → ℕ → ℕ
held inst plan lengths starts k = sum_by (held_at inst plan lengths starts k) (range_with_len 0 (length inst.tasks))

-- when task j of crane k ends; 0 where the task is another crane's
abbrev pub end_on : List Slot → (lengths starts : List ℕ) → (k j : ℕ) → ℕ
end_on plan lengths starts k j = if is_on plan k j then end_in lengths starts j else 0

-- when crane k is through with its tasks; 0 where it has none
unfoldable pub crane_end : InstanceView → List Slot → (lengths starts : List ℕ) → ℕ → ℕ
crane_end inst plan lengths starts k = greatest (map (end_on plan lengths starts k) (range_with_len 0 (length inst.tasks)))

-- by how much a critical task takes longer than planned; 0 where it isn't critical
abbrev pub over : InstanceView → (lengths : List ℕ) → List Bool → ℕ → ℕ
over inst lengths marked j = if is_marked marked j then slice_index lengths j - ticks_of inst j else 0

-- the lengths where task j never takes longer than planned
abbrev pub without_over : InstanceView → (lengths : List ℕ) → ℕ → List ℕ
without_over inst lengths j = slice_set lengths j (min (slice_index lengths j) (ticks_of inst j))
