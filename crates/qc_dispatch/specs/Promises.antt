-- public: what is promised of the course of the work, whatever is reported and when.
use Rattle.std.specs.Prelude.{◌≡◌, ◌≢◌, ℕ, ◌+◌, ◌<◌, ◌≤◌, ◌⊎◌, max, map, length, List, [], ◌∷◌, Option, None, Some, IfSome, IsSome, IsSomeAnd, ⊤}
use Rattle.std.specs.List.{range_with_len}
use Rattle.qc_dispatch.specs.declared.stage.Stage.{Stage}
use Rattle.qc_dispatch.specs.declared.stage.Stage.TheVariants.{Waiting, Running, Ended}
use Rattle.qc_dispatch.specs.Course.{Course, IsOver, IsQuiet, MayStart, end_at, left, running, stage_of, start_at}
use Rattle.qc_dispatch.specs.Order.{AreTied, Leads, free_of, gap}
use Rattle.qc_model.specs.Instance.{IsBefore}
use Rattle.qc_model.specs.Nodes.{greatest}

-- the greatest of what a function gives for the tasks
abbrev pub over_tasks : Course → (ℕ → ℕ) → ℕ
over_tasks c f = greatest (map f (range_with_len 0 (length c.inst.tasks)))

-- the greatest gap between two tasks
abbrev pub greatest_gap : Course → ℕ
greatest_gap c = over_tasks c (λ i. over_tasks c (gap c.inst c.plan i))

-- the later of two moments that may be missing
abbrev pub later : Option ℕ → Option ℕ → Option ℕ
later None other = other
later (Some m) None = Some m
later (Some m) (Some n) = Some (max m n)

-- the last of these moments; none where all are missing
abbrev pub last : List (Option ℕ) → Option ℕ
last [] = None
last (o ∷ os) = later o (last os)

-- the last end so far; none where no task has ended
abbrev pub last_end : Course → Option ℕ
last_end c = last (map (end_at c) (range_with_len 0 (length c.inst.tasks)))

-- so many ticks are over behind the last end, if there is any, and it is no earlier than this moment
abbrev pub behind : Option ℕ → (moment ticks : ℕ) → ℕ
behind None moment ticks = moment
behind (Some end) moment ticks = max moment (end + ticks)

-- when the next start comes at the latest if nothing runs: all cranes can be there, and the greatest gap is
-- over behind the last end; where no task has ended, all cranes can be there
abbrev pub latest : Course → ℕ
latest c = behind (last_end c) (over_tasks c (free_of c.inst c.plan)) (greatest_gap c)

-- task i ended by the gap before task j started
abbrev pub IsAhead : Course → ℕ → ℕ → Type 0
IsAhead c i j = IsSomeAnd (start_at c j) (IsOver c i (gap c.inst c.plan i j))

-- the work goes on by itself: some task may start at a moment that is still to come
pub record GoesOn (c : Course) : Type 0 where
  pub soon : c.clock < latest c
  pub task : ℕ
  pub may : MayStart c (latest c) task

-- by this moment: a start isn't later, nor an end, which isn't before its start
abbrev pub IsSpan : ℕ → Stage → Type 0
IsSpan now Waiting = ⊤
IsSpan now (Running start) = start ≤ now
IsSpan now (Ended start end) = (start ≤ end) × (end ≤ now)

-- the rules of a feasible plan, with the lengths that tasks really take
pub record Keeps (c : Course) : Type 0 where
  -- each task has a stage
  pub stages : length c.stages ≡ length c.inst.tasks
  -- no task ends before it starts, and none starts or ends later than now
  pub spans : (j : ℕ) → IsSpan c.clock (stage_of c j)
  -- a task starts once its crane can be there and all berths are clear
  pub starts : (j : ℕ) → IfSome (start_at c j) (λ start. free_of c.inst c.plan j ≤ start)
  -- it starts once all that lead it have ended, by the gap at the least
  pub order : (i j : ℕ) → Leads c.inst c.plan i j → IfSome (start_at c j) (IsOver c i (gap c.inst c.plan i j))
  -- it starts after those before it
  pub before : (i j : ℕ) → IsBefore c.inst i j → IfSome (start_at c j) (IsOver c i 0)
  -- of two tasks that are tied one ended by the gap before the other started: so no two cranes come too near
  pub clear : (i j : ℕ) → i < length c.inst.tasks → j < length c.inst.tasks → i ≢ j → AreTied c.inst c.plan i j
      → IsSome (start_at c i) → IsSome (start_at c j) → IsAhead c i j ⊎ IsAhead c j i
  -- where tasks are left and none runs, the next one starts by itself
  pub goes_on : IsQuiet c → 0 < left c → running c ≡ 0 → GoesOn c
