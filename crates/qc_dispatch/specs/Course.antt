-- public: the course of the work: a plan whose order is followed, with the lengths that tasks take.
use Rattle.std.specs.Prelude.{◌≡◌, ◌≢◌, ℕ, ◌+◌, ◌^◌, ◌<◌, ◌≤◌, List, length, slice_index_or, slice_set, count_by, Bool, true, false, Option, None, Some, IsSomeAnd, Result, Ok, Err}
use Rattle.qc_dispatch.specs.declared.stage.Stage.{Stage}
use Rattle.qc_dispatch.specs.declared.stage.Stage.TheVariants.{Waiting, Running, Ended}
use Rattle.qc_dispatch.specs.declared.grant.Grant.{Grant}
use Rattle.qc_dispatch.specs.declared.grant.NotRunning.{NotRunning}
use Rattle.qc_dispatch.specs.Order.{Leads, free_of, gap}
use Rattle.qc_model.specs.declared.schedule.Slot.{Slot}
use Rattle.qc_model.specs.Instance.{InstanceView}
use Rattle.qc_model.specs.Rules.{crane_of, start_of}

-- the plan, the moment that it is, and how far each task is
pub record Course : Type 0 where
  pub inst : InstanceView
  pub plan : List Slot
  pub clock : ℕ
  pub stages : List Stage

-- moments are below this
abbrev pub past_moments : ℕ
past_moments = 2 ^ 50

abbrev pub start_in : Stage → Option ℕ
start_in Waiting = None
start_in (Running start) = Some start
start_in (Ended start end) = Some start

abbrev pub end_in : Stage → Option ℕ
end_in Waiting = None
end_in (Running start) = None
end_in (Ended start end) = Some end

abbrev pub is_waiting : Stage → Bool
is_waiting Waiting = true
is_waiting (Running start) = false
is_waiting (Ended start end) = false

abbrev pub is_running : Stage → Bool
is_running Waiting = false
is_running (Running start) = true
is_running (Ended start end) = false

abbrev pub stage_of : Course → ℕ → Stage
stage_of c j = slice_index_or c.stages j Waiting

abbrev pub start_at : Course → ℕ → Option ℕ
start_at c j = start_in (stage_of c j)

abbrev pub end_at : Course → ℕ → Option ℕ
end_at c j = end_in (stage_of c j)

-- how many tasks have no start, and how many run
abbrev pub left : Course → ℕ
left c = count_by is_waiting c.stages

abbrev pub running : Course → ℕ
running c = count_by is_running c.stages

-- task i ended at least so many ticks before this moment
abbrev pub IsOver : Course → (i ticks moment : ℕ) → Type 0
IsOver c i ticks moment = IsSomeAnd (end_at c i) (λ end. end + ticks ≤ moment)

-- task j may start at this moment: it has no start, its crane can be there with all berths clear, and each task
-- that leads it ended long enough before
pub record MayStart (c : Course) (moment j : ℕ) : Type 0 where
  pub task : j < length c.inst.tasks
  pub waits : stage_of c j ≡ Waiting
  pub free : free_of c.inst c.plan j ≤ moment
  pub clear : (i : ℕ) → Leads c.inst c.plan i j → IsOver c i (gap c.inst c.plan i j) moment

-- no task may start now
abbrev pub IsQuiet : Course → Type 0
IsQuiet c = (j : ℕ) → ¬ MayStart c c.clock j

-- the first moment from now on at which task j may start
pub record IsEarliest (c : Course) (j moment : ℕ) : Type 0 where
  pub from : c.clock ≤ moment
  pub may : MayStart c moment j
  pub soonest : (m : ℕ) → c.clock ≤ m → MayStart c m j → moment ≤ m

-- when task j may start if nothing is reported before; none where it may at no moment from now on
abbrev pub MayFrom : Course → ℕ → Option ℕ → Type 0
MayFrom c j None = (m : ℕ) → c.clock ≤ m → ¬ MayStart c m j
MayFrom c j (Some moment) = IsEarliest c j moment

-- task i leads task j and has no end
pub record KeepsOff (c : Course) (j i : ℕ) : Type 0 where
  pub leads : Leads c.inst c.plan i j
  pub no_end : end_at c i ≡ None

-- of the tasks that keep task j off this is the first by the plan, and the lowest of those with one start there
pub record IsAwaited (c : Course) (j i : ℕ) : Type 0 where
  pub is : KeepsOff c j i
  pub soonest : (k : ℕ) → KeepsOff c j k → start_of c.plan i ≤ start_of c.plan k
  pub lowest : (k : ℕ) → k < i → KeepsOff c j k → start_of c.plan i < start_of c.plan k

-- the task whose end task j waits for; none where no task keeps it off
abbrev pub WaitsFor : Course → ℕ → Option ℕ → Type 0
WaitsFor c j None = (i : ℕ) → ¬ KeepsOff c j i
WaitsFor c j (Some i) = IsAwaited c j i

-- the course as it goes on once this task starts at this moment
abbrev pub started : Course → (moment task : ℕ) → Course
started c moment task = record c { clock = moment; stages = slice_set c.stages task (Running moment) }

-- from now to this tick some task may start: at the first such moment the lowest one did
pub record IsGranted (old : Course) (to : ℕ) (grant : Grant) (new : Course) : Type 0 where
  pub from : old.clock ≤ grant.at
  pub by : grant.at ≤ to
  pub may : MayStart old grant.at grant.task
  pub soonest : (moment j : ℕ) → old.clock ≤ moment → moment < grant.at → ¬ MayStart old moment j
  pub lowest : (j : ℕ) → j < grant.task → ¬ MayStart old grant.at j
  pub crane : grant.crane ≡ crane_of old.plan grant.task
  pub after : new ≡ started old grant.at grant.task

-- from now to this tick no task may start, and it is this tick now
pub record IsPassed (old : Course) (to : ℕ) (new : Course) : Type 0 where
  pub none : (moment j : ℕ) → old.clock ≤ moment → moment ≤ to → ¬ MayStart old moment j
  pub after : new ≡ record old { clock = to }

-- what comes of waiting for the next start until this tick
abbrev pub IsAdvanced : Course → ℕ → Option Grant → Course → Type 0
IsAdvanced old to None new = IsPassed old to new
IsAdvanced old to (Some grant) new = IsGranted old to grant new

-- this task ran, and ends now
pub record IsEnded (old : Course) (task : ℕ) (new : Course) : Type 0 where
  pub start : ℕ
  pub ran : stage_of old task ≡ Running start
  pub after : new ≡ record old { stages = slice_set old.stages task (Ended start old.clock) }

-- this task has no start, or an end already
pub record IsNotRunning (old : Course) (task : ℕ) (new : Course) : Type 0 where
  pub idle : (start : ℕ) → stage_of old task ≢ Running start
  pub after : new ≡ old

-- what comes of the report that this task is done
abbrev pub IsReported : {T : Type 0} → Course → ℕ → Result T NotRunning → Course → Type 0
IsReported old task (Ok done) new = IsEnded old task new
IsReported old task (Err refused) new = IsNotRunning old task new
