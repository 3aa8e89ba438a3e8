-- public: what calls of a dispatcher lead to.
use Rattle.std.specs.Prelude.{◌≡◌, ℕ, ◌<◌, ◌≤◌, List, [], ◌∷◌, length, replicate, Option, Result, ⊤}
use Rattle.qc_dispatch.specs.declared.stage.Stage.TheVariants.{Waiting}
use Rattle.qc_dispatch.specs.declared.grant.Grant.{Grant}
use Rattle.qc_dispatch.specs.declared.grant.NotRunning.{NotRunning}
use Rattle.qc_dispatch.specs.Course.{Course, IsAdvanced, IsQuiet, IsReported, past_moments}
use Rattle.qc_model.specs.declared.schedule.Slot.{Slot}
use Rattle.qc_model.specs.Instance.{InstanceView}

-- a call: wait for the next start until this tick, or report that this task is done
pub data Call : Type 0 where
  Advance : ℕ → Call
  Done : ℕ → Call

-- nothing is started, and it is the first moment
abbrev pub opening : InstanceView → List Slot → Course
opening inst plan =
    record { inst = inst; plan = plan; clock = 0; stages = replicate (length inst.tasks) Waiting }

-- waiting until this tick came to this
pub record Waits (old : Course) (to : ℕ) (new : Course) : Type 0 where
  pub from : old.clock ≤ to
  pub by : to < past_moments
  pub granted : Option Grant
  pub advanced : IsAdvanced old to granted new

-- a report came to this; it is made where no task may start
pub record Tells (old : Course) (task : ℕ) (new : Course) : Type 0 where
  pub quiet : IsQuiet old
  pub inside : task < length old.inst.tasks
  pub result : Result ⊤ NotRunning
  pub reported : IsReported old task result new

abbrev pub IsCalled : Course → Call → Course → Type 0
IsCalled old (Advance to) new = Waits old to new
IsCalled old (Done task) new = Tells old task new

-- these calls lead from the one to the other
abbrev pub Reaches : Course → List Call → Course → Type 0
Reaches old [] new = new ≡ old
Reaches old (call ∷ calls) new = (next : Course) × IsCalled old call next × Reaches next calls new
