-- inner: what a dispatcher keeps.
use Rattle.std.specs.Prelude.{◌≡◌, ℕ, ◌<◌, ◌≤◌, Bool, List, length, Option, None, Some}
use Rattle.qc_dispatch.specs.declared.waits.Wait.{Wait}
use Rattle.qc_dispatch.specs.declared.next.Next.{Next}
use Rattle.qc_dispatch.specs.Course.{Course, MayStart, end_at, past_moments}
use Rattle.qc_dispatch.specs.Promises.{Keeps}
use Rattle.qc_dispatch.specs.Marks.{AreMarks}
use Rattle.qc_dispatch.specs.Waits.{AreWaits}
use Rattle.qc_model.specs.Instance.{Valid}
use Rattle.qc_model.specs.Rules.{Feasible}

-- the course of the work: the plan is feasible, each task has a stage, and all promises hold
pub record IsCourse (c : Course) : Type 0 where
  pub valid : Valid c.inst
  pub feasible : Feasible c.inst c.plan
  pub stages : length c.stages ≡ length c.inst.tasks
  pub keeps : Keeps c

-- the tables beside it
pub record AreKept (c : Course) (marks : List Bool) (waits : List Wait) : Type 0 where
  pub course : IsCourse c
  pub early : c.clock < past_moments
  pub marks_are : AreMarks c.inst c.plan marks
  pub waits_are : AreWaits c.inst c.plan marks (end_at c) waits

-- some task may start by this moment: this is the first that may, and of those at one moment the lowest
pub record IsSoonest (c : Course) (to : ℕ) (next : Next) : Type 0 where
  pub from : c.clock ≤ next.moment
  pub by : next.moment ≤ to
  pub may : MayStart c next.moment next.task
  pub soonest : (moment j : ℕ) → c.clock ≤ moment → moment < next.moment → ¬ MayStart c moment j
  pub lowest : (j : ℕ) → j < next.task → ¬ MayStart c next.moment j

-- what comes first by this moment, if anything does
abbrev pub ComesBy : Course → ℕ → Option Next → Type 0
ComesBy c to None = (moment j : ℕ) → c.clock ≤ moment → moment ≤ to → ¬ MayStart c moment j
ComesBy c to (Some next) = IsSoonest c to next
