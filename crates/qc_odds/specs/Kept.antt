-- inner: what is kept of a plan that is tried with other lengths each time.
use Rattle.std.specs.Prelude.{◌≡◌, Bool, List, length}
use Rattle.qc_dispatch.specs.Marks.{AreMarks}
use Rattle.qc_model.specs.Rules.{Feasible}
use Rattle.qc_odds.specs.Course.{CourseView}
use Rattle.qc_odds.specs.Order.{AreTurns}
use Rattle.qc_odds.specs.declared.course.Course.TheInside.{Inside}
use Rattle.qc_odds.specs.declared.order.PlannedStart.{PlannedStart}

abbrev pub course_of : Inside → CourseView
course_of f = record { inst = f.inst; plan = f.slots.items; starts = f.starts.items }

-- the plan is feasible, and the tables beside it are those of the plan
pub record AreKept (course : CourseView) (marks : List Bool) (turns : List PlannedStart) : Type 0 where
  pub feasible : Feasible course.inst course.plan
  pub marks_are : AreMarks course.inst course.plan marks
  pub turns_are : AreTurns course.inst course.plan turns
  pub starts_count : length course.starts ≡ length course.inst.tasks

abbrev pub IsKept : Inside → Type 0
IsKept f = AreKept (course_of f) f.marks.items f.turns.items
