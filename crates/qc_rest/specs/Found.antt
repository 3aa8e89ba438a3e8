-- inner: what is found of the work by a log.
use Rattle.std.specs.Prelude.{◌≡◌, ℕ, Bool, List, length, slice_index}
use Rattle.qc_dispatch.specs.declared.follow.Followed.{Followed}
use Rattle.qc_dispatch.specs.Following.{journal_of}
use Rattle.qc_dispatch.specs.Marks.{AreMarks}
use Rattle.qc_model.specs.declared.schedule.Slot.{Slot}
use Rattle.qc_rest.specs.declared.stand.Stand.{Stand}
use Rattle.qc_rest.specs.GoneOn.{AreGoneOn}
use Rattle.qc_rest.specs.Making.{AreNumbers}
use Rattle.qc_rest.specs.Passed.{most_base}
use Rattle.qc_rest.specs.Passing.{StartBy}
use Rattle.qc_rest.specs.Remaining.{over_at}
use Rattle.qc_rest.specs.Stands.{AreStands}

-- the table of who leads whom, the numbers of tasks, stands, and when the old order goes on
pub record AreFound (f : Followed) (plan : List Slot) (marks : List Bool) (numbers : List ℕ) (stands : List Stand) (goes : List ℕ) : Type 0 where
  pub marks_are : AreMarks f.dispatch.inst plan marks
  pub numbers_are : AreNumbers f.dispatch numbers
  pub stands_count : length stands ≡ length f.dispatch.inst.cranes
  pub stands_are : AreStands f.dispatch (over_at (journal_of f)) stands
  pub goes_count : length goes ≡ length f.dispatch.inst.tasks
  pub goes_are : AreGoneOn f.dispatch (over_at (journal_of f)) (slice_index goes)
  pub soon : StartBy goes most_base
