-- public: what leads from one plan to another.
use Rattle.std.specs.Prelude.{◌≡◌, ◌≤◌, ◌+◌, ◌*◌, List, length}
use Rattle.qc_stow.specs.declared.row.Row.{Row}
use Rattle.qc_bayplan.specs.declared.plan.Container.{Container}
use Rattle.qc_changes.specs.Classes.{AreLifted}
use Rattle.qc_changes.specs.declared.class.Class.{Class}
use Rattle.qc_changes.specs.declared.counts.Counts.{Counts}
use Rattle.qc_changes.specs.Counts.{count_in, count_of}
use Rattle.qc_changes.specs.MoveList.{IsMoveList}

pub record ChangesView : Type 0 where
  pub rows : List Row
  pub counts : Counts

-- the list of the moves from one plan to another, and how many containers have each class
pub record AreChanges (first second : List Container) (c : ChangesView) : Type 0 where
  pub lifted : List Container
  pub are : AreLifted first second lifted
  pub rows_are : IsMoveList first second lifted c.rows
  pub counts_are : (class : Class) → count_in class c.counts ≡ count_of first second lifted class

-- the counts add up to either plan and to the list
pub record AddUp (first second : List Container) (c : ChangesView) : Type 0 where
  pub first_sum : length first ≡ c.counts.discharged + c.counts.restowed + c.counts.lifted + c.counts.staying
  pub second_sum : length second ≡ c.counts.loaded + c.counts.restowed + c.counts.lifted + c.counts.staying
  pub rows_sum : length c.rows ≡ c.counts.discharged + c.counts.loaded + 2 * (c.counts.restowed + c.counts.lifted)
  pub most : length c.rows ≤ 50000
