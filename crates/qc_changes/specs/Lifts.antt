-- inner: what is lifted, as the code finds it.
use Rattle.std.specs.Prelude.{◌≡◌, ℕ, ◌-◌, List, ◌++◌, filter, length, map, Option}
use Rattle.qc_ship.specs.Cells.{CellView}
use Rattle.qc_stow.specs.declared.row.Move.TheVariants.{Discharge, Load}
use Rattle.qc_stow.specs.declared.row.Row.{Row}
use Rattle.qc_bayplan.specs.declared.plan.Container.{Container}
use Rattle.qc_changes.specs.declared.column.Column.{Column}
use Rattle.qc_changes.specs.declared.counts.Counts.{Counts}
use Rattle.qc_changes.specs.Classes.{AreLifted, changed, chosen}
use Rattle.qc_changes.specs.Floors.{IsFloor}
use Rattle.qc_changes.specs.MoveList.{row_of}
use Rattle.qc_changes.specs.Over.{is_over_any}

-- of these cells just those are lifted that are over a worked one or over a lifted one
abbrev pub Lifts : (worked cells lifted : List CellView) → Type 0
Lifts worked cells lifted = lifted ≡ filter (λ cell. is_over_any cell (worked ++ lifted)) cells

-- what is over one of the worked cells is what must be lifted
pub record IsLiftedFloor (lowest : Column → Option ℕ) (first second : List Container) : Type 0 where
  pub cells : List CellView
  pub floor : IsFloor lowest cells
  pub lifted : AreLifted first second (chosen first second cells)

-- how many containers have each class, where so many stand in the first plan, so many go, lifted ones counted, so many of
-- the first plan the second hasn't at all, so many it has at the same cell, and so many of the second the first hasn't
abbrev pub counts_from : (all off gone still new : ℕ) → Counts
counts_from all off gone still new = record {
  discharged = gone;
  loaded = new;
  restowed = all - still - gone;
  lifted = off - (all - still);
  staying = still - (off - (all - still));
}

-- so many go, lifted ones counted
pub record HasOff (first second : List Container) (off : ℕ) : Type 0 where
  pub lifted : List Container
  pub are : AreLifted first second lifted
  pub count : off ≡ length (changed first second ++ lifted)

-- what goes and what comes, in the order in which it is found
pub record HaveLifted (first second : List Container) (off on : List Row) : Type 0 where
  pub lifted : List Container
  pub are : AreLifted first second lifted
  pub off_are : off ≡ map (row_of Discharge) (changed first second ++ lifted)
  pub on_are : on ≡ map (row_of Load) (changed second first ++ lifted)
