-- public: the account of a list of moves: what its answer says of the files.
use Rattle.std.specs.Prelude.{◌≡◌, ◌≤◌, ◌⊎◌, List, length, None, Result, Ok, Err}
use Rattle.qc_changes.specs.Changes.{AddUp, AreChanges, ChangesView}
use Rattle.qc_changes.specs.Classes.{stands}
use Rattle.qc_changes.specs.ListText.{list_text, read_for}
use Rattle.qc_changes.specs.States.{Leads}
use Rattle.qc_io.specs.Outside.{Rose, View, with_file}
use Rattle.qc_run.specs.declared.bay_plans.BayPlans.{BayPlans}
use Rattle.qc_run.specs.declared.refusal.Stop.{Stop}
use Rattle.qc_run.specs.declared.status.Status.{Status}
use Rattle.qc_run.specs.Due.{bay_plans_due}
use Rattle.qc_run.specs.Inputs.{Moving, bay_plans_named}
use Rattle.qc_run.specs.Reports.{IsRun, Prints, PrintsPart}
use Rattle.qc_run.specs.Steps.{ComesTo, MayStop, Stops}
use Rattle.qc_ship.specs.Ship.{ShipView}
use Rattle.qc_stow.specs.declared.row.Row.{Row}
use Rattle.qc_stow.specs.Stow.{moves_in}
use Rattle.qc_moves_command.specs.declared.answer.Figures.{Figures}
use Rattle.qc_moves_command.specs.declared.answer.MovesAnswer.{MovesAnswer}
use Rattle.qc_moves_command.specs.declared.answer.MovesAnswer.TheVariants as answer
use Rattle.qc_moves_command.specs.Figures.{figures_of, moves_status, moves_text}

-- this leads from one plan to the other: it is the list of the moves between them, the moves can be made one after the
-- other, no list that leads there has fewer, and it is read as these moves for every ship that has the hatches
pub record IsBetween (plans : BayPlans) (c : ChangesView) : Type 0 where
  pub are : AreChanges plans.arrival.containers plans.departure.containers c
  pub sums : AddUp plans.arrival.containers plans.departure.containers c
  pub leads : Leads (stands plans.arrival.containers) c.rows (stands plans.departure.containers)
  pub least : (rows : List Row) → Leads (stands plans.arrival.containers) rows (stands plans.departure.containers)
      → length c.rows ≤ length rows
  pub reads : (ship : ShipView) → moves_in ship (list_text c.rows) ≡ read_for ship c.rows

-- both plans were read, and this leads from the one to the other
pub record AreFound (asked : Moving) (before : View) : Type 0 where
  pub plans : BayPlans
  pub due : ComesTo bay_plans_due (bay_plans_named asked) before.files (Ok plans)
  pub changes : ChangesView
  pub between : IsBetween plans changes

-- the list's file holds its text, where the shelf tells its files; all others are as they were
abbrev pub IsStored : (asked : Moving) (before after : View) → AreFound asked before → Type 0
IsStored asked before after found = after.files ≡ with_file before.files asked.stow (list_text found.changes.rows)

-- that was stored, and is told
pub record IsListed (asked : Moving) (before after : View) (told : Figures) : Type 0 where
  pub found : AreFound asked before
  pub figures : told ≡ figures_of found.plans found.changes
  pub stored : IsStored asked before after found
  pub made : after.made ≡ None
  pub faults : after.faults ≡ before.faults

-- its writing was stopped: the file is as it was, or whole
pub record IsStopped (asked : Moving) (before after : View) : Type 0 where
  pub found : AreFound asked before
  pub left : (after.files ≡ before.files) ⊎ IsStored asked before after found
  pub rose : Rose before.faults after.faults

-- what an answer says of the files
abbrev pub Writes : Moving → View → View → MovesAnswer → Type 0
Writes asked before after answer.WriteFault = IsStopped asked before after
Writes asked before after (answer.Listed told) = IsListed asked before after told

-- what a list of moves says of its answer and of the shelf; where it stopped, no file was begun
abbrev pub IsListing : Moving → View → View → Result MovesAnswer Stop → Type 0
IsListing asked before after (Ok a) = Writes asked before after a × (after.read_faults ≡ before.read_faults)
IsListing asked before after (Err why) =
    Stops bay_plans_due (bay_plans_named asked) before after why × MayStop (bay_plans_named asked) why
    × (after.files ≡ before.files) × (after.faults ≡ before.faults) × (after.made ≡ before.made)

-- a run of the command: it lists the moves, and reports
abbrev pub IsMovesRun : Moving → (before after out_before out_after : View) → Status → Type 0
IsMovesRun asked before after out_before out_after ended =
    IsRun (IsListing asked before after) (λ a. Prints (moves_text a)) (λ a. PrintsPart (moves_text a)) moves_status
    out_before out_after ended
