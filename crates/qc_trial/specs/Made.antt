-- public: what is made from numbers, what a search of it came to, and what is told of that.
use Rattle.std.specs.Prelude.{◌≡◌, ℕ, List, length, sum_by, Option, None, Some, Result, Ok, option_map}
use Rattle.qc_num.specs.Reading.{◌>>=◌, with_fault}
use Rattle.qc_make.specs.MadeList.{list_text}
use Rattle.qc_make.specs.MadeTable.{ship_table}
use Rattle.qc_model.specs.declared.schedule.Slot.{Slot}
use Rattle.qc_model.specs.Instance.{InstanceView}
use Rattle.qc_model.specs.Rules.{ends}
use Rattle.qc_run.specs.declared.refusal.Refusal.{Refusal}
use Rattle.qc_run.specs.declared.refusal.Refusal.TheVariants as refusal
use Rattle.qc_run.specs.Due.{order_due}
use Rattle.qc_search.specs.declared.done.Kind.{Kind}
use Rattle.qc_search.specs.declared.done.Kind.TheVariants as kind
use Rattle.qc_search.specs.Run.{DoneView}
use Rattle.qc_ship.specs.Ship.{ShipView}
use Rattle.qc_ship.specs.ShipFile.{ship_of}
use Rattle.qc_stow.specs.declared.row.Row.{Row}
use Rattle.qc_stow.specs.Stow.{moves_in}
use Rattle.qc_tree.specs.Trees.{Tree}
use Rattle.qc_trial.specs.declared.made.Made.{Made}
use Rattle.qc_trial.specs.declared.made.Verdict.{Verdict}
use Rattle.qc_trial.specs.declared.made.Verdict.TheVariants as verdict
use Rattle.qc_search.specs.Outcome.{IsFound}

-- the ship of the made ship file, and the moves of the made list for it, or the first fault
abbrev pub ship_due : (hatches cranes : ℕ) → Result ShipView Refusal
ship_due hatches cranes = with_fault refusal.BadShip (ship_of (ship_table hatches cranes))

abbrev pub moves_due : (number hatches : ℕ) → ShipView → Result (List Row) Refusal
moves_due number hatches ship = with_fault refusal.BadStow (moves_in ship (list_text number hatches))

-- how many moves there are, and their instance, or the first fault of what is made: the ship file comes first
abbrev pub made_due : (number hatches cranes : ℕ) → Result (ℕ × InstanceView) Refusal
made_due number hatches cranes = do
  ship ← ship_due hatches cranes
  rows ← moves_due number hatches ship
  inst ← order_due ship rows
  Ok (length rows, inst)

-- it is searched with at most so many branchings
abbrev pub made_branchings : ℕ
made_branchings = 500

-- what a check says of a search: of its best schedule and its tree, or of its tree alone where it knows no schedule
abbrev pub verdict_of : Kind → Option (List Slot) → Verdict
verdict_of kind.Infeasible None = verdict.Infeasible
verdict_of k None = verdict.Bound
verdict_of kind.Optimal (Some sched) = verdict.Optimal
verdict_of k (Some sched) = verdict.Weaker

-- what is told of a search of the instance that was read of what is made: how much was made, how the search came out,
-- the end of its best schedule, its bound, and what a check of both says
pub record TellsMade (number hatches cranes : ℕ) (read : ℕ × InstanceView) (done : DoneView) (told : Made) : Type 0 where
  pub number_told : told.number ≡ number
  pub hatches_told : told.hatches ≡ hatches
  pub cranes_told : told.cranes ≡ cranes
  pub rows : told.rows ≡ read.0
  pub tasks : told.tasks ≡ length read.1.tasks
  pub work : told.work ≡ sum_by (λ t. t.ticks) read.1.tasks
  pub kind : told.kind ≡ done.kind
  pub end : told.end ≡ option_map (ends read.1) done.best
  pub bound : told.bound ≡ done.bound
  pub verdict : told.verdict ≡ verdict_of done.kind done.best

-- the instance of what is made was searched, and what came of it is told
pub record IsMade (number hatches cranes : ℕ) (told : Made) : Type 0 where
  pub read : ℕ × InstanceView
  pub due : made_due number hatches cranes ≡ Ok read
  pub tree : Tree
  pub done : DoneView
  pub found : IsFound read.1 made_branchings None tree done
  pub tells : TellsMade number hatches cranes read done told
