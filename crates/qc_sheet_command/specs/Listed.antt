-- public: what is told of a plan whose work sheet is asked for, and what is printed.
use Rattle.std.specs.Prelude.{◌≡◌, ℕ, List, All, IsSome}
use Rattle.qc_model.specs.Judge.{IsJudgeable}
use Rattle.qc_model.specs.Rules.{Feasible}
use Rattle.qc_ship.specs.Ship.{IsShip, place_of_bay}
use Rattle.qc_stow.specs.Moves.{AreMoves}
use Rattle.qc_tasks.specs.InstanceOf.{instance_of}
use Rattle.qc_sheet.specs.Kept.{IsWorkable}
use Rattle.qc_sheet.specs.Order.{AreOrders}
use Rattle.qc_sheet.specs.SheetText.{WorkView, sheet_text}
use Rattle.qc_run.specs.Broken.{broken_text}
use Rattle.qc_run.specs.declared.status.Status.{Status}
use Rattle.qc_run.specs.declared.status.Status.TheVariants as status
use Rattle.qc_sheet_command.specs.declared.load.Cargo.{Cargo}
use Rattle.qc_sheet_command.specs.declared.load.Load.{Load}
use Rattle.qc_sheet_command.specs.declared.answer.Listed.{Listed}
use Rattle.qc_sheet_command.specs.declared.answer.Listing.{Listing}
use Rattle.qc_sheet_command.specs.declared.answer.Listing.TheVariants as listing

-- what is known of a ship and its moves that were read: a hatch takes the bay of each move
pub record IsCargo (cargo : Cargo) : Type 0 where
  pub ship : IsShip cargo.ship
  pub moves : AreMoves cargo.moves
  pub hatches : All (λ row. IsSome (place_of_bay cargo.ship row.cell.bay)) cargo.moves
  pub instance : cargo.inst ≡ instance_of cargo.ship cargo.moves

-- and of a schedule beside them
pub record IsLoad (load : Load) : Type 0 where
  pub cargo : IsCargo load.cargo
  pub judgeable : IsJudgeable load.cargo.inst load.sched

-- what the sheet is written from
abbrev pub work_of : Listed → WorkView
work_of told = record {
  ship = told.load.cargo.ship;
  inst = told.load.cargo.inst;
  rows = told.load.cargo.moves;
  sched = told.load.sched;
  orders = told.sheet;
}

-- the plan is feasible, the sheet gives the order of each task's moves, and the work can be done so
pub record TellsSheet (told : Listed) : Type 0 where
  pub feasible : Feasible told.load.cargo.inst told.load.sched
  pub instance : told.load.cargo.inst ≡ instance_of told.load.cargo.ship told.load.cargo.moves
  pub judgeable : IsJudgeable told.load.cargo.inst told.load.sched
  pub orders : AreOrders told.load.cargo.moves told.load.cargo.inst.tasks told.sheet
  pub workable : IsWorkable (work_of told)

abbrev pub CanBeListed : Listing → Type 0
CanBeListed (listing.Broken told) = Unit {0}
CanBeListed (listing.Listed told) = TellsSheet told

-- what is printed, and the status
abbrev pub listing_text : Listing → List ℕ
listing_text (listing.Broken told) = broken_text told
listing_text (listing.Listed told) = sheet_text (work_of told)

abbrev pub listing_status : Listing → Status
listing_status (listing.Broken told) = status.Broken
listing_status (listing.Listed told) = status.Done
