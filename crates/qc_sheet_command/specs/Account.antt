-- public: the account of the command that prints a work sheet: what its answer tells of the plan.
use Rattle.std.specs.Prelude.{◌≡◌}
use Rattle.qc_run.specs.Account.{Reader, texts}
use Rattle.qc_run.specs.Broken.{TellsRule}
use Rattle.qc_sheet_command.specs.declared.load.Load.{Load}
use Rattle.qc_sheet_command.specs.declared.answer.Listed.{Listed}
use Rattle.qc_sheet_command.specs.declared.answer.Listing.{Listing}
use Rattle.qc_sheet_command.specs.declared.answer.Listing.TheVariants as listing
use Rattle.qc_sheet_command.specs.Due.{load_due}
use Rattle.qc_sheet_command.specs.Listed.{TellsSheet, listing_status, listing_text}

-- the schedule of the plan is feasible, and its work sheet is told
pub record IsListed (load : Load) (told : Listed) : Type 0 where
  pub load_told : told.load ≡ load
  pub tells : TellsSheet told

abbrev pub TellsListing : Load → Listing → Type 0
TellsListing load (listing.Broken told) = TellsRule load.cargo.inst load.sched told
TellsListing load (listing.Listed told) = IsListed load told

abbrev pub sheet_reader : Reader Load Listing
sheet_reader = record { due = load_due; tells = TellsListing; report = texts listing_text listing_status }
