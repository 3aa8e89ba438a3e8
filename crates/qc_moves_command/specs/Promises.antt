-- public: what follows from the account of a list of moves, said by itself for whoever reads one status.
use Rattle.std.specs.Prelude.{◌≡◌, ◌≢◌, ◌⊎◌, Ok, codes, IfSome}
use Rattle.qc_io.specs.Outside.{View}
use Rattle.qc_run.specs.declared.bay_plans.BayPlans.{BayPlans}
use Rattle.qc_run.specs.declared.status.Status.{Status}
use Rattle.qc_run.specs.declared.status.Status.TheVariants as status
use Rattle.qc_run.specs.Due.{bay_plans_due, contents_in}
use Rattle.qc_run.specs.Inputs.{Moving, bay_plans_named}
use Rattle.qc_run.specs.Reports.{Prints, PrintsPart}
use Rattle.qc_run.specs.Told.{EndsBy, IsCutTold, IsRefusal, IsRefusalTold, NoneFailed}
use Rattle.qc_moves_command.specs.declared.answer.Figures.{Figures}
use Rattle.qc_moves_command.specs.declared.answer.MovesAnswer.TheVariants as answer
use Rattle.qc_moves_command.specs.Account.{AreFound, IsListed, IsListing, IsStopped, IsStored}
use Rattle.qc_moves_command.specs.Figures.{figures_text, moves_text}

-- the list of the moves between the two plans is stored, and its figures are told
pub record IsDoneTold (asked : Moving) (before after out_before out_after : View) : Type 0 where
  pub told : Figures
  pub listed : IsListed asked before after told
  pub report : Prints (figures_text told) out_before.written out_after.written

-- the shelf failed while the list was written, and the sink got the line of that
pub record IsStopTold (asked : Moving) (before after out_before out_after : View) : Type 0 where
  pub stopped : IsStopped asked before after
  pub faults : out_after.faults ≡ out_before.faults
  pub report : Prints (codes "WriteFault\n") out_before.written out_after.written

-- the files are as they were, or hold the list besides
abbrev pub IsLeft : Moving → View → View → Type 0
IsLeft asked before after =
    (after.files ≡ before.files) ⊎ ((found : AreFound asked before) × IsStored asked before after found)

pub record MovesPromises (asked : Moving) (before after out_before out_after : View) (ended : Status) : Type 0 where
  -- Done
  pub done : ended ≡ status.Done → IsDoneTold asked before after out_before out_after
  -- the files stay where no list was written nor stopped, and in any case each is whole or as it was
  pub leaves : ended ≢ status.Done → ended ≢ status.WriteFault → after.files ≡ before.files
  pub left : IsLeft asked before after
  -- what the sink gets where it ends with WriteFault
  pub write_fault : ended ≡ status.WriteFault
      → IsCutTold (IsListing asked before after) (λ a. PrintsPart (moves_text a)) out_before out_after
      ⊎ IsStopTold asked before after out_before out_after
  -- each refusal, and want of memory
  pub refused : IsRefusal ended → IsRefusalTold (IsListing asked before after) out_before out_after ended
  pub no_usage : ended ≢ status.Usage
  pub out_of_memory : ended ≡ status.OutOfMemory → Prints (codes "OutOfMemory\n") out_before.written out_after.written
  -- what is due of the files comes where no call failed, or want of memory does
  pub complete : NoneFailed before after out_before out_after → IfSome before.files (λ held.
      EndsBy (λ plans s. s ≡ status.Done) (bay_plans_due (contents_in held (bay_plans_named asked))) ended
      ⊎ (ended ≡ status.OutOfMemory))
