-- public: what follows from the account of the files of what is left, said by itself for whoever reads one status.
use Rattle.std.specs.Prelude.{◌≡◌, ◌≢◌, ◌⊎◌, ℕ, List, codes}
use Rattle.qc_io.specs.Outside.{View}
use Rattle.qc_run.specs.declared.broken.Broken.{Broken}
use Rattle.qc_run.specs.declared.no_rest.NoRest.{NoRest}
use Rattle.qc_run.specs.declared.status.Status.{Status}
use Rattle.qc_run.specs.declared.status.Status.TheVariants as status
use Rattle.qc_run.specs.Broken.{broken_text}
use Rattle.qc_run.specs.Inputs.{Replanning}
use Rattle.qc_run.specs.NoRest.{no_rest_text}
use Rattle.qc_run.specs.Reports.{Prints, PrintsPart}
use Rattle.qc_run.specs.Told.{EndsAsDue, IsCutTold, IsRefusal, IsRefusalTold}
use Rattle.qc_rest_command.specs.declared.answer.Renewed.{Renewed}
use Rattle.qc_rest_command.specs.Account.{IsNoRestTold, IsReady, IsRenewed, IsRenewing, IsStopped}
use Rattle.qc_rest_command.specs.Ends.{EndsRest}
use Rattle.qc_rest_command.specs.Plans.{PlansTheWhole}
use Rattle.qc_rest_command.specs.ReadBack.{AreReadBack}
use Rattle.qc_rest_command.specs.Stored.{IsLeft, texts_of}
use Rattle.qc_rest_command.specs.Texts.{renewed_text, renewing_text}
use Rattle.qc_rest_command.specs.Worked.{IsBroken}

-- the three files hold what is left and are read back as it, whoever plans that plans the whole, and it is told
pub record IsDoneTold (asked : Replanning) (before after out_before out_after : View) : Type 0 where
  pub told : Renewed
  pub renewed : IsRenewed asked before after told
  pub read_back : AreReadBack told (texts_of told renewed.text)
  pub plans : PlansTheWhole told
  pub report : Prints (renewed_text told) out_before.written out_after.written

-- what is left can't be planned, and it was printed why
pub record IsNonePrinted (asked : Replanning) (before out_before out_after : View) : Type 0 where
  pub told : NoRest
  pub none : IsNoRestTold asked before.files told
  pub report : Prints (no_rest_text told) out_before.written out_after.written

-- the plan isn't feasible, and the first rule that it breaks was printed
pub record IsBrokenPrinted (asked : Replanning) (before out_before out_after : View) : Type 0 where
  pub told : Broken
  pub broken : IsBroken asked.inputs before.files told
  pub report : Prints (broken_text told) out_before.written out_after.written

-- the shelf failed while the files were written, and the sink got the line of that
pub record IsStopTold (asked : Replanning) (before after out_before out_after : View) : Type 0 where
  pub stopped : IsStopped asked before after
  pub faults : out_after.faults ≡ out_before.faults
  pub report : Prints (codes "WriteFault\n") out_before.written out_after.written

-- the files are as they were, or hold the first of the new ones besides
pub record HoldsNew (asked : Replanning) (before after : View) : Type 0 where
  pub told : Renewed
  pub text : List ℕ
  pub ready : IsReady asked before.files told text
  pub left : IsLeft asked (texts_of told text) before.files after.files

abbrev pub IsKept : Replanning → View → View → Type 0
IsKept asked before after = (after.files ≡ before.files) ⊎ HoldsNew asked before after

pub record RestPromises (asked : Replanning) (before after out_before out_after : View) (ended : Status) : Type 0 where
  -- Done, NoRest, Broken
  pub done : ended ≡ status.Done → IsDoneTold asked before after out_before out_after
  pub no_rest : ended ≡ status.NoRest → IsNonePrinted asked before out_before out_after
  pub broken : ended ≡ status.Broken → IsBrokenPrinted asked before out_before out_after
  -- the files stay where none was written nor stopped, and in any case each is whole or as it was
  pub leaves : ended ≢ status.Done → ended ≢ status.WriteFault → after.files ≡ before.files
  pub left : IsKept asked before after
  -- what the sink gets where it ends with WriteFault
  pub write_fault : ended ≡ status.WriteFault
      → IsCutTold (IsRenewing asked before after) (λ a. PrintsPart (renewing_text a)) out_before out_after
      ⊎ IsStopTold asked before after out_before out_after
  -- each refusal, and want of memory
  pub refused : IsRefusal ended → IsRefusalTold (IsRenewing asked before after) out_before out_after ended
  pub no_usage : ended ≢ status.Usage
  pub out_of_memory : ended ≡ status.OutOfMemory → Prints (codes "OutOfMemory\n") out_before.written out_after.written
  -- what is due of the files comes where no call failed, or want of memory does
  pub complete : EndsAsDue EndsRest asked.inputs before after out_before out_after ended
