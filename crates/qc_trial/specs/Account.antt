-- public: the account of a trial, and what follows from it.
use Rattle.std.specs.Prelude.{◌≡◌, ◌⊎◌, ◌≢◌, ℕ, Result, Ok, Err, codes}
use Rattle.qc_io.specs.Outside.{View}
use Rattle.qc_run.specs.declared.refusal.Stop.{Stop}
use Rattle.qc_run.specs.declared.status.Status.{Status}
use Rattle.qc_run.specs.declared.status.Status.TheVariants as status
use Rattle.qc_run.specs.Reports.{IsRun, Prints, PrintsPart}
use Rattle.qc_run.specs.Told.{EndsWith, IsCutTold, IsRefusal, IsRefusalTold}
use Rattle.qc_trial.specs.declared.made.Made.{Made}
use Rattle.qc_run.specs.Steps.{IsDue}
use Rattle.qc_trial.specs.Made.{IsMade, made_due}
use Rattle.qc_trial.specs.Texts.{made_text}

-- what comes of a ship and a list that are made: they are searched, or they have a fault, or memory is wanting
abbrev pub IsMaking : (number hatches cranes : ℕ) → Result Made Stop → Type 0
IsMaking n h c (Ok told) = IsMade n h c told
IsMaking n h c (Err why) = IsDue (made_due n h c) (Err why)

-- a run of the command; it reads and writes no file
abbrev pub IsTrialRun : (number hatches cranes : ℕ) → (out_before out_after : View) → Status → Type 0
IsTrialRun n h c out_before out_after ended =
    IsRun (IsMaking n h c) (λ told. Prints (made_text told)) (λ told. PrintsPart (made_text told)) (λ told. status.Done)
    out_before out_after ended

-- the made instance was searched, and the summary of that was printed
pub record IsMakingTold (number hatches cranes : ℕ) (before after : View) : Type 0 where
  pub told : Made
  pub made : IsMade number hatches cranes told
  pub report : Prints (made_text told) before.written after.written

pub record TrialPromises (number hatches cranes : ℕ) (out_before out_after : View) (ended : Status) : Type 0 where
  pub make_done : ended ≡ status.Done → IsMakingTold number hatches cranes out_before out_after
  -- where the sink doesn't fail it comes, or want of memory does, or what is made has a fault, and that was printed
  pub make_complete : EndsWith status.Done out_before out_after ended ⊎ ((ended ≡ status.OutOfMemory) ⊎ IsRefusal ended)
  pub refused : IsRefusal ended → IsRefusalTold (IsMaking number hatches cranes) out_before out_after ended
  pub no_usage : ended ≢ status.Usage
  pub out_of_memory : ended ≡ status.OutOfMemory
      → Prints (codes "OutOfMemory\n") out_before.written out_after.written
  pub write_fault : ended ≡ status.WriteFault
      → IsCutTold (IsMaking number hatches cranes) (λ told. PrintsPart (made_text told)) out_before out_after
