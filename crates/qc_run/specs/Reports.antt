-- public: how a run ends whose report goes to a sink: whole, or cut where the sink failed.
use Rattle.std.specs.Prelude.{◌≡◌, ℕ, ◌≤◌, ◌⊎◌, List, Option, Result, Ok, Err}
use Rattle.std.specs.Io.KnownBytes.{append_known}
use Rattle.qc_io.specs.Outside.{GrewByPart, Rose, View, beside}
use Rattle.qc_run.specs.declared.refusal.Stop.{Stop}
use Rattle.qc_run.specs.declared.status.Status.{Status}
use Rattle.qc_run.specs.declared.status.Status.TheVariants as status
use Rattle.qc_run.specs.Texts.{stop_status, stop_text}

-- what a sink holds before and after a report; untold where it doesn't tell its bytes
abbrev pub Printing : Type 1
Printing = Option (List ℕ) → Option (List ℕ) → Type 0

-- the text went out whole
abbrev pub Prints : List ℕ → Printing
Prints text before after = after ≡ append_known before text

-- a front part of the text went out
abbrev pub PrintsPart : List ℕ → Printing
PrintsPart text before after = GrewByPart before after text

-- the report went out whole, and the run ends with its status
pub record IsReported (whole : Printing) (wanted : Status) (before after : View) (ended : Status) : Type 0 where
  pub printed : whole before.written after.written
  pub faults : after.faults ≡ before.faults
  pub status : ended ≡ wanted

-- the sink failed on the way, so that a front part of the report went out
pub record IsCut (part : Printing) (before after : View) (ended : Status) : Type 0 where
  pub printed : part before.written after.written
  pub rose : Rose before.faults after.faults
  pub status : ended ≡ status.WriteFault

-- what a call says that reports
pub record Reports (whole part : Printing) (wanted : Status) (before after : View) (ended : Status) : Type 0 where
  pub ending : IsReported whole wanted before after ended ⊎ IsCut part before after ended
  pub beside_stays : beside after ≡ beside before
  pub never_falls : before.faults ≤ after.faults

-- what is printed for an answer of a command, or for why it stopped
abbrev pub answer_prints : {A : Type 0} → (List ℕ → Printing) → (A → Printing) → Result A Stop → Printing
answer_prints text own (Ok answer) = own answer
answer_prints text own (Err why) = text (stop_text why)

abbrev pub answer_status : {A : Type 0} → (A → Status) → Result A Stop → Status
answer_status own (Ok answer) = own answer
answer_status own (Err why) = stop_status why

-- a command came to an answer, of which this account holds, and reported it
pub record IsRun {A : Type 0} (account : Result A Stop → Type 0) (whole part : A → Printing) (status_of : A → Status)
    (before after : View) (ended : Status) : Type 0 where
  pub answer : Result A Stop
  pub serves : account answer
  pub reports :
      Reports (answer_prints Prints whole answer) (answer_prints PrintsPart part answer)
      (answer_status status_of answer) before after ended
