-- public: what a command says that only reads: of its files, of the shelf, and of its report.
use Rattle.std.specs.Prelude.{◌≡◌, ◌≤◌, ℕ, List, Option, Result, Ok, IfOk, IfErr}
use Rattle.qc_io.specs.Outside.{Files, View}
use Rattle.qc_run.specs.declared.refusal.Refusal.{Refusal}
use Rattle.qc_run.specs.declared.refusal.Stop.{Stop}
use Rattle.qc_run.specs.declared.status.Status.{Status}
use Rattle.qc_run.specs.Due.{Contents}
use Rattle.qc_run.specs.Inputs.{Names}
use Rattle.qc_run.specs.Reports.{IsRun, Printing, Prints, PrintsPart}
use Rattle.qc_run.specs.Steps.{ComesTo, MayStop, Stops}

-- what is printed for an answer, what of it where the sink fails on the way, and the status
pub record Reporting (A : Type 0) : Type 1 where
  pub whole : A → Printing
  pub part : A → Printing
  pub status : A → Status

-- the report of an answer is a text
abbrev pub texts : {A : Type 0} → (A → List ℕ) → (A → Status) → Reporting A
texts text status_of =
    record { whole = λ answer. Prints (text answer); part = λ answer. PrintsPart (text answer); status = status_of }

-- a command that only reads: what is due of its files, what its answer tells of that, and how the answer is reported
pub record Reader (X A : Type 0) : Type 1 where
  pub due : Contents → Result X Refusal
  pub tells : X → A → Type 0
  pub report : Reporting A

-- where the shelf tells its files they come to what is read, of which the answer tells
pub record IsFound {X A : Type 0} (step : Contents → Result X Refusal) (tell : X → A → Type 0) (names : Names)
    (files : Option Files) (answer : A) : Type 0 where
  pub read : X
  pub due : ComesTo step names files (Ok read)
  pub tells : tell read answer

-- a command that only reads came to an answer, or it stopped; it left the files, and began none
pub record IsReading {A : Type 0} (found : A → Type 0) (stops : Stop → Type 0) (names : Names) (before after : View)
    (result : Result A Stop) : Type 0 where
  pub ok : IfOk result (λ answer. (after.read_faults ≡ before.read_faults) × found answer)
  pub err : IfErr result stops
  pub may : IfErr result (MayStop names)
  pub files : after.files ≡ before.files
  pub made : after.made ≡ before.made
  pub faults : after.faults ≡ before.faults
  pub read_faults : before.read_faults ≤ after.read_faults

-- its account: the answer tells of what is due of the files, and it stops where that is due
abbrev pub Account : {X A : Type 0} → Reader X A → Names → View → View → Result A Stop → Type 0
Account reader names before after =
    IsReading (IsFound reader.due reader.tells names before.files) (Stops reader.due names before after)
    names before after

-- a run whose answer has this account, by how answers are reported
abbrev pub IsRunWith : {A : Type 0} → (Result A Stop → Type 0) → Reporting A
    → (out_before out_after : View) → Status → Type 0
IsRunWith account report = IsRun account report.whole report.part report.status

-- a run of the command
abbrev pub IsReaderRun : {X A : Type 0} → Reader X A → Names → (before after out_before out_after : View) → Status
    → Type 0
IsReaderRun reader names before after = IsRunWith (Account reader names before after) reader.report
