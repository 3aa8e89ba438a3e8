-- public: what follows from a run's status, whatever its command is.
use Rattle.std.specs.Prelude.{◌≡◌, ◌≢◌, ◌⊎◌, ◌≤◌, List, codes, Result, Ok, Err, IfSome}
use Rattle.qc_io.specs.Outside.{Files, Rose, View}
use Rattle.qc_model.specs.declared.schedule.Slot.{Slot}
use Rattle.qc_model.specs.Instance.{InstanceView}
use Rattle.qc_model.specs.OneWay.{IsAllowed}
use Rattle.qc_model.specs.Rules.{ends}
use Rattle.qc_run.specs.declared.refusal.Refusal.{Refusal}
use Rattle.qc_run.specs.declared.refusal.Stop.{Stop}
use Rattle.qc_run.specs.declared.refusal.Stop.TheVariants as stop
use Rattle.qc_run.specs.declared.status.Status.{Status}
use Rattle.qc_run.specs.declared.status.Status.TheVariants as status
use Rattle.qc_run.specs.Account.{Account, Reader}
use Rattle.qc_run.specs.Due.{Contents, contents_in}
use Rattle.qc_run.specs.Inputs.{Names}
use Rattle.qc_run.specs.Reports.{Printing, Prints, PrintsPart, answer_prints}
use Rattle.qc_run.specs.Texts.{refusal_status, refusal_text}

-- cranes may follow the schedule, and no schedule that they may follow ends earlier: of those that go one way, or of all
-- feasible ones, as the instance's turn says
pub record IsBest (inst : InstanceView) (sched : List Slot) : Type 0 where
  pub goes : IsAllowed inst sched
  pub least : (other : List Slot) → IsAllowed inst other → ends inst sched ≤ ends inst other

-- the status is that of a refusal
abbrev pub IsRefusal : Status → Type 0
IsRefusal status.Usage = Unit {0}
IsRefusal status.ReadFault = Unit {0}
IsRefusal status.TooLarge = Unit {0}
IsRefusal status.BadShip = Unit {0}
IsRefusal status.BadStow = Unit {0}
IsRefusal status.BadPlan = Unit {0}
IsRefusal status.BadTree = Unit {0}
IsRefusal status.BadLog = Unit {0}
IsRefusal status.BadBayPlan = Unit {0}
IsRefusal status.BadPast = Unit {0}
IsRefusal _ = ⊥

-- a refusal with this status was printed, and the account of the command says why it came
pub record IsRefusalTold {A : Type 0} (account : Result A Stop → Type 0) (before after : View) (ended : Status)
    : Type 0 where
  pub why : Refusal
  pub status : ended ≡ refusal_status why
  pub cause : account (Err (stop.Refused why))
  pub report : Prints (refusal_text why) before.written after.written

-- the sink failed itself, so that it got a front part of the report of the answer
pub record IsCutTold {A : Type 0} (account : Result A Stop → Type 0) (part : A → Printing) (before after : View)
    : Type 0 where
  pub rose : Rose before.faults after.faults
  pub answer : Result A Stop
  pub serves : account answer
  pub report : answer_prints PrintsPart part answer before.written after.written

-- each command that only reads: refusals, want of memory, and the files stay
pub record ReadPromises {A : Type 0} (account : Result A Stop → Type 0) (part : A → Printing)
    (before after out_before out_after : View) (ended : Status) : Type 0 where
  pub refused : IsRefusal ended → IsRefusalTold account out_before out_after ended
  pub no_usage : ended ≢ status.Usage
  pub out_of_memory : ended ≡ status.OutOfMemory
      → Prints (codes "OutOfMemory\n") out_before.written out_after.written
  pub files_stay : after.files ≡ before.files
  pub write_fault : ended ≡ status.WriteFault → IsCutTold account part out_before out_after

-- a command that says no more of the shelf than its account
abbrev pub ReaderPromises : {X A : Type 0} → Reader X A → Names → (before after out_before out_after : View) → Status
    → Type 0
ReaderPromises reader names before after =
    ReadPromises (Account reader names before after) reader.report.part before after

-- the files come to what is read, something is told of that, and it was printed
pub record IsTold {X A : Type 0} (step : Contents → Result X Refusal) (tell : X → A → Type 0) (print : A → Printing)
    (names : Names) (held : Files) (before after : View) : Type 0 where
  pub read : X
  pub due : step (contents_in held names) ≡ Ok read
  pub told : A
  pub tells : tell read told
  pub report : print told before.written after.written

-- a file has a fault, for which the refusal is due, and it was printed
pub record IsFaultTold {X F : Type 0} (step : Contents → Result X Refusal) (refuse : F → Refusal) (names : Names)
    (held : Files) (before after : View) : Type 0 where
  pub fault : F
  pub due : step (contents_in held names) ≡ Err (refuse fault)
  pub report : Prints (refusal_text (refuse fault)) before.written after.written

-- no call on the shelf or on the sink failed
pub record NoneFailed (before after out_before out_after : View) : Type 0 where
  pub writing : ¬ Rose before.faults after.faults
  pub reading : ¬ Rose before.read_faults after.read_faults
  pub printing : ¬ Rose out_before.faults out_after.faults

-- the status, or that the sink failed
abbrev pub EndsWith : Status → View → View → Status → Type 0
EndsWith wanted before after ended =
    (ended ≡ wanted) ⊎ ((ended ≡ status.WriteFault) × Rose before.faults after.faults)

-- what is due of the files ends so where nothing fails: a refusal with its status, and all else as the command says
abbrev pub EndsBy : {A : Type 0} → (A → Status → Type 0) → Result A Refusal → Status → Type 0
EndsBy own (Ok x) ended = own x ended
EndsBy own (Err why) ended = ended ≡ refusal_status why

-- where no call failed the run ends as is due of the files, or memory was wanting
abbrev pub EndsAsDue : (Contents → Status → Type 0) → Names → (before after out_before out_after : View) → Status
    → Type 0
EndsAsDue ends names before after out_before out_after ended =
    NoneFailed before after out_before out_after → IfSome before.files (λ held.
    ends (contents_in held names) ended ⊎ (ended ≡ status.OutOfMemory))
