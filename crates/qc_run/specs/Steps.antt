-- public: what a step says that reads files. It comes to what is due of them, or it stops.
use Rattle.std.specs.Prelude.{◌≡◌, ◌≤◌, ◌⊎◌, Option, Result, Ok, Err, IfOk, IfErr, IfSome, IsSome, IsSomeAnd}
use Rattle.qc_io.specs.Outside.{Files, View, ReadCause}
use Rattle.qc_run.specs.declared.inputs.Input.{Input}
use Rattle.qc_run.specs.declared.refusal.Refusal.{Refusal}
use Rattle.qc_run.specs.declared.refusal.Refusal.TheVariants as refusal
use Rattle.qc_run.specs.declared.refusal.Stop.{Stop}
use Rattle.qc_run.specs.declared.refusal.Stop.TheVariants as stop
use Rattle.qc_run.specs.Due.{Contents, contents_in, without}
use Rattle.qc_run.specs.Inputs.{IsWhole, Names, input_of, name_of}

-- where the shelf tells its files, the step comes to this on them
abbrev pub ComesTo :
    {A : Type 0} → (Contents → Result A Refusal) → Names → Option Files → Result A Refusal → Type 0
ComesTo step names files outcome = IfSome files (λ held. step (contents_in held names) ≡ outcome)

-- the file couldn't be read: its name is missing or a call that reads failed; and each file before it is good
pub record IsUnread {A : Type 0} (step : Contents → Result A Refusal) (names : Names) (before after : View)
    (file : Input) : Type 0 where
  pub cause : IsSomeAnd (name_of file names) (ReadCause before after)
  pub turn :
      IfSome before.files (λ held. step (without file (contents_in held names)) ≡ Err (refusal.ReadFault file))

-- a refusal comes where it is due, and no call failed; that a file couldn't be read has its own cause
abbrev pub IsRefused :
    {A : Type 0} → (Contents → Result A Refusal) → Names → View → View → Refusal → Type 0
IsRefused step names before after refusal.Usage = ⊥
IsRefused step names before after (refusal.ReadFault file) = IsUnread step names before after file
IsRefused step names before after why =
    (after.read_faults ≡ before.read_faults) × ComesTo step names before.files (Err why)

-- the step stopped for a refusal or for want of memory, which is free
abbrev pub Stops :
    {A : Type 0} → (Contents → Result A Refusal) → Names → View → View → Stop → Type 0
Stops step names before after (stop.Refused why) = IsRefused step names before after why
Stops step names before after stop.OutOfMemory = after.read_faults ≡ before.read_faults

-- what comes of values that were read is what is due, or memory was wanting
abbrev pub IsDue : {A : Type 0} → Result A Refusal → Result A Stop → Type 0
IsDue due (Ok value) = due ≡ Ok value
IsDue due (Err (stop.Refused why)) = due ≡ Err why
IsDue due (Err stop.OutOfMemory) = Unit {0}

-- a refusal of a file comes only of one that the command reads, and TooLarge of one that it reads whole
abbrev pub MayRefuse : Names → Refusal → Type 0
MayRefuse names refusal.Usage = ⊥
MayRefuse names (refusal.ReadFault file) = IsSome (name_of file names)
MayRefuse names (refusal.TooLarge file) = IsWhole file names
MayRefuse names (refusal.BadShip fault) = IsSome names.ship
MayRefuse names (refusal.BadStow fault) = IsSome names.stow
MayRefuse names (refusal.BadPlan fault) = IsSome names.plan ⊎ IsSome names.own
MayRefuse names (refusal.BadTree fault) = IsSome names.tree
MayRefuse names (refusal.BadLog fault) = IsSome names.log
MayRefuse names (refusal.BadBayPlan which fault) = IsSome (name_of (input_of which) names)
MayRefuse names (refusal.BadPast fault) = IsSome names.past

-- want of memory comes of any command
abbrev pub MayStop : Names → Stop → Type 0
MayStop names (stop.Refused why) = MayRefuse names why
MayStop names stop.OutOfMemory = Unit {0}

-- a step that reads came to what is due of it; it left the files, and began none
pub record IsStep {A : Type 0} (step : Contents → Result A Refusal) (names : Names) (before after : View)
    (result : Result A Stop) : Type 0 where
  pub ok :
      IfOk result (λ x. (after.read_faults ≡ before.read_faults) × ComesTo step names before.files (Ok x))
  pub err : IfErr result (Stops step names before after)
  pub may : IfErr result (MayStop names)
  pub files : after.files ≡ before.files
  pub made : after.made ≡ before.made
  pub faults : after.faults ≡ before.faults
  pub read_faults : before.read_faults ≤ after.read_faults
