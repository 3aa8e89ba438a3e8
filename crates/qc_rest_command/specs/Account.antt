-- public: the account of the files of what is left: what its answer says of the files.
use Rattle.std.specs.Prelude.{◌≡◌, ℕ, false, List, None, Option, Result, Ok, Err}
use Rattle.toml.specs.Text.{IsDocumentText}
use Rattle.qc_dispatch.specs.Following.{journal_of}
use Rattle.qc_io.specs.Outside.{Files, Rose, View}
use Rattle.qc_rest.specs.declared.rest.RestError.{RestError}
use Rattle.qc_rest.specs.Whole.{IsNoRest, IsRestBy}
use Rattle.qc_rest_files.specs.ShipTable.{ship_table}
use Rattle.qc_run.specs.declared.no_rest.NoRest.{NoRest}
use Rattle.qc_run.specs.declared.refusal.Stop.{Stop}
use Rattle.qc_run.specs.declared.status.Status.{Status}
use Rattle.qc_run.specs.Inputs.{Replanning}
use Rattle.qc_run.specs.Reports.{IsRun, Prints, PrintsPart}
use Rattle.qc_run.specs.Steps.{MayStop}
use Rattle.qc_ship.specs.Ship.{IsShip, ShipView}
use Rattle.qc_ship.specs.ShipFile.{ship_file}
use Rattle.qc_rest_command.specs.declared.answer.Renewed.{Renewed}
use Rattle.qc_rest_command.specs.declared.answer.Renewing.{Renewing}
use Rattle.qc_rest_command.specs.declared.answer.Renewing.TheVariants as renewing
use Rattle.qc_rest_command.specs.declared.answer.Worked.{Worked}
use Rattle.qc_rest_command.specs.ReadBack.{AreReadBack, new_ship}
use Rattle.qc_rest_command.specs.Stored.{IsLeft, texts_of, with_all}
use Rattle.qc_rest_command.specs.Texts.{TellsNoRest, renewing_status, renewing_text}
use Rattle.qc_rest_command.specs.Worked.{IsBroken, IsWorked, StopsRest}

-- the text is that of a ship file, by what the ship of what is left is; it is read as that ship
pub record IsNewShip (ship : ShipView) (text : List ℕ) : Type 0 where
  pub document : IsDocumentText false (ship_table ship) text
  pub reads : IsShip ship → ship_file text ≡ Ok ship

-- the plan was followed by the log, and this is what is left, with the text of its ship file
pub record IsReady (asked : Replanning) (files : Option Files) (told : Renewed) (text : List ℕ) : Type 0 where
  pub worked : IsWorked asked.inputs files told.worked
  pub rest : IsRestBy (journal_of told.worked.followed) told.rest
  pub ship : IsNewShip (new_ship told) text

-- the three files were made, each is read back as what it was made of, and it is told
pub record IsRenewed (asked : Replanning) (before after : View) (told : Renewed) : Type 0 where
  pub text : List ℕ
  pub ready : IsReady asked before.files told text
  pub read_back : AreReadBack told (texts_of told text)
  pub stored : after.files ≡ with_all asked (texts_of told text) before.files
  pub made : after.made ≡ None
  pub faults : after.faults ≡ before.faults

-- their writing was stopped: the first of them are whole, and all other files as they were
pub record IsStopped (asked : Replanning) (before after : View) : Type 0 where
  pub told : Renewed
  pub text : List ℕ
  pub ready : IsReady asked before.files told text
  pub left : IsLeft asked (texts_of told text) before.files after.files
  pub rose : Rose before.faults after.faults

-- no file was begun
pub record IsUntouched (before after : View) : Type 0 where
  pub files : after.files ≡ before.files
  pub made : after.made ≡ before.made
  pub faults : after.faults ≡ before.faults

-- what is left can't be planned, and it is told why
pub record IsNoRestTold (asked : Replanning) (files : Option Files) (told : NoRest) : Type 0 where
  pub worked : Worked
  pub is : IsWorked asked.inputs files worked
  pub error : RestError
  pub none : IsNoRest (journal_of worked.followed) error
  pub tells : TellsNoRest worked.followed.dispatch.inst error told

-- what an answer says of the files
abbrev pub Writes : Replanning → View → View → Renewing → Type 0
Writes asked before after renewing.WriteFault = IsStopped asked before after
Writes asked before after (renewing.Broken told) = IsBroken asked.inputs before.files told × IsUntouched before after
Writes asked before after (renewing.NoRest told) = IsNoRestTold asked before.files told × IsUntouched before after
Writes asked before after (renewing.Renewed told) = IsRenewed asked before after told

-- what the command says of its answer and of the shelf; where it stopped, no file was begun
abbrev pub IsRenewing : Replanning → View → View → Result Renewing Stop → Type 0
IsRenewing asked before after (Ok a) = Writes asked before after a × (after.read_faults ≡ before.read_faults)
IsRenewing asked before after (Err why) =
    StopsRest asked.inputs before after why × MayStop asked.inputs why × IsUntouched before after

-- a run of the command: it writes what is left, and reports
abbrev pub IsRestRun : Replanning → (before after out_before out_after : View) → Status → Type 0
IsRestRun asked before after out_before out_after ended =
    IsRun (IsRenewing asked before after) (λ a. Prints (renewing_text a)) (λ a. PrintsPart (renewing_text a))
    renewing_status out_before out_after ended
