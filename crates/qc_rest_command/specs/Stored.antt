-- public: what the files are with those of what is left.
use Rattle.std.specs.Prelude.{◌≡◌, ◌⊎◌, ℕ, All, IsSome, List, None, Option, Result, Ok, OnErr, OnOk, ⊤}
use Rattle.qc_changes.specs.ListText.{list_text}
use Rattle.qc_gantt.specs.Plan.{HasShortEnds, plan_in}
use Rattle.qc_gantt.specs.PlanText.{plan_text}
use Rattle.qc_io.specs.declared.writing.WriteFault.{WriteFault}
use Rattle.qc_io.specs.Outside.{Files, View, with_file}
use Rattle.qc_io.specs.Writes.{Counts}
use Rattle.qc_rest_files.specs.LeftRows.{left_rows}
use Rattle.qc_run.specs.Inputs.{Replanning}
use Rattle.qc_ship.specs.Ship.{ShipView, place_of_bay}
use Rattle.qc_stow.specs.declared.row.Row.{Row}
use Rattle.qc_stow.specs.Stow.{moves_in}
use Rattle.qc_rest_command.specs.declared.answer.Renewed.{Renewed}

-- the texts of the three files
pub record NewTexts : Type 0 where
  pub ship : List ℕ
  pub list : List ℕ
  pub order : List ℕ

-- the moves of what is left
abbrev pub new_rows : Renewed → List Row
new_rows told = left_rows told.rest.instance.tasks told.worked.load.cargo.moves

-- the text of these is read as them, for any ship with a hatch for each move
abbrev pub IsListReread : Renewed → Type 0
IsListReread told =
    (ship : ShipView) → All (λ row. IsSome (place_of_bay ship row.cell.bay)) told.worked.load.cargo.moves
    → moves_in ship (list_text (new_rows told)) ≡ Ok (new_rows told)

-- the text of the old order is read as it, where its ends have few digits
abbrev pub IsOrderReread : Renewed → Type 0
IsOrderReread told =
    HasShortEnds told.rest.instance told.rest.order
    → plan_in told.rest.instance (plan_text told.rest.instance told.rest.order) ≡ Ok told.rest.order

-- the list has these, and the plan the old order; the ship file has this text
abbrev pub texts_of : Renewed → List ℕ → NewTexts
texts_of told text = record {
  ship = text;
  list = list_text (new_rows told);
  order = plan_text told.rest.instance told.rest.order;
}

-- the files with the new ship file, with the new list besides, and with all three
abbrev pub with_ship : Replanning → NewTexts → Option Files → Option Files
with_ship asked texts files = with_file files asked.new_ship texts.ship

abbrev pub with_list : Replanning → NewTexts → Option Files → Option Files
with_list asked texts files = with_file (with_ship asked texts files) asked.new_stow texts.list

abbrev pub with_all : Replanning → NewTexts → Option Files → Option Files
with_all asked texts files = with_file (with_list asked texts files) asked.own texts.order

-- all files are as they were, or the first one, two or three of the new ones are whole besides
abbrev pub IsLeft : Replanning → NewTexts → Option Files → Option Files → Type 0
IsLeft asked texts files now =
    (now ≡ files) ⊎ (now ≡ with_ship asked texts files) ⊎ (now ≡ with_list asked texts files) ⊎ (now ≡ with_all asked texts files)

-- a call that makes a file with a text: the file is whole, or all files are as they were or so
pub record Makes (name text : List ℕ) (before after : View) (result : Result ⊤ WriteFault) : Type 0 where
  pub ok : OnOk result (after.files ≡ with_file before.files name text)
  pub err : OnErr result ((after.files ≡ before.files) ⊎ (after.files ≡ with_file before.files name text))
  pub unmade : OnOk result (after.made ≡ None)
  pub counts : Counts before.faults after.faults result
  pub read_faults : after.read_faults ≡ before.read_faults

-- a call that makes all three, one after the other
pub record MakesAll (asked : Replanning) (texts : NewTexts) (before after : View) (result : Result ⊤ WriteFault) : Type 0 where
  pub ok : OnOk result (after.files ≡ with_all asked texts before.files)
  pub err : OnErr result (IsLeft asked texts before.files after.files)
  pub unmade : OnOk result (after.made ≡ None)
  pub counts : Counts before.faults after.faults result
  pub read_faults : after.read_faults ≡ before.read_faults
