-- public: what the new files are read as.
use Rattle.std.specs.Prelude.{◌≡◌, Ok}
use Rattle.qc_gantt.specs.Plan.{plan_in}
use Rattle.qc_rest_files.specs.RestShip.{rest_ship}
use Rattle.qc_run.specs.Due.{order_due}
use Rattle.qc_ship.specs.Ship.{IsShip, ShipView}
use Rattle.qc_ship.specs.ShipFile.{ship_file}
use Rattle.qc_stow.specs.Stow.{moves_in}
use Rattle.qc_rest_command.specs.declared.answer.Renewed.{Renewed}
use Rattle.qc_rest_command.specs.Stored.{NewTexts, new_rows}

-- the ship of what is left
abbrev pub new_ship : Renewed → ShipView
new_ship told = rest_ship told.worked.load.cargo.ship told.rest.instance

-- the texts are read as the ship of what is left, which keeps the limits of ships, and as its moves; both come to the
-- instance of what is left, without a ring; and for that the last text is read as the old order
pub record AreReadBack (told : Renewed) (texts : NewTexts) : Type 0 where
  pub limits : IsShip (new_ship told)
  pub ship : ship_file texts.ship ≡ Ok (new_ship told)
  pub list : moves_in (new_ship told) texts.list ≡ Ok (new_rows told)
  pub instance : order_due (new_ship told) (new_rows told) ≡ Ok told.rest.instance
  pub order : plan_in told.rest.instance texts.order ≡ Ok told.rest.order
