use Rattle.std.proofs.Common.{◌≡◌, ◌∙◌, refl}
use Rattle.qc_ship.specs.declared.fault.ShipKind.{ShipKind}
use Rattle.qc_ship.specs.declared.fault.ShipKind.TheVariants as ship
use Rattle.qc_ship.specs.declared.fault.ShipFault.{ShipFault}
use Rattle.qc_run.specs.Texts.{place_line, bad_ship_text}
use Rattle.qc_run.proofs.faults.ship_fault_line.Goals as goal

-- a fault of a text that is TOML has a place
has_place : (kind : ShipKind) (fault : ShipFault) → (kind ≡ ship.NotToml → ⊥) → place_line kind fault ≡ bad_ship_text kind fault
has_place ship.NotToml fault other = absurd (other refl)
has_place ship.Missing fault other = refl
has_place ship.WrongKind fault other = refl
has_place ship.Range fault other = refl
has_place ship.HatchOrder fault other = refl
has_place ship.CraneOrder fault other = refl
has_place ship.NameTwice fault other = refl
has_place ship.Apart fault other = refl
has_place ship.Task fault other = refl
has_place ship.Same fault other = refl
has_place ship.TaskTwice fault other = refl
has_place ship.Ring fault other = refl

pub returns-in_default : goal.returns-in_default
returns-in_default c =
    c.place_line.ensures ∙ has_place c.args.fault.kind c.args.fault c.in_default.not-NotToml
