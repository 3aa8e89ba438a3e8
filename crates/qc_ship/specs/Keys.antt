-- public: the keys of a ship file, and its faults.
use Rattle.std.specs.Prelude.{ℕ, List, codes}
use Rattle.qc_ship.specs.declared.fault.Key.{Key}
use Rattle.qc_ship.specs.declared.fault.Key.TheVariants as key
use Rattle.qc_ship.specs.declared.fault.ShipKind.{ShipKind}
use Rattle.qc_ship.specs.declared.fault.ShipKind.TheVariants as kind
use Rattle.qc_ship.specs.declared.fault.ShipFault.{ShipFault}

-- a key as the file has it; the file itself has none
abbrev pub key_text : Key → List ℕ
key_text key.Whole = codes ""
key_text key.Hatches = codes "hatches"
key_text key.Places = codes "places"
key_text key.Margin = codes "margin"
key_text key.Clear = codes "clear"
key_text key.Travel = codes "travel"
key_text key.DeckMove = codes "deck_move"
key_text key.HoldMove = codes "hold_move"
key_text key.Cover = codes "cover"
key_text key.Restows = codes "restows"
key_text key.Apart = codes "apart"
key_text key.Before = codes "before"
key_text key.NotBefore = codes "not_before"
key_text key.Crane = codes "crane"
key_text key.Name = codes "name"
key_text key.Ready = codes "ready"
key_text key.Bay = codes "bay"
key_text key.From = codes "from"
key_text key.To = codes "to"

-- the text of what is wrong
abbrev pub kind_text : ShipKind → List ℕ
kind_text kind.NotToml = codes "NotToml"
kind_text kind.Missing = codes "Missing"
kind_text kind.WrongKind = codes "WrongKind"
kind_text kind.Range = codes "Range"
kind_text kind.HatchOrder = codes "HatchOrder"
kind_text kind.CraneOrder = codes "CraneOrder"
kind_text kind.NameTwice = codes "NameTwice"
kind_text kind.Apart = codes "Apart"
kind_text kind.Task = codes "Task"
kind_text kind.Same = codes "Same"
kind_text kind.TaskTwice = codes "TaskTwice"
kind_text kind.Ring = codes "Ring"

-- this is wrong with the element of this number at this key; number 0 is the key itself
abbrev pub fault : ShipKind → Key → ℕ → ShipFault
fault kind key number = record { kind = kind; key = key; number = number }
