-- public: the texts of what is wrong with a record.
use Rattle.std.specs.Prelude.{ℕ, List, codes}
use Rattle.qc_ship.specs.Cells.{fault_text}
use Rattle.qc_stow.specs.declared.fault.StowKind.{StowKind}
use Rattle.qc_stow.specs.declared.fault.StowKind.TheVariants as kind

-- the text of what is wrong; at a cell that of the cell's fault
abbrev pub kind_text : StowKind → List ℕ
kind_text kind.Header = codes "Header"
kind_text kind.TooMany = codes "TooMany"
kind_text kind.Fields = codes "Fields"
kind_text kind.Id = codes "Id"
kind_text kind.MoveKind = codes "MoveKind"
kind_text (kind.Cell fault) = fault_text fault
kind_text kind.LengthMismatch = codes "LengthMismatch"
kind_text kind.NoHatch = codes "NoHatch"
kind_text kind.IdTwice = codes "IdTwice"
kind_text kind.CellTaken = codes "CellTaken"
