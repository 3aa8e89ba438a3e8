-- public: the texts of what is wrong with a segment.
use Rattle.std.specs.Prelude.{ℕ, List, codes}
use Rattle.qc_ship.specs.Cells.{fault_text}
use Rattle.qc_bayplan.specs.declared.fault.BayPlanKind.{BayPlanKind}
use Rattle.qc_bayplan.specs.declared.fault.BayPlanKind.TheVariants as kind

-- the text of what is wrong; at a cell that of the cell's fault
abbrev pub kind_text : BayPlanKind → List ℕ
kind_text kind.Una = codes "Una"
kind_text kind.After = codes "After"
kind_text kind.Cut = codes "Cut"
kind_text kind.TooLong = codes "TooLong"
kind_text kind.Tag = codes "Tag"
kind_text kind.Place = codes "Place"
kind_text kind.NotBaplie = codes "NotBaplie"
kind_text kind.Partial = codes "Partial"
kind_text kind.Count = codes "Count"
kind_text kind.NoPlace = codes "NoPlace"
kind_text kind.TooMany = codes "TooMany"
kind_text kind.CellKind = codes "CellKind"
kind_text (kind.Cell fault) = fault_text fault
kind_text kind.Id = codes "Id"
kind_text kind.Size = codes "Size"
kind_text kind.LengthMismatch = codes "LengthMismatch"
kind_text kind.IdTwice = codes "IdTwice"
kind_text kind.CellTaken = codes "CellTaken"
