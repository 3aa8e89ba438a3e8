-- public: the place that a LOC tells.
use Rattle.std.specs.Prelude.{ℕ, List, [], ◌∷◌, length, reverse, codes, Bool, not, ◌||◌, ◌==◌, if◌then◌else◌, Result}
use Rattle.std.specs.Str.{bytes_eq}
use Rattle.qc_num.specs.Reading.{◌>>=◌, require, with_fault}
use Rattle.qc_ship.specs.Cells.{CellView, cell_in}
use Rattle.qc_edifact.specs.Cuts.{Elements, part_of}
use Rattle.qc_bayplan.specs.declared.fault.BayPlanKind.{BayPlanKind}
use Rattle.qc_bayplan.specs.declared.fault.BayPlanKind.TheVariants as kind

-- any byte but a blank
abbrev pub is_no_blank : ℕ → Bool
is_no_blank b = not (b == 0x20)

-- a text from its first byte on that is no blank
abbrev pub past_blanks : List ℕ → List ℕ
past_blanks [] = []
past_blanks (b ∷ bs) = if b == 0x20 then past_blanks bs else b ∷ bs

-- a text without blanks at both ends
abbrev pub trimmed : List ℕ → List ℕ
trimmed text = reverse (past_blanks (reverse (past_blanks text)))

-- the agency that numbers places in the way of ISO 9711, or none
abbrev pub is_iso : List ℕ → Bool
is_iso agency = (length agency == 0) || bytes_eq agency (codes "5")

-- the cell of a place of this agency, or why it is none
abbrev pub cell_of : List ℕ → List ℕ → Result CellView BayPlanKind
cell_of agency place = do
  _ ← require (is_iso agency) kind.CellKind
  with_fault kind.Cell (cell_in place)

-- the cell that a LOC tells
abbrev pub cell_at : Elements → Result CellView BayPlanKind
cell_at loc = cell_of (trimmed (part_of loc 2 2)) (trimmed (part_of loc 2 0))
