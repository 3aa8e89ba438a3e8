-- public: in which other orders the moves of a list can be made.
use Rattle.std.specs.Prelude.{◌≡◌, Bool, false, ◌&&◌, ◌||◌, List, AllPairs, bytes_eq}
use Rattle.std.specs.List.Sorted.{IsPermutation}
use Rattle.qc_ship.specs.Cells.{CellView, overlap}
use Rattle.qc_stow.specs.Moves.{is_discharge, is_load}
use Rattle.qc_stow.specs.declared.row.Row.{Row}
use Rattle.qc_changes.specs.Over.{is_over}

-- two cells overlap, or one is over the other
abbrev pub meet : CellView → CellView → Bool
meet a b = overlap a b || (is_over a b || is_over b a)

-- move a must be made ahead of move b: both are discharges, and a's cell is over b's; both are loads, and b's is over a's;
-- or a is a discharge, b a load, and their cells meet or both are of one container
abbrev pub must_lead : (a b : Row) → Bool
must_lead a b =
    (is_discharge a.kind && (is_discharge b.kind && is_over a.cell b.cell))
    || ((is_load a.kind && (is_load b.kind && is_over b.cell a.cell))
    || (is_discharge a.kind && (is_load b.kind && (bytes_eq a.id b.id || meet a.cell b.cell))))

-- the moves of a list in some order, in which none stands behind one that it must be made ahead of
pub record IsOrderOf (rows told : List Row) : Type 0 where
  pub each : IsPermutation rows told
  pub order : AllPairs (λ a b. must_lead b a ≡ false) told
