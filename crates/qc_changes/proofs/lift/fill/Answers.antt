use Rattle.std.proofs.Common.{◌≡◌, ◌∙◌, ◌++◌, [], List, map, ap, subst, sym, ℕ}
use Rattle.std.specs.List.{filter}
use Rattle.std.specs.List.Sorted.{IsPermutation}
use Rattle.std.specs.Map.{lookup}
use Rattle.qc_ship.specs.Cells.{CellView}
use Rattle.qc_stow.specs.declared.row.Move.TheVariants.{Discharge, Load}
use Rattle.qc_stow.specs.declared.row.Row.{Row}
use Rattle.qc_changes.specs.declared.column.Column.{Column}
use Rattle.qc_changes.specs.Classes.{cells_of, changed, is_still}
use Rattle.qc_changes.specs.Floors.{IsFloor, known}
use Rattle.qc_changes.specs.Over.{same_column}
use Rattle.qc_changes.proofs.FloorLemmas.{floor_empty}
use Rattle.qc_changes.proofs.LiftLemmas.{lifts_are, moved}
use Rattle.qc_changes.proofs.Turns.{cells_of_rows}
use Rattle.qc_changes.proofs.lift.fill.Goals as goal

pub returns : goal.returns
returns c =
    let first = c.args.first.now in
    let second = c.args.second.now in
    let cell_of = λ (r : Row). r.cell in
    let off = c.args.off.now in
    let on = c.args.on.now in
    let none = floor_empty (known c.args.floors.now) (λ column. ap (λ (es : List (Column × ℕ)). lookup (same_column column) es) c.requires.floors) in
    let one = c.in_ok-put_rows.ensures [] none in
    let two = c.in_ok-put_rows-2.ensures (map cell_of off) one in
    let off_is : map cell_of off ≡ cells_of (changed first second) = ap (map cell_of) c.requires.off ∙ cells_of_rows Discharge (changed first second) in
    let on_is : map cell_of on ≡ cells_of (changed second first) = ap (map cell_of) c.requires.on ∙ cells_of_rows Load (changed second first) in
    let cells_are : map cell_of off ++ map cell_of on ≡ moved first second =
    ap (λ (cs : List CellView). cs ++ map cell_of on) off_is ∙ ap (λ (cs : List CellView). cells_of (changed first second) ++ cs) on_is in
    let floor = subst (λ (cs : List CellView). IsFloor (known c.put_rows-2.new.floors) cs) cells_are two in
    let (lifted, (now, lifts)) = c.in_ok-lift.ensures (moved first second) floor in
    let still : c.push_still.new.cells.items ≡ cells_of (filter (is_still second) first) =
    c.in_ok-push_still.ensures ∙ ap (λ (cs : List CellView). cs ++ cells_of (filter (is_still second) first)) c.requires.cells in
    let same : IsPermutation (cells_of (filter (is_still second) first)) c.as_slice.result.now =
    subst (λ (cs : List CellView). IsPermutation (cells_of (filter (is_still second) first)) cs) (sym c.as_slice.ensures.value)
    (subst (λ (cs : List CellView). IsPermutation cs c.sort.new.cells.items) still c.sort.ensures.same) in
    record { cells = moved first second ++ lifted; floor = now; lifted = lifts_are first second c.as_slice.result.now lifted same lifts }
