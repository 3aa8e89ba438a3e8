-- The moves that are left, among all of a list.
use Rattle.std.proofs.Common.{◌≡◌, ◌≢◌, ℕ, ◌+◌, ◌<◌, ◌≤◌, false, List, [], ◌∷◌, ◌++◌, length, take, get_or, All, IsSome, Result, Ok, Err, refl, sym, ap, subst, ◌∙◌, inl, inr, arith, append-nil, append_assoc}
use Rattle.std.specs.Prelude.{OnOk}
use Rattle.std.specs.List.{AllByRecursion as Each, flat_map}
use Rattle.std.proofs.lemmas.Bool.{cases_Bool}
use Rattle.std.proofs.lemmas.List.{take_all, take_more}
use Rattle.std.proofs.lemmas.List.Elements.{All-push, recursion_from_All}
use Rattle.std.proofs.lemmas.List.Kept.{AllPairs-filter}
use Rattle.qc_changes.specs.ListText.{IsPlain, list_text, row_line}
use Rattle.qc_changes.proofs.ReadLemmas.{moves_read}
use Rattle.qc_model.specs.declared.task.Task.{Task}
use Rattle.qc_num.specs.Reading.{each}
use Rattle.qc_rest_files.specs.LeftLines.{IsPlainIfLeft, left_line}
use Rattle.qc_rest_files.proofs.KeptLemmas.{few_passed}
use Rattle.qc_rest_files.specs.LeftRows.{is_move_of_any, left_rows}
use Rattle.qc_ship.specs.Cells.{overlap}
use Rattle.qc_ship.specs.Ship.{ShipView, place_of_bay}
use Rattle.qc_stow.specs.Moves.{AreMoves}
use Rattle.qc_stow.specs.Stow.{moves_in, numbered, over_hatch}
use Rattle.qc_stow.specs.declared.row.Row.{Row}

-- one more of a front that all keep it
pub all_more : {X : Type 0} (P : X → Type 0) (xs : List X) (i : ℕ) (d : X) → i < length xs → All P (take i xs) → P (get_or xs i d)
    → All P (take (i + 1) xs)
all_more P xs i d lt all here = subst (All P) (sym (take_more xs i d lt)) (All-push P (take i xs) (get_or xs i d) all here)

pub all_of_whole : {X : Type 0} (P : X → Type 0) (xs : List X) (i : ℕ) → length xs ≤ i → All P (take i xs) → All P xs
all_of_whole P xs i past all = subst (All P) (take_all i xs past) all

-- what is said where a call came through
pub on_ok : {T E : Type 0} (r : Result T E) (P Q : Type 0) → (P → Q) → OnOk r P → OnOk r Q
on_ok (Ok x) P Q follows p = follows p
on_ok (Err e) P Q follows p = tt

module _ (tasks : List Task) where
  -- the lines of the moves that are left
  pub lines_left : (rows : List Row) → flat_map (left_line tasks) rows ≡ flat_map row_line (left_rows tasks rows)
  lines_left [] = refl
  lines_left (row ∷ rows) = elim (cases_Bool (is_move_of_any tasks row)) [
    | inl left ↦ rw left (ap (λ (t : List ℕ). row_line row ++ t) (lines_left rows))
    | inr gone ↦ rw gone (lines_left rows)
  ]

  plain_left : (rows : List Row) → Each (IsPlainIfLeft tasks) rows → Each IsPlain (left_rows tasks rows)
  plain_left [] plain = tt
  plain_left (row ∷ rows) plain = elim (cases_Bool (is_move_of_any tasks row)) [
    | inl left ↦ rw left (plain.0 left, plain_left rows plain.1)
    | inr gone ↦ rw gone (plain_left rows plain.1)
  ]

  over_left : (ship : ShipView) (rows : List Row) → Each (λ row. IsSome (place_of_bay ship row.cell.bay)) rows
      → Each (λ row. IsSome (place_of_bay ship row.cell.bay)) (left_rows tasks rows)
  over_left ship [] over = tt
  over_left ship (row ∷ rows) over = elim (cases_Bool (is_move_of_any tasks row)) [
    | inl left ↦ rw left (over.0, over_left ship rows over.1)
    | inr gone ↦ rw gone (over_left ship rows over.1)
  ]

  moves_left : (rows : List Row) → AreMoves rows → AreMoves (left_rows tasks rows)
  moves_left rows are = record {
    count = omega (arith, are.count, few_passed (is_move_of_any tasks) rows);
    ids = AllPairs-filter (λ (a b : Row). a.kind ≡ b.kind → a.id ≢ b.id) (is_move_of_any tasks) rows are.ids;
    apart = AllPairs-filter (λ (a b : Row). a.kind ≡ b.kind → overlap b.cell a.cell ≡ false) (is_move_of_any tasks) rows are.apart;
  }

  -- a reader for a ship that has a hatch for each reads them as they are
  all_over : (ship : ShipView) (before rows : List Row) → Each (λ row. IsSome (place_of_bay ship row.cell.bay)) rows
      → each (λ earlier row. numbered (length earlier + 2) (over_hatch ship row)) before rows ≡ Ok (before ++ rows)
  all_over ship before [] over = ap Ok (sym (append-nil before))
  all_over ship before (row ∷ rows) over =
      rw over.0 (all_over ship (before ++ row ∷ []) rows over.1 ∙ ap Ok (append_assoc before (row ∷ []) rows))

  pub left_reads : (rows : List Row) → AreMoves rows → All (IsPlainIfLeft tasks) rows → (ship : ShipView)
      → All (λ row. IsSome (place_of_bay ship row.cell.bay)) rows → moves_in ship (list_text (left_rows tasks rows)) ≡ Ok (left_rows tasks rows)
  left_reads rows are plain ship over =
      moves_read ship (left_rows tasks rows) (moves_left rows are) (plain_left rows (recursion_from_All (IsPlainIfLeft tasks) rows plain))
      ∙ all_over ship [] (left_rows tasks rows) (over_left ship rows (recursion_from_All (λ (row : Row). IsSome (place_of_bay ship row.cell.bay)) rows over))
