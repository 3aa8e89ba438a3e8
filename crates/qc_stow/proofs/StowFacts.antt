-- How the rows of a list follow from its records.
use Rattle.std.proofs.Common.{◌≡◌, ◌≢◌, ◌<◌, ◌≤◌, ◌++◌, ◌∷◌, ◌==◌, ◌&&◌, ℕ, List, [], length, get_or, Bool, true, false, nat_lt, Result, Ok, Err, Option, IsSome, is_some, All, AllPairs, refl, sym, ap, inl, inr, ◌∙◌, arith}
use Rattle.std.specs.List.{list_any}
use Rattle.std.proofs.lemmas.Bool.{and_from, cases_Bool, false≢true, false_from_ne_true, lt-ltb, ltb-true}
use Rattle.std.proofs.lemmas.List.{length_push}
use Rattle.std.proofs.lemmas.List.Elements.{All-push}
use Rattle.std.proofs.lemmas.List.Folds.{list_any_at}
use Rattle.std.proofs.lemmas.List.Quantifiers.{all_pairs_push}
use Rattle.std.proofs.lemmas.Slice.Eq.{bytes_eq-Decides}
use Rattle.std.specs.Str.{bytes_eq}
use Rattle.qc_num.specs.Reading.{◌>>=◌, each, require, with_fault}
use Rattle.qc_num.proofs.ReadingLemmas.{bind_ok, each-keeps, require_ok, same_ok, with_fault_ok}
use Rattle.qc_ship.specs.Cells.{CellView, cell_in, overlap}
use Rattle.qc_lines.specs.Records.{field_of}
use Rattle.qc_ship.specs.Ship.{ShipView, place_of_bay}
use Rattle.qc_stow.specs.Moves.{AreMoves, has_id, is_taken, most_moves, same_move}
use Rattle.qc_stow.specs.Fields.{is_id, length_text}
use Rattle.qc_stow.specs.Rows.{move_in, row_in, row_of}
use Rattle.qc_stow.specs.Stow.{apart_from, next_row, numbered, over_hatch, row_after, row_on}
use Rattle.qc_stow.specs.declared.columns.Columns.{Columns}
use Rattle.qc_stow.specs.declared.row.Move.{Move}
use Rattle.qc_stow.specs.declared.row.Move.TheVariants.{Discharge, Load}
use Rattle.qc_stow.specs.declared.row.Row.{Row}
use Rattle.qc_stow.specs.declared.fault.StowKind.{StowKind}
use Rattle.qc_stow.specs.declared.fault.StowKind.TheVariants as kind

-- what is known of a row after others
record FollowsRows (ship : ShipView) (earlier : List Row) (row : Row) : Type 0 where
  few : length earlier < most_moves
  hatch : is_some (place_of_bay ship row.cell.bay) ≡ true
  id : has_id earlier row ≡ false
  cell : is_taken earlier row ≡ false

some-is : {A : Type 0} (o : Option A) → is_some o ≡ true → IsSome o
some-is o e = e

hatch-known : (ship : ShipView) (found row : Row) → over_hatch ship found ≡ Ok row → (is_some (place_of_bay ship found.cell.bay) ≡ true) × (found ≡ row)
hatch-known ship found row e = elim (cases_Bool (is_some (place_of_bay ship found.cell.bay))) [
  | inl there ↦ (there, same_ok (rw there at e))
  | inr missing ↦ cc (rw missing at e)
]

apart-known : (earlier : List Row) (found row : Row) → apart_from earlier found ≡ Ok row
    → (has_id earlier found ≡ false) × (is_taken earlier found ≡ false) × (found ≡ row)
apart-known earlier found row e = elim (cases_Bool (has_id earlier found)) [
  | inl twice ↦ cc (rw twice at e)
  | inr new ↦ elim (cases_Bool (is_taken earlier found)) [
    | inl taken ↦ cc (rw (new, taken) at e)
    | inr free ↦ (new, free, same_ok (rw (new, free) at e))
  ]
]

row-follows : (ship : ShipView) (at : Columns) (earlier : List Row) (fields : List (List ℕ)) (row : Row) → row_after ship at earlier fields ≡ Ok row → FollowsRows ship earlier row
row-follows ship at earlier fields row e =
    let (u, few, rest) = bind_ok (require (nat_lt (length earlier) most_moves) kind.TooMany) (λ _. row_on ship at fields >>= apart_from earlier) row e in
    let (here, on, apart) = bind_ok (row_on ship at fields) (apart_from earlier) row rest in
    let (found, read, hatched) = bind_ok (row_in at fields) (over_hatch ship) here on in
    let (hatch, is-found) = hatch-known ship found here hatched in
    let (id, cell, is-row) = apart-known earlier here row apart in
    record {
      few = ltb-true (length earlier) most_moves (require_ok (nat_lt (length earlier) most_moves) kind.TooMany u few);
      hatch = rw (is-found, is-row) at hatch;
      id = rw is-row at id;
      cell = rw is-row at cell;
    }

same-move : (a b : Move) → a ≡ b → same_move b a ≡ true
same-move Discharge Discharge e = refl
same-move Discharge Load e = cc e
same-move Load Discharge e = cc e
same-move Load Load e = refl

-- the id of a row is the field of its record in the column of ids
id-kept : (id size : List ℕ) (move : Result Move StowKind) (cell : Result CellView StowKind) (row : Row)
    → (move >>= λ m. cell >>= λ c. row_of id size m c) ≡ Ok row → row.id ≡ id
id-kept id size (Err why) cell row e = cc e
id-kept id size (Ok m) (Err why) row e = cc e
id-kept id size (Ok m) (Ok c) row e = elim (cases_Bool (bytes_eq size (length_text c.bay))) [
  | inl fits ↦ ap (λ (r : Row). r.id) (sym (same_ok (rw fits at e)))
  | inr other ↦ cc (rw other at e)
]

id-in : (at : Columns) (fields : List (List ℕ)) (row : Row) → row_in at fields ≡ Ok row → row.id ≡ field_of fields at.id
id-in at fields row e = elim (cases_Bool (length fields == at.all)) [
  | inl all ↦ elim (cases_Bool (is_id (field_of fields at.id))) [
    | inl id ↦ id-kept (field_of fields at.id) (field_of fields at.length) (move_in (field_of fields at.kind)) (with_fault kind.Cell (cell_in (field_of fields at.cell))) row (rw (all, id) at e)
    | inr other ↦ cc (rw (all, other) at e)
  ]
  | inr other ↦ cc (rw other at e)
]

pub row-id : (ship : ShipView) (at : Columns) (fields : List (List ℕ)) (row : Row) → row_on ship at fields ≡ Ok row → row.id ≡ field_of fields at.id
row-id ship at fields row e =
    let (found, read, hatched) = bind_ok (row_in at fields) (over_hatch ship) row e in
    let (hatch, is-found) = hatch-known ship found row hatched in
    ap (λ (r : Row). r.id) (sym is-found) ∙ id-in at fields found read

-- the row after others, by the checks that are made of it
module _ (ship : ShipView) (at : Columns) (earlier : List Row) (fields : List (List ℕ)) (row : Row) (number : ℕ) (few : length earlier < most_moves) (on : row_on ship at fields ≡ Ok row) where
  pub after-id : has_id earlier row ≡ true → numbered number (row_after ship at earlier fields) ≡ Err (record { number = number; kind = kind.IdTwice })
  after-id twice = let room = lt-ltb (length earlier) most_moves few in rw (room, on, twice) refl

  pub after-cell : has_id earlier row ≡ false → is_taken earlier row ≡ true
      → numbered number (row_after ship at earlier fields) ≡ Err (record { number = number; kind = kind.CellTaken })
  after-cell new taken = let room = lt-ltb (length earlier) most_moves few in rw (room, on, new, taken) refl

  pub after-row : has_id earlier row ≡ false → is_taken earlier row ≡ false → numbered number (row_after ship at earlier fields) ≡ Ok row
  after-row new free = let room = lt-ltb (length earlier) most_moves few in rw (room, on, new, free) refl

-- where no element passes, that at a place doesn't
none-at : {X : Type 0} (test : X → Bool) (xs : List X) (k : ℕ) (d : X) → k < length xs → list_any test xs ≡ false → test (get_or xs k d) ≡ true → ⊥
none-at test xs k d within none here = false≢true (sym none ∙ list_any_at test xs k d within here)

-- what rows keep, and that each is over a hatch
record StandApart (ship : ShipView) (rows : List Row) : Type 0 where
  count : length rows ≤ most_moves
  ids : AllPairs (λ a b. a.kind ≡ b.kind → a.id ≢ b.id) rows
  apart : AllPairs (λ a b. a.kind ≡ b.kind → overlap b.cell a.cell ≡ false) rows
  hatches : All (λ row. IsSome (place_of_bay ship row.cell.bay)) rows

-- no row, and one more row
stand-none : (ship : ShipView) → StandApart ship []
stand-none ship = record {
  count = omega arith;
  ids = λ i j d before within. absurd (omega arith);
  apart = λ i j d before within. absurd (omega arith);
  hatches = λ k d within. absurd (omega arith);
}

stand-more : (ship : ShipView) (earlier : List Row) (row : Row) → StandApart ship earlier → FollowsRows ship earlier row → StandApart ship (earlier ++ row ∷ [])
stand-more ship earlier row stand follows = record {
  count = let size = length_push earlier row in omega (arith, follows.few);
  ids = all_pairs_push (λ a b. a.kind ≡ b.kind → a.id ≢ b.id) earlier row stand.ids (λ k d within kinds ids.
      none-at (λ e. same_move row.kind e.kind && bytes_eq row.id e.id) earlier k d within follows.id
      (and_from _ _ (same-move (get_or earlier k d).kind row.kind kinds) ((bytes_eq-Decides row.id (get_or earlier k d).id).1 (sym ids))));
  apart = all_pairs_push (λ a b. a.kind ≡ b.kind → overlap b.cell a.cell ≡ false) earlier row stand.apart (λ k d within kinds.
      false_from_ne_true _ (λ over.
      none-at (λ e. same_move row.kind e.kind && overlap row.cell e.cell) earlier k d within follows.cell
      (and_from _ _ (same-move (get_or earlier k d).kind row.kind kinds) over)));
  hatches = All-push (λ r. IsSome (place_of_bay ship r.cell.bay)) earlier row stand.hatches (some-is (place_of_bay ship row.cell.bay) follows.hatch);
}

-- the rows of a list are moves, each over a hatch
pub rows-keep : (ship : ShipView) (at : Columns) (records : List (List (List ℕ))) (rows : List Row) → each (next_row ship at) [] records ≡ Ok rows
    → AreMoves rows × All (λ row. IsSome (place_of_bay ship row.cell.bay)) rows
rows-keep ship at records rows e =
    let stand = each-keeps (next_row ship at) (StandApart ship) (λ before fields row stand read.
    stand-more ship before row stand (row-follows ship at before fields row (with_fault_ok _ (row_after ship at before fields) row read)))
    [] records rows (stand-none ship) e in
    (record { count = stand.count; ids = stand.ids; apart = stand.apart }, stand.hatches)
