-- What is taken, by the rows that took it.
use Rattle.std.proofs.Common.{◌≡◌, ◌++◌, ◌∷◌, ◌&&◌, ◌||◌, ◌==◌, List, [], map, Bool, true, false, refl, ◌∙◌}
use Rattle.std.proofs.lemmas.List.{map-append}
use Rattle.std.proofs.lemmas.List.Folds.{list_any-append}
use Rattle.std.specs.List.{list_any}
use Rattle.std.specs.Str.{bytes_eq}
use Rattle.qc_ship.specs.Cells.{CellView, overlap, slots}
use Rattle.qc_stow.specs.Moves.{has_id, is_taken, same_move}
use Rattle.qc_stow.specs.Taken.{has_taken_cell, has_taken_id, has_taken_slot, ids_of, same_slot, slot_at, slots_of, slots_taken}
use Rattle.qc_stow.specs.declared.row.Move.{Move}
use Rattle.qc_stow.specs.declared.row.Row.{Row}
use Rattle.qc_stow.specs.declared.taken.Slot.{Slot}

-- a test of some element of a list that another was mapped to
pub list_any-map : {X Y : Type 0} (test : Y → Bool) (f : X → Y) (xs : List X) → list_any test (map f xs) ≡ list_any (λ x. test (f x)) xs
list_any-map test f [] = refl
list_any-map test f (x ∷ xs) = rw (list_any-map test f xs) refl

-- the ids that rows take
pub id-taken : (rows : List Row) (row : Row) → has_taken_id (ids_of rows) row.kind row.id ≡ has_id rows row
id-taken rows row = list_any-map (λ taken. same_move row.kind taken.0 && bytes_eq row.id taken.1) (λ (r : Row). (r.kind, r.id)) rows

-- a test that holds of no element, and two tests that agree
list_any-none : {X : Type 0} (xs : List X) → list_any (λ x. false) xs ≡ false
list_any-none [] = refl
list_any-none (x ∷ xs) = list_any-none xs

pub list_any-agree : {X : Type 0} (f g : X → Bool) (xs : List X) → ((x : X) → f x ≡ g x) → list_any f xs ≡ list_any g xs
list_any-agree f g [] h = refl
list_any-agree f g (x ∷ xs) h = rw (h x, list_any-agree f g xs h) refl

-- parts of a test that are the same for each element
inner-step : (b p r t q : Bool) → ((b && ((p && r) && t)) || (b && ((r && t) && q))) ≡ (b && ((r && t) && (p || q)))
inner-step true true true true q = refl
inner-step true true true false q = refl
inner-step true true false t q = refl
inner-step true false true true q = refl
inner-step true false true false q = refl
inner-step true false false t q = refl
inner-step false p r t q = refl

list_any-inner : {X : Type 0} (f : X → Bool) (b r t : Bool) (xs : List X) → list_any (λ x. b && ((f x && r) && t)) xs ≡ (b && ((r && t) && list_any f xs))
list_any-inner f true true true [] = refl
list_any-inner f true true false [] = refl
list_any-inner f true false t [] = refl
list_any-inner f false r t [] = refl
list_any-inner f b r t (x ∷ xs) = rw (list_any-inner f b r t xs) (inner-step b (f x) r t (list_any f xs))

outer-step : (b c p q : Bool) → ((b && (c && p)) || (b && (c && q))) ≡ (b && (c && (p || q)))
outer-step true true p q = refl
outer-step true false p q = refl
outer-step false c p q = refl

list_any-outer : {X : Type 0} (f : X → Bool) (b c : Bool) (xs : List X) → list_any (λ x. b && (c && f x)) xs ≡ (b && (c && list_any f xs))
list_any-outer f true true [] = refl
list_any-outer f true false [] = refl
list_any-outer f false c [] = refl
list_any-outer f b c (x ∷ xs) = rw (list_any-outer f b c xs) (outer-step b c (f x) (list_any f xs))

-- some element passes one of two tests
either-step : (a b p q : Bool) → ((a || b) || (p || q)) ≡ ((a || p) || (b || q))
either-step true b p q = refl
either-step false true true q = refl
either-step false true false q = refl
either-step false false p q = refl

list_any-either : {X : Type 0} (f g : X → Bool) (xs : List X) → list_any (λ x. f x || g x) xs ≡ (list_any f xs || list_any g xs)
list_any-either f g [] = refl
list_any-either f g (x ∷ xs) = rw (list_any-either f g xs) (either-step (f x) (g x) (list_any f xs) (list_any g xs))

-- a slot, and a cell, against the slots that one row takes
slot-one : (kind other : Move) (slot : Slot) (cell : CellView)
    → has_taken_slot (map (λ s. (other, s)) (slots_of cell)) kind slot
    ≡ (same_move kind other && (((slot.row == cell.row) && (slot.tier == cell.tier)) && list_any (λ bay. slot.bay == bay) (slots cell.bay)))
slot-one kind other slot cell =
    list_any-map (λ taken. same_move kind taken.0 && same_slot slot taken.1) (λ (s : Slot). (other, s)) (slots_of cell)
    ∙ list_any-map (λ s. same_move kind other && same_slot slot s) (slot_at cell) (slots cell.bay)
    ∙ list_any-inner (λ bay. slot.bay == bay) (same_move kind other) (slot.row == cell.row) (slot.tier == cell.tier) (slots cell.bay)

cell-one : (kind other : Move) (a b : CellView) → has_taken_cell (map (λ s. (other, s)) (slots_of b)) kind a ≡ (same_move kind other && overlap a b)
cell-one kind other a b =
    list_any-map (has_taken_slot (map (λ s. (other, s)) (slots_of b)) kind) (slot_at a) (slots a.bay)
    ∙ list_any-agree _ (λ bay. same_move kind other && (((a.row == b.row) && (a.tier == b.tier)) && list_any (λ slot. bay == slot) (slots b.bay))) (slots a.bay)
    (λ bay. slot-one kind other (slot_at a bay) b)
    ∙ list_any-outer (λ bay. list_any (λ slot. bay == slot) (slots b.bay)) (same_move kind other) ((a.row == b.row) && (a.tier == b.tier)) (slots a.bay)

-- the slots that rows take
pub cell-taken : (rows : List Row) (row : Row) → has_taken_cell (slots_taken rows) row.kind row.cell ≡ is_taken rows row
cell-taken [] row = list_any-none (slots_of row.cell)
cell-taken (first ∷ rows) row =
    let here = map (λ (s : Slot). (first.kind, s)) (slots_of first.cell) in
    list_any-agree _ (λ slot. has_taken_slot here row.kind slot || has_taken_slot (slots_taken rows) row.kind slot) (slots_of row.cell)
    (λ slot. list_any-append (λ taken. same_move row.kind taken.0 && same_slot slot taken.1) here (slots_taken rows))
    ∙ list_any-either (has_taken_slot here row.kind) (has_taken_slot (slots_taken rows) row.kind) (slots_of row.cell)
    ∙ rw (cell-one row.kind first.kind row.cell first.cell, cell-taken rows row) refl

-- one more row takes its id and its slots
pub ids-more : (rows : List Row) (row : Row) → ids_of (rows ++ row ∷ []) ≡ ids_of rows ++ (row.kind, row.id) ∷ []
ids-more rows row = map-append (λ (r : Row). (r.kind, r.id)) rows (row ∷ [])
