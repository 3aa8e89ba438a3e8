-- Texts written one behind another.
use Rattle.std.proofs.Common.{◌≡◌, ℕ, ◌+◌, ◌<◌, ◌++◌, List, [], length, take, drop, get_or, Result, Ok, Err, sym, ap, ◌∙◌, subst, arith, IsErr, ◌∷◌, refl}
use Rattle.std.specs.Prelude.{⊤}
use Rattle.std.specs.List.{flat_map, zip}
use Rattle.std.proofs.lemmas.List.{take-append-drop, take_more, drop_more, flat_map_more}
use Rattle.std.proofs.lemmas.List.Concat.{flat_map-append}
use Rattle.qc_io.specs.declared.writing.WriteFault.{WriteFault}
use Rattle.qc_io.specs.Outside.{View}
use Rattle.qc_io.specs.Writes.{Writes}
use Rattle.qc_io.proofs.Pieces.{part_of_first, part_of_second, whole_pair}

-- a text behind one that was written whole
pub writes_then :
    (before between after : View) (first second : List ℕ) (result : Result ⊤ WriteFault)
    → Writes before between first (Ok tt)
    → Writes between after second result
    → Writes before after (first ++ second) result
writes_then before between after first second (Ok _) one two = record {
  whole = whole_pair before.written between.written after.written first second one.whole two.whole;
  unfailed = two.unfailed ∙ one.unfailed;
  part = tt;
  rose = tt;
  beside_stays = two.beside_stays ∙ one.beside_stays;
  never_falls = omega (arith, one.never_falls, two.never_falls);
}
writes_then before between after first second (Err _) one two = record {
  whole = tt;
  unfailed = tt;
  part = part_of_second before.written between.written after.written first second one.whole two.part;
  rose = omega (arith, one.unfailed, two.rose);
  beside_stays = two.beside_stays ∙ one.beside_stays;
  never_falls = omega (arith, one.never_falls, two.never_falls);
}

-- a text that was cut is the front of both
pub writes_cut :
    (before after : View) (first second : List ℕ) (fault : WriteFault) (result : Result ⊤ WriteFault) → IsErr result
    → Writes before after first (Err fault)
    → Writes before after (first ++ second) result
writes_cut before after first second fault (Ok _) is cut = absurd (cc is)
writes_cut before after first second fault (Err _) is cut = record {
  whole = tt;
  unfailed = tt;
  part = part_of_first before.written after.written first second cut.part;
  rose = cut.rose;
  beside_stays = cut.beside_stays;
  never_falls = cut.never_falls;
}

-- the texts of a list's items, written one by one: what a loop over the items keeps, at the item at i
module _ {X : Type 0} (text : X → List ℕ) (items : List X) (i : ℕ) (item : X) (before now after : View)
    (piece : List ℕ) where
  -- its text was written behind those before it
  pub items_more :
      i < length items → piece ≡ text (get_or items i item)
      → Writes before now (flat_map text (take i items)) (Ok tt)
      → Writes now after piece (Ok tt)
      → Writes before after (flat_map text (take (i + 1) items)) (Ok tt)
  items_more lt is so_far more =
      subst (λ t. Writes before after t (Ok tt))
      (ap (λ t. flat_map text (take i items) ++ t) is ∙ flat_map_more text [] (take i items) (get_or items i item)
      ∙ ap (flat_map text) (sym (take_more items i item lt)))
      (writes_then before now after (flat_map text (take i items)) piece (Ok tt) so_far more)

  -- its text was cut, behind those before it
  pub items_cut :
      (fault : WriteFault) (result : Result ⊤ WriteFault) → IsErr result
      → i < length items → piece ≡ text (get_or items i item)
      → Writes before now (flat_map text (take i items)) (Ok tt)
      → Writes now after piece (Err fault)
      → Writes before after (flat_map text items) result
  items_cut fault result err lt is so_far cut =
      let parts : flat_map text items ≡ flat_map text (take i items) ++ (piece ++ flat_map text (drop (i + 1) items)) =
      ap (flat_map text) (sym (take-append-drop i items)) ∙ flat_map-append text (take i items) (drop i items)
      ∙ ap (λ rest. flat_map text (take i items) ++ flat_map text rest) (drop_more items i item lt)
      ∙ ap (λ t. flat_map text (take i items) ++ (t ++ flat_map text (drop (i + 1) items))) (sym is)
      in
      subst (λ t. Writes before after t result) (sym parts)
      (writes_then before now after (flat_map text (take i items)) _ result so_far
      (writes_cut now after piece _ fault result err cut))

-- one more of the second list beside the first
pub zip-push : {X Y : Type 0} (xs : List X) (ys : List Y) (d : X) (y : Y) → length ys < length xs
    → zip xs (ys ++ y ∷ []) ≡ zip xs ys ++ (get_or xs (length ys) d, y) ∷ []
zip-push [] ys d y low = absurd (omega arith)
zip-push {X} {Y} (x ∷ xs) [] d y low = zip-one xs
  where
    zip-one : (xs : List X) → ◌≡◌ {A = List (X × Y)} ((x, y) ∷ zip xs []) ((x, y) ∷ [])
    zip-one [] = refl
    zip-one (x ∷ xs) = refl
zip-push {X} {Y} (x ∷ xs) (z ∷ ys) d y low = ap (λ (l : List (X × Y)). (x, z) ∷ l) (zip-push xs ys d y (omega arith))
