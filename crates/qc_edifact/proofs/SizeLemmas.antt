-- How many segments a text has at most.
use Rattle.std.proofs.Common.{◌+◌, ◌≤◌, ◌∷◌, ℕ, List, [], length, take, drop, cond, Bool, true, false, Option, None, Some, position, Result, Ok, Err, IfOk, arith, length-drop}
use Rattle.std.specs.Prelude.{◌==◌, ◌&&◌, not, codes, filter, nat_le}
use Rattle.std.specs.Str.{bytes_eq}
use Rattle.qc_edifact.specs.Cuts.{cut}
use Rattle.qc_edifact.specs.Segments.{Entry, by_signs, entries, left_over, most_bytes, segments_in, segments_of, told_in, whole}
use Rattle.qc_edifact.specs.Signs.{signs_told, usual}
use Rattle.qc_edifact.specs.Texts.{from_place, is_above_blank, mark, plain_text, skip_blanks, without_mark}
use Rattle.qc_edifact.specs.declared.segments.NoSigns.{NoSigns}
use Rattle.qc_edifact.specs.declared.signs.Signs.{Signs}
use Rattle.qc_edifact.proofs.SegmentLemmas.{has_pieces}

-- what holds of two values holds of the one that a test chose
chosen : {X : Type 0} (P : X → Type 0) (test : Bool) (a b : X) → P a → P b → P (cond test a b)
chosen P true a b p q = p
chosen P false a b p q = q

left-few : (bytes : List ℕ) → length (left_over bytes) ≤ 1
left-few [] = omega arith
left-few (b ∷ bs) = omega arith

whole-few : (signs : Signs) (bytes : List ℕ) (behind : List Entry) → length (whole signs bytes behind) ≤ 1 + length behind
whole-few signs bytes behind =
    chosen (λ (xs : List Entry). length xs ≤ 1 + length behind) (nat_le (length bytes) most_bytes) _ _ (omega arith) (omega arith)

entries-few : (signs : Signs) (pieces : List (List ℕ)) → length (entries signs pieces) ≤ length pieces
entries-few signs [] = omega arith
entries-few signs (piece ∷ []) = left-few (skip_blanks piece)
entries-few signs (piece ∷ next ∷ pieces) =
    omega (arith, whole-few signs (skip_blanks piece) (entries signs (next ∷ pieces)), entries-few signs (next ∷ pieces))

segments-few : (signs : Signs) (text : List ℕ) → length (segments_of signs text) ≤ length text + 1
segments-few signs text = omega (arith, entries-few signs (cut signs signs.end false text), (has_pieces signs signs.end false text).few)

by-few : (text : List ℕ) (found : Option Signs) → IfOk (by_signs text found) (λ segments. length segments ≤ length text + 1)
by-few text None = tt
by-few text (Some signs) = segments-few signs text

-- more room is enough
widened : (came : Result (List Entry) NoSigns) (few most : ℕ) → few ≤ most → IfOk came (λ segments. length segments ≤ few) → IfOk came (λ segments. length segments ≤ most)
widened (Ok segments) few most le fits = omega arith
widened (Err none) few most le fits = tt

told-few : (text : List ℕ) → IfOk (told_in text) (λ segments. length segments ≤ length text + 1)
told-few text =
    chosen (λ (came : Result (List Entry) NoSigns). IfOk came (λ segments. length segments ≤ length text + 1)) (nat_le 6 (length text)) _ _
    (widened _ (length (drop 6 text) + 1) (length text + 1) (omega (arith, length-drop 6 text)) (by-few (drop 6 text) (signs_told (take 6 text))))
    tt

from-few : (text : List ℕ) (start : Option ℕ) → length (from_place text start) ≤ length text
from-few text None = omega arith
from-few text (Some start) = omega (arith, length-drop start text)

-- one behind each byte at most, and one ahead of them
pub few_segments : (text : List ℕ) → IfOk (segments_in text) (λ segments. length segments ≤ length text + 1)
few_segments text =
    let begun = skip_blanks text in
    let shorter : length begun ≤ length text = from-few text (position is_above_blank text) in
    chosen (λ (came : Result (List Entry) NoSigns). IfOk came (λ segments. length segments ≤ length text + 1)) (bytes_eq (take 3 begun) (codes "UNA")) _ _
    (widened _ (length (drop 3 begun) + 1) (length text + 1) (omega (arith, shorter, length-drop 3 begun)) (told-few (drop 3 begun)))
    (widened (Ok (segments_of usual begun)) (length begun + 1) (length text + 1) (omega (arith, shorter)) (segments-few usual begun))

filter-few : (test : ℕ → Bool) (xs : List ℕ) → length (filter test xs) ≤ length xs
filter-few test [] = omega arith
filter-few test (x ∷ xs) =
    chosen (λ (ys : List ℕ). length ys ≤ length (x ∷ xs)) (test x) (x ∷ filter test xs) (filter test xs) (omega (arith, filter-few test xs)) (omega (arith, filter-few test xs))

-- a text is no longer than its file
pub plain-few : (bytes : List ℕ) → length (plain_text bytes) ≤ length bytes
plain-few bytes =
    let unmarked = chosen (λ (xs : List ℕ). length xs ≤ length bytes) (bytes_eq (take 3 bytes) mark) (drop 3 bytes) bytes (omega (arith, length-drop 3 bytes)) (omega arith) in
    let kept = filter-few (λ b. not (b == 0x0D) && not (b == 0x0A)) (without_mark bytes) in
    omega (arith, unmarked, kept)
