-- The segments of a text, one by one.
use Rattle.std.proofs.Common.{◌≡◌, ◌∙◌, ◌+◌, ◌<◌, ◌≤◌, ◌∷◌, ◌&&◌, not, ℕ, List, [], length, drop, Bool, true, false, Ok, Option, Some, take, refl, sym, ap, subst, arith}
use Rattle.std.proofs.lemmas.Bool.{le-leb}
use Rattle.qc_edifact.specs.Cuts.{ahead_of, cut, elements_of, ends_piece}
use Rattle.qc_edifact.specs.Segments.{Entry, by_signs, entries, most_bytes, segments_of, told_in, whole}
use Rattle.qc_edifact.specs.Signs.{is_release, signs_told}
use Rattle.qc_edifact.specs.Texts.{skip_blanks}
use Rattle.qc_edifact.specs.declared.signs.Signs.{Signs}

-- a text has a piece, and no more than one behind each byte
pub record HasPieces (pieces : List (List ℕ)) (most : ℕ) : Type 0 where
  pub some : 0 < length pieces
  pub few : length pieces ≤ most

ahead-pieces : (ends : Bool) (b : ℕ) (pieces : List (List ℕ)) (most : ℕ) → HasPieces pieces most → HasPieces (ahead_of ends b pieces) (most + 1)
ahead-pieces true b pieces most has = record { some = omega arith; few = omega (arith, has.few) }
ahead-pieces false b [] most has = absurd (omega (arith, has.some))
ahead-pieces false b (p ∷ ps) most has = record { some = omega arith; few = omega (arith, has.few) }

pub has_pieces : (signs : Signs) (sign : ℕ) (taken : Bool) (text : List ℕ) → HasPieces (cut signs sign taken text) (length text + 1)
has_pieces signs sign taken [] = record { some = omega arith; few = omega arith }
has_pieces signs sign taken (b ∷ bs) =
    let more : length bs + 1 + 1 ≡ length (b ∷ bs) + 1 = omega arith in
    subst (HasPieces (cut signs sign taken (b ∷ bs))) more
    (ahead-pieces (ends_piece sign taken b) b _ (length bs + 1)
    (has_pieces signs sign (not taken && not (ends_piece sign taken b) && is_release signs b) bs))

-- what comes of a piece behind which another one stands
entries-more : (signs : Signs) (piece : List ℕ) (pieces : List (List ℕ)) → 0 < length pieces
    → entries signs (piece ∷ pieces) ≡ whole signs (skip_blanks piece) (entries signs pieces)
entries-more signs piece [] some = absurd (omega (arith, some))
entries-more signs piece (p ∷ ps) some = refl

-- what comes first of a text of which an end sign cuts off a piece: a segment
module _ (signs : Signs) (text piece rest bytes : List ℕ) (to_come : List Entry) (shown : segments_of signs text ≡ to_come)
    (cuts : cut signs signs.end false text ≡ piece ∷ cut signs signs.end false rest) (is : bytes ≡ skip_blanks piece) where
  first-of : to_come ≡ whole signs bytes (segments_of signs rest)
  first-of =
      sym shown ∙ ap (entries signs) cuts ∙ entries-more signs piece (cut signs signs.end false rest) (has_pieces signs signs.end false rest).some
      ∙ ap (λ (xs : List ℕ). whole signs xs (segments_of signs rest)) (sym is)

  pub segment-comes : length bytes ≤ most_bytes → to_come ≡ Ok (elements_of signs bytes) ∷ segments_of signs rest
  segment-comes short = let fits = le-leb (length bytes) most_bytes short in first-of ∙ rw fits refl

-- signs that can serve
told-by : (text : List ℕ) (found : Option Signs) → 6 ≤ length text → found ≡ signs_told (take 6 text) → told_in text ≡ by_signs (drop 6 text) found
told-by text found long is = let six = le-leb 6 (length text) long in rw (six, is) refl

pub told-serves : (text told rest : List ℕ) (signs : Signs) → 6 ≤ length text → told ≡ take 6 text → rest ≡ drop 6 text → Some signs ≡ signs_told told
    → Ok (segments_of signs rest) ≡ told_in text
told-serves text told rest signs long is-told is-rest serves =
    sym (told-by text (Some signs) long (serves ∙ ap signs_told is-told) ∙ ap (λ (xs : List ℕ). by_signs xs (Some signs)) (sym is-rest))
