-- A text that is cut, piece by piece.
use Rattle.std.proofs.Common.{◌≡◌, ◌∙◌, ◌+◌, ◌-◌, ◌<◌, ◌≤◌, ◌++◌, ◌∷◌, ◌&&◌, ℕ, List, [], length, take, drop, get_or, not, Bool, true, false, refl, sym, ap, zero, suc, arith, rules, append-nil}
use Rattle.std.specs.List.{onto_first}
use Rattle.std.proofs.lemmas.List.{at_drop_all, at_drop_more, take_all, take_more}
use Rattle.qc_edifact.specs.Signs.{is_release}
use Rattle.qc_edifact.specs.Cuts.{cut, ends_piece, piece_of}
use Rattle.qc_edifact.specs.declared.signs.Signs.{Signs}

-- bytes put ahead of the first of these pieces
abbrev pub onto_front : List ℕ → List (List ℕ) → List (List ℕ)
onto_front [] pieces = pieces
onto_front (b ∷ bs) pieces = onto_first b (onto_front bs pieces)

pub onto_front-push : (front : List ℕ) (b : ℕ) (pieces : List (List ℕ)) → onto_front (front ++ b ∷ []) pieces ≡ onto_front front (onto_first b pieces)
onto_front-push [] b pieces = refl
onto_front-push (x ∷ front) b pieces = ap (onto_first x) (onto_front-push front b pieces)

pub onto_front-first : (front first : List ℕ) (pieces : List (List ℕ)) → onto_front front (first ∷ pieces) ≡ (front ++ first) ∷ pieces
onto_front-first [] first pieces = refl
onto_front-first (x ∷ front) first pieces = ap (onto_first x) (onto_front-first front first pieces)

-- a byte that doesn't cut, and one that does
cut-on : (signs : Signs) (sign : ℕ) (taken : Bool) (b : ℕ) (bs : List ℕ) → ends_piece sign taken b ≡ false
    → cut signs sign taken (b ∷ bs) ≡ onto_first b (cut signs sign (not taken && is_release signs b) bs)
cut-on signs sign true b bs e = refl
cut-on signs sign false b bs e = rw e refl

cut-here : (signs : Signs) (sign : ℕ) (taken : Bool) (b : ℕ) (bs : List ℕ) → ends_piece sign taken b ≡ true
    → cut signs sign taken (b ∷ bs) ≡ [] ∷ cut signs sign false bs
cut-here signs sign true b bs e = cc e
cut-here signs sign false b bs e = rw e refl

-- the first bytes of a text don't cut it
module _ (signs : Signs) (sign : ℕ) (text : List ℕ) (at : ℕ) (taken : Bool) (within : at < length text)
    (so_far : cut signs sign false text ≡ onto_front (take at text) (cut signs sign taken (drop at text))) where
  turn : cut signs sign false text ≡ onto_front (take at text) (cut signs sign taken (get_or text at 0 ∷ drop (at + 1) text))
  turn = so_far ∙ at_drop_more (λ (xs : List ℕ). onto_front (take at text) (cut signs sign taken xs)) text at 0 within

  -- nor does the next one
  pub goes_on : ends_piece sign taken (get_or text at 0) ≡ false → cut signs sign false text
      ≡ onto_front (take (at + 1) text) (cut signs sign (not taken && is_release signs (get_or text at 0)) (drop (at + 1) text))
  goes_on e =
      let rest = cut signs sign (not taken && is_release signs (get_or text at 0)) (drop (at + 1) text) in
      turn ∙ ap (onto_front (take at text)) (cut-on signs sign taken (get_or text at 0) (drop (at + 1) text) e)
      ∙ sym (onto_front-push (take at text) (get_or text at 0) rest)
      ∙ ap (λ (xs : List ℕ). onto_front xs rest) (sym (take_more text at 0 within))

  -- but the next one does
  pub cuts_off : (piece rest : List ℕ) → piece ≡ take at text → rest ≡ drop (at + 1) text → ends_piece sign taken (get_or text at 0) ≡ true
      → cut signs sign false text ≡ piece ∷ cut signs sign false rest
  cuts_off piece rest is-piece is-rest e =
      turn ∙ ap (onto_front (take at text)) (cut-here signs sign taken (get_or text at 0) (drop (at + 1) text) e)
      ∙ onto_front-first (take at text) [] (cut signs sign false (drop (at + 1) text))
      ∙ rw (is-piece, is-rest) (simp append-nil)

-- none of its bytes cuts a text
pub never_cut : (signs : Signs) (sign : ℕ) (text : List ℕ) (at : ℕ) (taken : Bool) → length text ≤ at
    → cut signs sign false text ≡ onto_front (take at text) (cut signs sign taken (drop at text)) → cut signs sign false text ≡ text ∷ []
never_cut signs sign text at taken past so_far =
    let whole : take at text ≡ text = search (take_all, rules) in
    so_far ∙ at_drop_all (λ (xs : List ℕ). onto_front (take at text) (cut signs sign taken xs)) text at past
    ∙ onto_front-first (take at text) [] [] ∙ rw whole (simp append-nil)

-- a later piece of a text is a piece of what is behind its first cut
pub piece_behind : (signs : Signs) (sign : ℕ) (text rest first : List ℕ) (number : ℕ) → 0 < number
    → cut signs sign false text ≡ first ∷ cut signs sign false rest → piece_of signs sign text number ≡ piece_of signs sign rest (number - 1)
piece_behind signs sign text rest first zero more e = absurd (omega arith)
piece_behind signs sign text rest first (suc n) more e =
    let before : suc n - 1 ≡ n = omega arith in
    rw before (ap (λ (xs : List (List ℕ)). get_or xs (suc n) []) e)
