-- A text with the part of one number more.
use Rattle.std.proofs.Common.{◌≡◌, ℕ, ◌+◌, List, [], ◌∷◌, ◌++◌, ap, sym, ◌∙◌, append_assoc, append-nil}
use Rattle.std.specs.List.{flat_map, range_with_len}
use Rattle.std.proofs.lemmas.List.Concat.{flat_map-append}
use Rattle.qc_tasks.proofs.Loops.{range_more}

pub parts_more : (f : ℕ → List ℕ) (n m : ℕ) → m ≡ n + 1
    → flat_map f (range_with_len 0 m) ≡ flat_map f (range_with_len 0 n) ++ f n
parts_more f n m e =
    ap (flat_map f) (range_more n m e) ∙ flat_map-append f (range_with_len 0 n) (n ∷ [])
    ∙ ap (λ (t : List ℕ). flat_map f (range_with_len 0 n) ++ t) (append-nil (f n))

-- the text so far, with a piece behind it that is the next part
pub page_more : (f : ℕ → List ℕ) (n m : ℕ) (before now next piece : List ℕ) → m ≡ n + 1
    → now ≡ before ++ flat_map f (range_with_len 0 n) → next ≡ now ++ piece → piece ≡ f n
    → next ≡ before ++ flat_map f (range_with_len 0 m)
page_more f n m before now next piece e so_far more is =
    let parts = flat_map f (range_with_len 0 n) in
    more ∙ ap (λ (t : List ℕ). t ++ piece) so_far ∙ append_assoc before parts piece
    ∙ ap (λ (t : List ℕ). before ++ (parts ++ t)) is
    ∙ ap (λ (t : List ℕ). before ++ t) (sym (parts_more f n m e))
