-- Pieces put behind bytes and taken off their front, one after another.
use Rattle.std.proofs.Common.{◌≡◌, ℕ, ◌+◌, ◌≤◌, ◌++◌, List, length, take, drop, Option, None, Some, refl, sym, ap, ◌∙◌, append_assoc, append-nil, length-append, [], arith, IfSome, Result, Ok, Err, OnErr}
use Rattle.std.proofs.Math.Seq.{take-add, take-append-add}
use Rattle.std.proofs.lemmas.List.{take-append-le}
use Rattle.std.specs.Io.KnownBytes.{append_known, prepend_known}
use Rattle.qc_io.specs.Outside.{Files, file_at, IsMissing, IsFile, TakesAtMost, GrewByPart}

-- two pieces before the bytes are one
pub prepend_known-append : (first second : List ℕ) (rest : Option (List ℕ)) → prepend_known first (prepend_known second rest) ≡ prepend_known (first ++ second) rest
prepend_known-append first second None = refl
prepend_known-append first second (Some bytes) = ap Some (sym (append_assoc first second bytes))

-- two pieces behind the bytes are one
pub append_known-append : (bytes : Option (List ℕ)) (first second : List ℕ) → append_known (append_known bytes first) second ≡ append_known bytes (first ++ second)
append_known-append None first second = refl
append_known-append (Some bytes) first second = ap Some (append_assoc bytes first second)

-- a further piece that comes off the front is taken too
pub takes_more :
    (most : ℕ) (had piece : List ℕ) (before after : Option (List ℕ))
    → before ≡ prepend_known piece after → length had + length piece ≤ most
    → TakesAtMost most (prepend_known had before) after
takes_more most had piece before after moved fits = record {
  taken = had ++ piece;
  short = omega (arith, length-append had piece);
  split = ap (prepend_known had) moved ∙ prepend_known-append had piece after;
}

-- the next part of a text behind its front is the longer front
pub append_known-take :
    (bytes : Option (List ℕ)) (text : List ℕ) (done count : ℕ)
    → append_known (append_known bytes (take done text)) (take count (drop done text)) ≡ append_known bytes (take (done + count) text)
append_known-take bytes text done count =
    append_known-append bytes (take done text) (take count (drop done text)) ∙ ap (append_known bytes) (sym (take-add done count text))

-- what was read of a file that isn't missing, with nothing left, is the file
pub whole_at_end :
    (files : Option Files) (name bytes : List ℕ) (rest : Option (List ℕ))
    → (IsMissing files name → ⊥) → prepend_known bytes rest ≡ file_at files name → IfSome rest (λ left. left ≡ [])
    → IsFile files name bytes
whole_at_end None name bytes rest held whole ended = tt
whole_at_end (Some files) name bytes None held whole ended = absurd (held (sym whole))
whole_at_end (Some files) name bytes (Some left) held whole ended =
    sym whole ∙ ap (λ rest. Some (bytes ++ rest)) ended ∙ ap Some (append-nil bytes)

-- a part of the first piece is a part of both
pub part_of_first :
    (before after : Option (List ℕ)) (first second : List ℕ)
    → GrewByPart before after first → GrewByPart before after (first ++ second)
part_of_first before after first second part = record {
  count = part.count;
  short = omega (arith, length-append first second, part.short);
  grew = part.grew ∙ ap (append_known before) (sym (take-append-le part.count first second (omega (arith, part.short))));
}

-- the whole first piece and a part of the second are a part of both
pub part_of_second :
    (before between after : Option (List ℕ)) (first second : List ℕ)
    → between ≡ append_known before first → GrewByPart between after second → GrewByPart before after (first ++ second)
part_of_second before between after first second whole part = record {
  count = length first + part.count;
  short = omega (arith, length-append first second, part.short);
  grew =
      part.grew ∙ ap (λ w. append_known w (take part.count second)) whole ∙ append_known-append before first (take part.count second)
      ∙ ap (append_known before) (sym (take-append-add first second part.count));
}

-- two pieces written one after the other are both there
pub whole_pair :
    (before between after : Option (List ℕ)) (first second : List ℕ)
    → between ≡ append_known before first → after ≡ append_known between second → after ≡ append_known before (first ++ second)
whole_pair before between after first second whole more =
    more ∙ ap (λ w. append_known w second) whole ∙ append_known-append before first second

-- what holds at any result holds at an error
pub on_err : {T E P : Type 0} (r : Result T E) → P → OnErr r P
on_err (Ok x) p = tt
on_err (Err e) p = p
