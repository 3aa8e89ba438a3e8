-- Names that differ, each from all behind it.
use Rattle.std.proofs.Common.{◌≡◌, ◌∙◌, Bool, not, ◌&&◌, ℕ, ◌<◌, ◌+◌, ◌-◌, length, take, drop, get_or, map, List, Option, option_map, ap, sym}
use Rattle.std.specs.Borrow.{Bor}
use Rattle.std.specs.List.{list_any}
use Rattle.std.proofs.Math.Seq.{take-length}
use Rattle.std.proofs.lemmas.List.{drop_more, length-drop}
use Rattle.clap.proofs.WalkLemmas.{list_any-map}
use Rattle.qc_words.specs.Asked.{are_different, is_same}

-- the text of a name that is there
abbrev pub name_text : Option (Bor (List ℕ)) → Option (List ℕ)
name_text name = option_map (λ text. text.now) name

-- the names from one on differ where it is none of those behind it, and these differ
pub differ_from : (names : List (Option (Bor (List ℕ)))) (i : ℕ) (d : Option (Bor (List ℕ))) (b : Bool) → i < length names
    → b ≡ list_any (λ other. is_same (name_text (get_or names i d)) (name_text other)) (take (length names - (i + 1)) (drop (i + 1) names))
    → are_different (map name_text (drop i names)) ≡ (not b && are_different (map name_text (drop (i + 1) names)))
differ_from names i d b lt is =
    let this : Option (List ℕ) = name_text (get_or names i d) in
    let behind : List (Option (Bor (List ℕ))) = drop (i + 1) names in
    let whole : take (length names - (i + 1)) behind ≡ behind =
    ap (λ n. take n behind) (sym (length-drop (i + 1) names)) ∙ take-length behind in
    ap (λ others. are_different (map name_text others)) (drop_more names i d lt)
    ∙ ap (λ any. not any && are_different (map name_text behind))
    (sym (is ∙ ap (list_any (λ other. is_same this (name_text other))) whole ∙ list_any-map (is_same this) name_text behind))
