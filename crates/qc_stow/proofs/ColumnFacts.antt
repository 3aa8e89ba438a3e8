-- How the places of a name follow from the fields one by one.
use Rattle.std.proofs.Common.{◌≡◌, ◌<◌, ◌+◌, ◌∷◌, ℕ, List, [], drop, length, true, false, Err, Option, Some, None, refl}
use Rattle.std.proofs.lemmas.List.{drop_more}
use Rattle.qc_lines.specs.Records.{field_of}
use Rattle.qc_stow.specs.Columns.{is_named, only_place, places_of}
use Rattle.qc_stow.specs.declared.fault.StowKind.TheVariants as kind

-- the places with one found ahead of them, if there is one
abbrev pub found_with : Option ℕ → List ℕ → List ℕ
found_with None rest = rest
found_with (Some k) rest = k ∷ rest

module _ (name : List ℕ) (fields : List (List ℕ)) (at : ℕ) (within : at < length fields) where
  -- a field that isn't the name, and one that is
  pub places_other : is_named name (field_of fields at) ≡ false → places_of name at (drop at fields) ≡ places_of name (at + 1) (drop (at + 1) fields)
  places_other other = rw (drop_more fields at [] within, other) refl

  pub places_named : is_named name (field_of fields at) ≡ true → places_of name at (drop at fields) ≡ at ∷ places_of name (at + 1) (drop (at + 1) fields)
  places_named named = rw (drop_more fields at [] within, named) refl

  -- a second one
  pub places_twice : (k : ℕ) → is_named name (field_of fields at) ≡ true → only_place (found_with (Some k) (places_of name at (drop at fields))) ≡ Err kind.Header
  places_twice k named = rw (places_named named) refl
