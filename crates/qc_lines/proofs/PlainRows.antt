-- The line of a record whose fields call for no quotes.
use Rattle.std.proofs.Common.{◌≡◌, ℕ, List, [], ◌∷◌, ◌++◌, Bool, true, false, codes, refl, append_assoc, append-nil}
use Rattle.std.specs.List.{list_all, list_any}
use Rattle.std.proofs.lemmas.Bool.{and_parts}
use Rattle.csv.specs.Writing.{default_writer, fields_text, is_blank, needs_byte, row_text}

-- bytes that pass a test call for no quotes where no such byte does
pub none_special : (p : ℕ → Bool) → ((b : ℕ) → p b ≡ true → needs_byte default_writer b ≡ false) → (xs : List ℕ) → list_all p xs ≡ true → list_any (needs_byte default_writer) xs ≡ false
none_special p plain [] all = refl
none_special p plain (b ∷ xs) all =
    let both = and_parts (p b) (list_all p xs) all in
    rw (plain b both.0, none_special p plain xs both.1) refl

-- the text of a record of four such fields
pub four_fields : (a b c d : List ℕ) → list_any (needs_byte default_writer) a ≡ false → list_any (needs_byte default_writer) b ≡ false → list_any (needs_byte default_writer) c ≡ false → list_any (needs_byte default_writer) d ≡ false
    → row_text default_writer (a ∷ b ∷ c ∷ d ∷ []) ≡ a ++ codes "," ++ b ++ codes "," ++ c ++ codes "," ++ d ++ codes "\n"
unfolding is_blank fields_text
four_fields a b c d pa pb pc pd = rw (pa, pb, pc, pd) (simp (append_assoc, append-nil))
