-- public: the columns of a stowage list, as its header names them.
use Rattle.std.specs.Prelude.{ℕ, List, [], ◌∷◌, ◌+◌, length, take, drop, Bool, ◌&&◌, ◌==◌, nat_le, if◌then◌else◌, Result, Ok, Err, codes}
use Rattle.std.specs.List.{list_all}
use Rattle.std.specs.Str.{str_eq_ignore_ascii_case}
use Rattle.qc_num.specs.Reading.{◌>>=◌}
use Rattle.qc_stow.specs.declared.columns.Columns.{Columns}
use Rattle.qc_stow.specs.declared.fault.StowKind.{StowKind}
use Rattle.qc_stow.specs.declared.fault.StowKind.TheVariants as kind

-- a text without the blanks ahead of it
abbrev pub without_blanks : List ℕ → List ℕ
without_blanks [] = []
without_blanks (b ∷ text) = if b == 0x20 then without_blanks text else b ∷ text

-- a text that is this name, in small or in capital letters, and then blanks
abbrev pub begins_named : List ℕ → List ℕ → Bool
begins_named name text =
    nat_le (length name) (length text) && str_eq_ignore_ascii_case (take (length name) text) name
    && list_all (λ b. b == 0x20) (drop (length name) text)

-- a field that is this name, with blanks or none at both ends
abbrev pub is_named : List ℕ → List ℕ → Bool
is_named name field = begins_named name (without_blanks field)

-- the places of the fields that are this name, where the first field has this place
abbrev pub places_of : List ℕ → ℕ → List (List ℕ) → List ℕ
places_of name at [] = []
places_of name at (field ∷ fields) =
    if is_named name field then at ∷ places_of name (at + 1) fields else places_of name (at + 1) fields

-- the one place, where there is one
abbrev pub only_place : List ℕ → Result ℕ StowKind
only_place [] = Err kind.Header
only_place (at ∷ []) = Ok at
only_place (at ∷ more ∷ others) = Err kind.Header

-- the column of a name, which exactly one field of the header is
abbrev pub column_of : List (List ℕ) → List ℕ → Result ℕ StowKind
column_of header name = only_place (places_of name 0 header)

-- the columns of a header: those of the four values, and how many there are
abbrev pub columns_in : List (List ℕ) → Result Columns StowKind
columns_in header = do
  id ← column_of header (codes "id")
  kind ← column_of header (codes "move")
  cell ← column_of header (codes "cell")
  size ← column_of header (codes "length")
  Ok (record { id = id; kind = kind; cell = cell; length = size; all = length header })
