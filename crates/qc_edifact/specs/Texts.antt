-- public: the text of a file.
use Rattle.std.specs.Prelude.{ℕ, List, [], ◌∷◌, take, drop, filter, Bool, not, ◌&&◌, ◌==◌, nat_lt, if◌then◌else◌, Option, None, Some, position}
use Rattle.std.specs.Str.{bytes_eq}

-- the byte-order mark of UTF-8
abbrev pub mark : List ℕ
mark = 0xEF ∷ 0xBB ∷ 0xBF ∷ []

-- the bytes behind a byte-order mark, if there is one
abbrev pub without_mark : List ℕ → List ℕ
without_mark bytes = if bytes_eq (take 3 bytes) mark then drop 3 bytes else bytes

-- the text: all of these bytes but carriage returns and line feeds
abbrev pub plain_text : List ℕ → List ℕ
plain_text bytes = filter (λ b. not (b == 0x0D) && not (b == 0x0A)) (without_mark bytes)

-- a text from a place on, if there is one
abbrev pub from_place : List ℕ → Option ℕ → List ℕ
from_place text None = []
from_place text (Some start) = drop start text

-- no blank, line end or other control character
abbrev pub is_above_blank : ℕ → Bool
is_above_blank b = nat_lt 0x20 b

-- a text from its first byte above 20 on
abbrev pub skip_blanks : List ℕ → List ℕ
skip_blanks text = from_place text (position is_above_blank text)
