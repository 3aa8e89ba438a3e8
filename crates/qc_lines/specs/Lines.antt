-- public: the lines of a log.
use Rattle.std.specs.Prelude.{ℕ, List, [], ◌∷◌, take, Bool, ◌==◌, if◌then◌else◌, Option, option_map, position}
use Rattle.std.specs.List.{onto_first}

-- a line feed, which ends a line, and a space, which ends a word
abbrev pub is_feed : ℕ → Bool
is_feed b = b == 10

abbrev pub is_space : ℕ → Bool
is_space b = b == 32

-- the lines of a text, each with the line feed that ends it, which the last one may lack
abbrev pub lines_of : List ℕ → List (List ℕ)
lines_of [] = []
lines_of (b ∷ bs) = if is_feed b then (b ∷ []) ∷ lines_of bs else onto_first b (lines_of bs)

-- what a line holds ahead of its line feed, where it has one
abbrev pub ended : List ℕ → Option (List ℕ)
ended line = option_map (λ end. take end line) (position is_feed line)
