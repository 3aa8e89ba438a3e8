-- public: what is left of a text that is read line by line; a line and its line feed have at most so many bytes.
use Rattle.std.specs.Prelude.{◌≡◌, ◌≢◌, ℕ, ◌<◌, ◌≤◌, List, [], ◌∷◌, ◌++◌, ◌+◌, length, take, drop, All, Option}
use Rattle.std.specs.Io.KnownBytes.{prepend_known}

-- no byte is a line feed
abbrev pub NoFeed : List ℕ → Type 0
NoFeed = All (λ b. b ≢ 10)

-- the next bytes, as many as a line can have, have no line feed
abbrev pub IsTooLong : ℕ → List ℕ → Type 0
IsTooLong most left = (most ≤ length left) × NoFeed (take most left)

-- fewer bytes are left than a line can have, at least one, and none is a line feed
abbrev pub IsCut : ℕ → List ℕ → Type 0
IsCut most left = (0 < length left) × (length left < most) × NoFeed left

-- the line and its line feed were taken off the front of what was left
pub record Takes (most : ℕ) (before : Option (List ℕ)) (line : List ℕ) (after : Option (List ℕ)) : Type 0 where
  pub taken : before ≡ prepend_known (line ++ 10 ∷ []) after
  pub short : length line < most
  pub unbroken : NoFeed line

-- the bytes held begin with a line of this length and its line feed
pub record HoldsLine (most : ℕ) (held : List ℕ) (len : ℕ) : Type 0 where
  pub inside : len < length held
  pub whole : held ≡ take len held ++ 10 ∷ drop (len + 1) held
  pub short : len < most
  pub unbroken : NoFeed (take len held)
