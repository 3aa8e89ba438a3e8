-- inner: what is written line by line.
use Rattle.std.specs.Prelude.{◌≡◌, ℕ, ◌++◌, ◌∷◌, [], List}

-- the bytes end with a line feed
pub record EndsLine (bytes : List ℕ) : Type 0 where
  pub line : List ℕ
  pub ended : bytes ≡ line ++ 10 ∷ []
