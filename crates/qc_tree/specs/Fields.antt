-- inner: what the steps of a reading say: numbers at the front of a text, and lines without numbers.
use Rattle.std.specs.Prelude.{◌≡◌, ℕ, ◌<◌, ◌^◌, List, [], ◌∷◌, ◌++◌, All, false, decimal}
use Rattle.qc_tree.specs.Lines.{line_text}
use Rattle.qc_tree.specs.declared.line.Line.TheVariants.{Title, FreeTitle, Up, Down, Reach}
use Rattle.std.specs.Char.{is_ascii_digit}

-- no digit is first
abbrev pub EndsDigits : List ℕ → Type 0
EndsDigits [] = Unit {0}
EndsDigits (c ∷ cs) = is_ascii_digit c ≡ false

-- the text is a space, this number of at most so many digits, and then this rest
pub record IsField (text : List ℕ) (most n : ℕ) (rest : List ℕ) : Type 0 where
  pub small : n < 10 ^ most
  pub same : text ≡ 32 ∷ (decimal n ++ rest)
  pub ends : EndsDigits rest

-- the text begins with no such number
abbrev pub NoField : List ℕ → ℕ → Type 0
NoField text most = (n : ℕ) (rest : List ℕ) → ¬ (IsField text most n rest)

-- the text is no title
abbrev pub IsNoTitle : List ℕ → Type 0
IsNoTitle text = All (λ line. ¬ (text ≡ line_text line [])) (Title ∷ FreeTitle ∷ [])

-- the text is no other line without numbers
abbrev pub IsNoWord : List ℕ → Type 0
IsNoWord text = All (λ line. ¬ (text ≡ line_text line [])) (Up ∷ Down ∷ Reach ∷ [])
