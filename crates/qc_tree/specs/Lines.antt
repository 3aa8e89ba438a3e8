-- public: the lines of a tree's text.
use Rattle.std.specs.Prelude.{◌≡◌, ℕ, ◌≤◌, ◌<◌, ◌^◌, List, [], ◌∷◌, ◌++◌, length, All, Result, MatchResult, codes, decimal}
use Rattle.std.specs.List.{flat_map}
use Rattle.qc_num.specs.declared.bound.Bound.{Bound}
use Rattle.qc_num.specs.declared.bound.Bound.TheVariants.{Least, Never}
use Rattle.qc_tree.specs.declared.line.Line.{Line}
use Rattle.qc_tree.specs.declared.line.Line.TheVariants.{Title, FreeTitle, Up, Down, Assign, Order, Chain, Ring, Reach, Work, Clash, End}
use Rattle.qc_tree.specs.declared.line.BadLine.{BadLine}

-- the most bytes of a line with its line feed
abbrev pub most_bytes : ℕ
most_bytes = 1200

-- numbers in plain decimal, each after one space
abbrev pub fields : List ℕ → List ℕ
fields = flat_map (λ n. 32 ∷ decimal n)

-- the value of a tree, after one space
abbrev pub bound_field : Bound → List ℕ
bound_field (Least x) = fields (x ∷ [])
bound_field Never = codes " never"

-- the text of a line, without its line feed; the path is the list of a chain, a ring or packed tasks
abbrev pub line_text : Line → List ℕ → List ℕ
line_text Title path = codes "QCTREE 3"
line_text FreeTitle path = codes "QCFREE 1"
line_text Up path = codes "up"
line_text Down path = codes "down"
line_text (Assign i) path = codes "A" ++ fields (i ∷ [])
line_text (Order i j) path = codes "O" ++ fields (i ∷ j ∷ [])
line_text Chain path = codes "P" ++ fields path
line_text Ring path = codes "C" ++ fields path
line_text Reach path = codes "X"
line_text (Work v) path = codes "W" ++ fields (v ∷ [])
line_text Clash path = codes "Q" ++ fields path
line_text (End b x) path = codes "end " ++ (decimal b ++ bound_field x)

-- a task's number has at most four digits
abbrev pub IsTask : ℕ → Type 0
IsTask i = i < 10 ^ 4

-- at most 240 tasks
abbrev pub AreTasks : List ℕ → Type 0
AreTasks path = (length path ≤ 240) × All IsTask path

-- a tree's value has at most 15 digits
abbrev pub IsValue : Bound → Type 0
IsValue (Least x) = x < 10 ^ 15
IsValue Never = Unit {0}

-- the numbers of the line are in their ranges
abbrev pub IsLine : Line → List ℕ → Type 0
IsLine Title path = Unit {0}
IsLine FreeTitle path = Unit {0}
IsLine Up path = Unit {0}
IsLine Down path = Unit {0}
IsLine (Assign i) path = IsTask i
IsLine (Order i j) path = IsTask i × IsTask j
IsLine Chain path = AreTasks path
IsLine Ring path = (2 ≤ length path) × AreTasks path
IsLine Reach path = Unit {0}
IsLine (Work v) path = (1 ≤ v) × (v < 10 ^ 15)
IsLine Clash path = (1 ≤ length path) × AreTasks path
IsLine (End b x) path = (b < 10 ^ 7) × IsValue x

-- the list of a line: only a chain, a ring and packed tasks have one
abbrev pub line_list : Line → List ℕ → List ℕ
line_list Chain path = path
line_list Ring path = path
line_list Clash path = path
line_list line path = []

-- the text is this line, with this list; there is at most one such line and list
pub record IsTextOf (text : List ℕ) (line : Line) (path : List ℕ) : Type 0 where
  pub same : text ≡ line_text line path
  pub in_range : IsLine line path
  pub list : path ≡ line_list line path

-- the reading of a text: the line that it is, with the path left as the line's list, or that it is none
abbrev pub Reads : List ℕ → List ℕ → Result Line BadLine → Type 0
Reads text path result = MatchResult result (λ line. IsTextOf text line path)
    (λ _. (line : Line) (list : List ℕ) → ¬ (IsTextOf text line list))
