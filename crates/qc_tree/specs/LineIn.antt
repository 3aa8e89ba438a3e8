-- public: which line a text is, if any, as a value.
use Rattle.std.specs.Prelude.{ℕ, ◌^◌, Bool, true, ◌&&◌, ◌==◌, nat_lt, nat_le, if◌then◌else◌, List, [], map, length, get_or, drop, Option, None, Some, codes, bytes_eq}
use Rattle.std.specs.List.{list_all, slice_split}
use Rattle.std.specs.Str.Parse.{digits_value}
use Rattle.qc_num.specs.declared.bound.Bound.{Bound}
use Rattle.qc_num.specs.declared.bound.Bound.TheVariants.{Least, Never}
use Rattle.qc_tree.specs.declared.line.Line.{Line}
use Rattle.qc_tree.specs.declared.line.Line.TheVariants.{Title, FreeTitle, Up, Down, Assign, Order, Chain, Ring, Reach, Work, Clash, End}
use Rattle.qc_tree.specs.Lines.{line_text}

-- a line with its list
pub record Listed : Type 0 where
  pub line : Line
  pub list : List ℕ

abbrev pub alone : Line → Listed
alone line = record { line = line; list = [] }

-- the words of a text, which single spaces part
abbrev pub words : List ℕ → List (List ℕ)
words = slice_split (λ b. b == 32)

abbrev pub is_word : List (List ℕ) → ℕ → List ℕ → Bool
is_word ws i word = bytes_eq (get_or ws i []) word

-- the number of a word that is one
abbrev pub number_at : List (List ℕ) → ℕ → ℕ
number_at ws i = digits_value 10 (get_or ws i [])

-- the only line that these words can be, if they are one: by the first word, with the numbers of the others
abbrev pub candidate : List (List ℕ) → Listed
candidate ws =
    if is_word ws 0 (codes "QCTREE") then alone Title
    else if is_word ws 0 (codes "QCFREE") then alone FreeTitle
    else if is_word ws 0 (codes "up") then alone Up
    else if is_word ws 0 (codes "down") then alone Down
    else if is_word ws 0 (codes "X") then alone Reach
    else if is_word ws 0 (codes "A") then alone (Assign (number_at ws 1))
    else if is_word ws 0 (codes "O") then alone (Order (number_at ws 1) (number_at ws 2))
    else if is_word ws 0 (codes "W") then alone (Work (number_at ws 1))
    else if is_word ws 0 (codes "P") then record { line = Chain; list = map (digits_value 10) (drop 1 ws) }
    else if is_word ws 0 (codes "C") then record { line = Ring; list = map (digits_value 10) (drop 1 ws) }
    else if is_word ws 0 (codes "Q") then record { line = Clash; list = map (digits_value 10) (drop 1 ws) }
    else alone (End (number_at ws 1) (if is_word ws 2 (codes "never") then Never else Least (number_at ws 2)))

abbrev pub is_task : ℕ → Bool
is_task i = nat_lt i (10 ^ 4)

abbrev pub are_tasks : List ℕ → Bool
are_tasks list = nat_le (length list) 240 && list_all is_task list

abbrev pub is_value : Bound → Bool
is_value (Least x) = nat_lt x (10 ^ 15)
is_value Never = true

-- the numbers of the line are in their ranges
abbrev pub in_range : Line → List ℕ → Bool
in_range (Assign i) list = is_task i
in_range (Order i j) list = is_task i && is_task j
in_range Chain list = are_tasks list
in_range Ring list = nat_le 2 (length list) && are_tasks list
in_range Clash list = nat_le 1 (length list) && are_tasks list
in_range (Work v) list = nat_le 1 v && nat_lt v (10 ^ 15)
in_range (End b x) list = nat_lt b (10 ^ 7) && is_value x
in_range line list = true

-- the text is the candidate as it is written
abbrev pub is_written : List ℕ → Listed → Bool
is_written text seen = bytes_eq (line_text seen.line seen.list) text && in_range seen.line seen.list

-- the line and list whose text this is; none where it is no line's
abbrev pub line_in : List ℕ → Option Listed
line_in text = if is_written text (candidate (words text)) then Some (candidate (words text)) else None
