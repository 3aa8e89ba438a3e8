-- inner: what is worked in each column.
use Rattle.std.specs.Prelude.{◌≡◌, ℕ, Bool, false, ◌&&◌, ◌||◌, nat_lt, if◌then◌else◌, List, Option, Some, None}
use Rattle.std.specs.List.{list_any}
use Rattle.indexmap.specs.IndexMap.{IndexMap, get_by}
use Rattle.qc_ship.specs.Cells.{CellView}
use Rattle.qc_changes.specs.declared.column.Column.{Column}
use Rattle.qc_changes.specs.Over.{is_in_column, same_column}

-- the lowest tier of each column that is worked
abbrev pub known : {S : Type 0} → IndexMap Column ℕ S → Column → Option ℕ
known floors column = get_by (same_column column) floors

abbrev pub lower : Option ℕ → ℕ → ℕ
lower None tier = tier
lower (Some lowest) tier = if nat_lt lowest tier then lowest else tier

-- a lower tier is worked
abbrev pub is_lower : Option ℕ → ℕ → Bool
is_lower None tier = false
is_lower (Some lowest) tier = nat_lt lowest tier

-- just what is worked in one more column, at a tier, is known besides
abbrev pub KnowsMore : (before after : Column → Option ℕ) → Column → ℕ → Type 0
KnowsMore before after column tier = (other : Column) (high : ℕ)
    → is_lower (after other) high ≡ is_lower (before other) high || same_column other column && nat_lt tier high

-- just these cells are worked
abbrev pub IsFloor : (Column → Option ℕ) → List CellView → Type 0
IsFloor lowest cells = (column : Column) (high : ℕ)
    → is_lower (lowest column) high ≡ list_any (λ cell. nat_lt cell.tier high && is_in_column column cell) cells
