-- What is known of each column says what is over worked cells.
use Rattle.std.proofs.Common.{◌≡◌, ◌≢◌, ◌∙◌, ◌⊎◌, ◌++◌, ◌∷◌, [], ℕ, zero, suc, ◌==◌, ◌%◌, Bool, true, false, cond, ◌&&◌, ◌||◌, nat_lt, List, map, Option, Some, None, refl, sym, ap, inl, inr, subst, arith}
use Rattle.std.specs.Bool.{beq}
use Rattle.std.specs.Cmp.{booleans_Decides}
use Rattle.std.specs.Map.{lookup}
use Rattle.std.specs.List.{list_any}
use Rattle.std.proofs.lemmas.Bool.{and_parts, cases_Bool, cases_lt, eqb-true, le-ltb, lt-ltb}
use Rattle.std.proofs.lemmas.List.Folds.{list_any-append}
use Rattle.qc_ship.specs.Cells.{CellView, slots}
use Rattle.qc_changes.specs.declared.column.Column.{Column}
use Rattle.qc_changes.specs.Over.{column_at, columns, is_in_column, is_over, is_over_any, same_column}
use Rattle.qc_changes.specs.Floors.{IsFloor, KnowsMore, is_lower, lower}
use Rattle.qc_changes.proofs.Any.{any_agree, any_either}
use Rattle.qc_changes.proofs.Elements.{each_of}
use Rattle.qc_changes.proofs.LeadLemmas.{eqb_sym}

beq_sym : (a b : Bool) → beq a b ≡ beq b a
beq_sym true true = refl
beq_sym true false = refl
beq_sym false true = refl
beq_sym false false = refl

column_sym : (a b : Column) → same_column a b ≡ same_column b a
column_sym a b = rw (eqb_sym a.bay b.bay, eqb_sym a.row b.row, beq_sym a.on_deck b.on_deck) refl

same_columns : (a b : Column) → same_column a b ≡ true → a ≡ b
same_columns a b h =
    let (front, deck) = and_parts ((a.bay == b.bay) && (a.row == b.row)) (beq a.on_deck b.on_deck) h in
    let (bay, row) = and_parts (a.bay == b.bay) (a.row == b.row) front in
    parts a b (eqb-true a.bay b.bay bay) (eqb-true a.row b.row row) ((booleans_Decides a.on_deck b.on_deck).0 deck)
  where
    parts : (a b : Column) → a.bay ≡ b.bay → a.row ≡ b.row → a.on_deck ≡ b.on_deck → a ≡ b
    parts a b p q r =
        ap (λ (n : ℕ). let it : Column = record { bay = n; row = a.row; on_deck = a.on_deck } in it) p
        ∙ ap (λ (n : ℕ). let it : Column = record { bay = b.bay; row = n; on_deck = a.on_deck } in it) q
        ∙ ap (λ (d : Bool). let it : Column = record { bay = b.bay; row = b.row; on_deck = d } in it) r

lower_is : (o : Option ℕ) (tier high : ℕ) → is_lower (Some (lower o tier)) high ≡ (is_lower o high || nat_lt tier high)
lower_is None tier high = refl
lower_is (Some low) tier high = elim (cases_lt low tier) [
  | inl under ↦ rw (lt-ltb low tier under) (elim (cases_lt low high) [
    | inl holds ↦ rw (lt-ltb low high holds) refl
    | inr fails ↦ rw (le-ltb low high fails, le-ltb tier high (omega arith)) refl
  ])
  | inr over ↦ rw (le-ltb low tier over) (elim (cases_lt tier high) [
    | inl holds ↦ rw (lt-ltb tier high holds) (or_true (nat_lt low high))
    | inr fails ↦ rw (le-ltb tier high fails, le-ltb low high (omega arith)) refl
  ])
]
  where
    or_true : (b : Bool) → true ≡ (b || true)
    or_true true = refl
    or_true false = refl

-- one column is written anew, with its lowest tier or a lower one
pub knows_more : (before after : Column → Option ℕ) (column : Column) (tier : ℕ)
    → ((other : Column) → after other ≡ cond (same_column column other) (Some (lower (before column) tier)) (before other))
    → KnowsMore before after column tier
knows_more before after column tier told other high = elim (cases_Bool (same_column column other)) [
  | inl same ↦
      let step : after other ≡ Some (lower (before column) tier) = told other ∙ ap (λ b. cond b (Some (lower (before column) tier)) (before other)) same in
      ap (λ (o : Option ℕ). is_lower o high) step ∙ lower_is (before column) tier high
      ∙ ap (λ (k : Column). is_lower (before k) high || nat_lt tier high) (same_columns column other same)
      ∙ ap (λ b. is_lower (before other) high || (b && nat_lt tier high)) (sym (column_sym other column ∙ same))
  | inr differ ↦
      let step : after other ≡ before other = told other ∙ ap (λ b. cond b (Some (lower (before column) tier)) (before other)) differ in
      ap (λ (o : Option ℕ). is_lower o high) step
      ∙ no_more (is_lower (before other) high) (nat_lt tier high)
      ∙ ap (λ b. is_lower (before other) high || (b && nat_lt tier high)) (sym (column_sym other column ∙ differ))
]
  where
    no_more : (a b : Bool) → a ≡ (a || (false && b))
    no_more true b = refl
    no_more false b = refl

lookup_agree : {K X : Type 0} (p q : K → Bool) (es : List (K × X)) → ((k : K) → p k ≡ q k) → lookup p es ≡ lookup q es
lookup_agree p q [] same = refl
lookup_agree p q (e ∷ es) same = rw (same e.0, lookup_agree p q es same) refl

-- the same, of a map whose keys are told apart by another test that comes to the same
pub put_more : (eq : Column → Column → Bool) (one : Column → Bool) (es fs : List (Column × ℕ)) (column : Column) (tier low : ℕ)
    → ((other : Column) → lookup (eq other) fs ≡ cond (eq column other) (Some low) (lookup (eq other) es)) → low ≡ lower (lookup one es) tier
    → ((a b : Column) → eq a b ≡ same_column a b) → ((b : Column) → one b ≡ same_column column b)
    → KnowsMore (λ k. lookup (same_column k) es) (λ k. lookup (same_column k) fs) column tier
put_more eq one es fs column tier low told low_is same one_is =
    knows_more (λ k. lookup (same_column k) es) (λ k. lookup (same_column k) fs) column tier (λ other.
    sym (lookup_agree (eq other) (same_column other) fs (same other)) ∙ told other
    ∙ ap (λ b. cond b (Some low) (lookup (eq other) es)) (same column other)
    ∙ ap (λ (o : Option ℕ). cond (same_column column other) (Some low) o) (lookup_agree (eq other) (same_column other) es (same other))
    ∙ ap (λ (n : ℕ). cond (same_column column other) (Some n) (lookup (same_column other) es))
    (low_is ∙ ap (λ (o : Option ℕ). lower o tier) (lookup_agree one (same_column column) es one_is)))

-- the columns of a cell by its first and last bay of 20 feet
pub record Spans (cell : CellView) (first last : ℕ) : Type 0 where
  pub even : cell.bay % 2 ≡ 0 → slots cell.bay ≡ first ∷ last ∷ []
  pub odd : cell.bay % 2 ≢ 0 → (slots cell.bay ≡ first ∷ []) × (last ≡ first)

any_column : (p : Column → Bool) (cell : CellView) (first last : ℕ) → Spans cell first last
    → list_any p (columns cell) ≡ (p (column_at cell first) || p (column_at cell last))
any_column p cell first last spans = elim (parity (cell.bay % 2)) [
  | inl even ↦ ap (λ (bays : List ℕ). list_any p (map (column_at cell) bays)) (spans.even even) ∙ two (p (column_at cell first)) (p (column_at cell last))
  | inr odd ↦
      let one = spans.odd odd in
      ap (λ (bays : List ℕ). list_any p (map (column_at cell) bays)) one.0
      ∙ twice (p (column_at cell first)) ∙ ap (λ (bay : ℕ). p (column_at cell first) || p (column_at cell bay)) (sym one.1)
]
  where
    parity : (n : ℕ) → (n ≡ 0) ⊎ (n ≢ 0)
    parity zero = inl refl
    parity (suc n) = inr (λ e. absurd (omega arith))

    two : (a b : Bool) → (a || (b || false)) ≡ (a || b)
    two true b = refl
    two false true = refl
    two false false = refl

    twice : (a : Bool) → (a || false) ≡ (a || a)
    twice true = refl
    twice false = refl

-- one more cell is worked
pub floor_more : (before between after : Column → Option ℕ) (cell : CellView) (first last : ℕ) → Spans cell first last
    → KnowsMore before between (column_at cell first) cell.tier → KnowsMore between after (column_at cell last) cell.tier
    → (cells : List CellView) → IsFloor before cells → IsFloor after (cells ++ cell ∷ [])
floor_more before between after cell first last spans one two cells floor column high =
    two column high ∙ ap (λ b. b || (same_column column (column_at cell last) && nat_lt cell.tier high)) (one column high)
    ∙ ap (λ b. (b || (same_column column (column_at cell first) && nat_lt cell.tier high)) || (same_column column (column_at cell last) && nat_lt cell.tier high)) (floor column high)
    ∙ both (list_any (λ cell. nat_lt cell.tier high && is_in_column column cell) cells) (same_column column (column_at cell first)) (same_column column (column_at cell last)) (nat_lt cell.tier high)
    ∙ ap (λ b. list_any (λ (cell : CellView). nat_lt cell.tier high && is_in_column column cell) cells || ((nat_lt cell.tier high && b) || false)) (sym (any_column (same_column column) cell first last spans))
    ∙ sym (list_any-append (λ (cell : CellView). nat_lt cell.tier high && is_in_column column cell) cells (cell ∷ []))
  where
    both : (a b c d : Bool) → ((a || (b && d)) || (c && d)) ≡ (a || ((d && (b || c)) || false))
    both true b c d = refl
    both false true true true = refl
    both false true true false = refl
    both false true false true = refl
    both false true false false = refl
    both false false true true = refl
    both false false true false = refl
    both false false false true = refl
    both false false false false = refl

-- a cell is over a worked one where a lower tier is worked in one of its columns
pub floor_tells : (lowest : Column → Option ℕ) (cell : CellView) (first last : ℕ) → Spans cell first last
    → (cells : List CellView) → IsFloor lowest cells
    → (is_lower (lowest (column_at cell first)) cell.tier || is_lower (lowest (column_at cell last)) cell.tier) ≡ is_over_any cell cells
floor_tells lowest cell first last spans cells floor =
    ap (λ b. b || is_lower (lowest (column_at cell last)) cell.tier) (floor (column_at cell first) cell.tier)
    ∙ ap (λ b. list_any (λ (other : CellView). nat_lt other.tier cell.tier && is_in_column (column_at cell first) other) cells || b) (floor (column_at cell last) cell.tier)
    ∙ any_either (λ (other : CellView). nat_lt other.tier cell.tier && is_in_column (column_at cell first) other) (λ (other : CellView). nat_lt other.tier cell.tier && is_in_column (column_at cell last) other) cells
    ∙ any_agree (λ (other : CellView). (nat_lt other.tier cell.tier && is_in_column (column_at cell first) other) || (nat_lt other.tier cell.tier && is_in_column (column_at cell last) other)) (is_over cell) cells (each_of (λ (other : CellView). ((nat_lt other.tier cell.tier && is_in_column (column_at cell first) other) || (nat_lt other.tier cell.tier && is_in_column (column_at cell last) other)) ≡ is_over cell other) cells (λ other at.
    meets (nat_lt other.tier cell.tier) (is_in_column (column_at cell first) other) (is_in_column (column_at cell last) other)
    ∙ ap (λ b. nat_lt other.tier cell.tier && b) (sym (any_column (λ column. is_in_column column other) cell first last spans))))
  where
    meets : (a b c : Bool) → ((a && b) || (a && c)) ≡ (a && (b || c))
    meets true b c = refl
    meets false b c = refl

-- nothing is known of any column, and nothing is worked
pub floor_empty : (lowest : Column → Option ℕ) → ((column : Column) → lowest column ≡ None) → IsFloor lowest []
floor_empty lowest none column high = ap (λ (o : Option ℕ). is_lower o high) (none column)

-- the same, as the code looks both columns up
module _ (cell : CellView) (first last : ℕ) (fore aft : Column) (fore_is : fore ≡ column_at cell first) (aft_is : aft ≡ column_at cell last)
    (spans : Spans cell first last) where
  pub floor_put : (before between after : Column → Option ℕ) → KnowsMore before between fore cell.tier → KnowsMore between after aft cell.tier
      → (cells : List CellView) → IsFloor before cells → IsFloor after (cells ++ cell ∷ [])
  floor_put before between after one two = floor_more before between after cell first last spans
      (subst (λ (k : Column). KnowsMore before between k cell.tier) fore_is one) (subst (λ (k : Column). KnowsMore between after k cell.tier) aft_is two)

module _ (cell : CellView) (first last : ℕ) (spans : Spans cell first last) (lowest : Column → Option ℕ) (cells : List CellView) (floor : IsFloor lowest cells) where
  pub over_fore : (fore : Column) (r : Bool) → fore ≡ column_at cell first → r ≡ is_lower (lowest fore) cell.tier → r ≡ true → r ≡ is_over_any cell cells
  over_fore fore r fore_is told here =
      let low : is_lower (lowest (column_at cell first)) cell.tier ≡ true = ap (λ (k : Column). is_lower (lowest k) cell.tier) (sym fore_is) ∙ sym told ∙ here in
      here ∙ ap (λ b. b || is_lower (lowest (column_at cell last)) cell.tier) (sym low) ∙ floor_tells lowest cell first last spans cells floor

  pub over_aft : (fore aft : Column) (r other : Bool) → fore ≡ column_at cell first → aft ≡ column_at cell last
      → r ≡ is_lower (lowest fore) cell.tier → r ≡ false → other ≡ is_lower (lowest aft) cell.tier → other ≡ is_over_any cell cells
  over_aft fore aft r other fore_is aft_is told none told' =
      let high : is_lower (lowest (column_at cell first)) cell.tier ≡ false = ap (λ (k : Column). is_lower (lowest k) cell.tier) (sym fore_is) ∙ sym told ∙ none in
      told' ∙ ap (λ (k : Column). is_lower (lowest k) cell.tier) aft_is
      ∙ ap (λ b. b || is_lower (lowest (column_at cell last)) cell.tier) (sym high) ∙ floor_tells lowest cell first last spans cells floor
