-- Which of two moves of a task must be made first, by their rows, bays and heights.
use Rattle.std.proofs.Common.{◌≡◌, ◌⊎◌, ℕ, ◌%◌, ◌<◌, ◌==◌, ◌||◌, Bool, true, false, List, length, refl, sym, inl, inr, ◌∙◌, arith}
use Rattle.std.specs.List.{list_any}
use Rattle.std.proofs.lemmas.Bool.{and_parts, eqb-true, ltb-true}
use Rattle.qc_ship.specs.Cells.{CellView, IsCell, is_on_deck, slots}
use Rattle.qc_model.specs.declared.task.Task.{Task}
use Rattle.qc_model.specs.Tasks.{phase_rank}
use Rattle.qc_stow.specs.Moves.{is_discharge, is_load}
use Rattle.qc_stow.specs.declared.row.Move.{Move}
use Rattle.qc_stow.specs.declared.row.Move.TheVariants.{Discharge, Load}
use Rattle.qc_stow.specs.declared.row.Row.{Row}
use Rattle.qc_tasks.specs.InstanceOf.{is_move_of, phase_with}
use Rattle.qc_sheet.specs.Order.{cell_at, height, is_over, row_at}

-- ---- bays of 20 feet

-- two bays cover a bay of 20 feet in common
abbrev pub shares : (a b : ℕ) → Bool
shares a b = list_any (λ slot. list_any (λ other. slot == other) (slots b)) (slots a)

pub share_odd : (a b : ℕ) → (a % 2 == 0) ≡ false → (b % 2 == 0) ≡ false → shares a b ≡ true → a ≡ b
share_odd a b odd odd' h = let e = rw (odd, odd') at h in eqb-true a b (alone (a == b) e)
  where
    alone : (x : Bool) → ((x || false) || false) ≡ true → x ≡ true
    alone true e = refl
    alone false e = cc e

-- ---- one cell before another

-- both share, one way round or the other
abbrev pub Share : (a b : ℕ) → Type 0
Share a b = (shares a b ≡ true) ⊎ (shares b a ≡ true)

pub share_same : (a b : ℕ) → (a % 2 == 0) ≡ false → (b % 2 == 0) ≡ false → Share a b → a ≡ b
share_same a b odd odd' s = elim s [ inl h ↦ share_odd a b odd odd' h | inr h ↦ sym (share_odd b a odd' odd h) ]

-- what is over another cell: one row, a bay of 20 feet in common, a higher tier
pub record Over (a b : CellView) : Type 0 where
  pub row : a.row ≡ b.row
  pub bays : shares a.bay b.bay ≡ true
  pub tier : b.tier < a.tier

pub over_gives : (a b : CellView) → is_over a b ≡ true → Over a b
over_gives a b h =
    let one = and_parts _ _ h in let two = and_parts _ _ one.1 in let three = and_parts _ _ two.0 in
    record { row = eqb-true a.row b.row three.0; bays = two.1; tier = ltb-true b.tier a.tier one.0 }

-- the first of two cells: one row, a bay of 20 feet in common, a lower height
pub record First (move : Move) (a b : CellView) : Type 0 where
  pub row : a.row ≡ b.row
  pub bays : Share a.bay b.bay
  pub height_low : height move a.tier < height move b.tier

pub lifted_first : (move : Move) → is_discharge move ≡ true → (a b : CellView) → IsCell a → IsCell b → is_over a b ≡ true → First move a b
lifted_first Discharge out a b ca cb over = let o = over_gives a b over in record { row = o.row; bays = inl o.bays; height_low = omega (arith, o.tier, ca.tier_high, cb.tier_high) }
lifted_first Load out a b ca cb over = cc out

pub set_first : (move : Move) → is_load move ≡ true → (a b : CellView) → is_over b a ≡ true → First move a b
set_first Load in' a b over = let o = over_gives b a over in record { row = sym o.row; bays = inr o.bays; height_low = o.tier }
set_first Discharge in' a b over = cc in'

-- ---- the moves of a task

pub record IsMove (rows : List Row) (t : Task) (n : ℕ) : Type 0 where
  pub low : n < length rows
  pub mine : is_move_of t (row_at rows n) ≡ true

-- moves of one rank go one way, and are all on deck or all in the hold
pub same_phase : (k l : Move) (d e : Bool) → phase_rank (phase_with k d) ≡ phase_rank (phase_with l e) → (k ≡ l) × (d ≡ e)
same_phase Discharge Discharge true true h = (refl, refl)
same_phase Discharge Discharge false false h = (refl, refl)
same_phase Load Load true true h = (refl, refl)
same_phase Load Load false false h = (refl, refl)
same_phase Discharge Discharge true false h = absurd (omega arith)
same_phase Discharge Discharge false true h = absurd (omega arith)
same_phase Load Load true false h = absurd (omega arith)
same_phase Load Load false true h = absurd (omega arith)
same_phase Discharge Load true true h = absurd (omega arith)
same_phase Discharge Load true false h = absurd (omega arith)
same_phase Discharge Load false true h = absurd (omega arith)
same_phase Discharge Load false false h = absurd (omega arith)
same_phase Load Discharge true true h = absurd (omega arith)
same_phase Load Discharge true false h = absurd (omega arith)
same_phase Load Discharge false true h = absurd (omega arith)
same_phase Load Discharge false false h = absurd (omega arith)

module _ (rows : List Row) (t : Task) where
  pub rank_of : (n : ℕ) → IsMove rows t n → phase_rank (phase_with (row_at rows n).kind (is_on_deck (cell_at rows n))) ≡ phase_rank t.phase
  rank_of n is = eqb-true _ _ (and_parts _ _ is.mine).1

  pub same_kind : (m n : ℕ) → IsMove rows t m → IsMove rows t n → (row_at rows m).kind ≡ (row_at rows n).kind
  same_kind m n im in' = (same_phase _ _ _ _ (rank_of m im ∙ sym (rank_of n in'))).0
