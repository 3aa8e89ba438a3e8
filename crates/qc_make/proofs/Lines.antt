-- One row, one phase and one hatch more.
use Rattle.std.proofs.Common.{◌≡◌, ℕ, zero, suc, ◌+◌, ◌*◌, ◌<◌, ◌++◌, List, [], ◌∷◌, map, take, get_or, refl, sym, ap, ◌∙◌, append_assoc, add-one, add-zero, arith, append-nil}
use Rattle.std.specs.List.{flat_map, range_with_len}
use Rattle.std.proofs.lemmas.Grind.{flat_map-append}
use Rattle.std.proofs.lemmas.List.{flat_map_more, take_more}
use Rattle.std.proofs.lemmas.List.FromFn.{map-range_with_len_more}
use Rattle.qc_model.specs.Tasks.{phase_rank}
use Rattle.qc_model.specs.declared.task.Phase.TheVariants.{DeckOut}
use Rattle.qc_stow.specs.declared.row.Row.{Row}
use Rattle.qc_tasks.specs.InstanceOf.{phases}
use Rattle.qc_tasks.proofs.Loops.{range_more}
use Rattle.qc_make.specs.Draws.{drawn, next_state, state_after}
use Rattle.qc_make.specs.MadeTable.{hatch_number}
use Rattle.qc_make.specs.MadeList.{hatch_rows, made_row, made_rows, phase_rows, row_line, row_lines}

-- one row more
pub lines_more : (f : ℕ → Row) (text : List ℕ) (i : ℕ) → (text ++ row_lines (map f (range_with_len 0 i))) ++ row_line (f i) ≡ text ++ row_lines (map f (range_with_len 0 (i + 1)))
lines_more f text i =
    flat_map_more row_line text (map f (range_with_len 0 i)) (f i)
    ∙ ap (λ (rows : List Row). text ++ row_lines rows) (sym (map-range_with_len_more f 0 i i (omega arith)))

-- one draw more
pub state_more : (state n : ℕ) → next_state (state_after state n) ≡ state_after state (n + 1)
unfolding state_after
state_more state n = rw add-one refl

-- the draws of those after some draws
pub state_then : (state m n : ℕ) → state_after (state_after state m) n ≡ state_after state (m + n)
unfolding state_after
state_then state m zero = rw add-zero refl
state_then state m (suc n) = let e : suc (m + n) ≡ m + suc n = omega arith in ap next_state (state_then state m n) ∙ ap (state_after state) e

-- the rank of the phase at a place
rank_at : (i : ℕ) → i < 4 → phase_rank (get_or phases i DeckOut) ≡ i
rank_at zero lt = refl
rank_at (suc zero) lt = refl
rank_at (suc (suc zero)) lt = refl
rank_at (suc (suc (suc zero))) lt = refl
rank_at (suc (suc (suc (suc i)))) lt = absurd (omega arith)

-- one phase more
pub phase_more : (state hatch i after : ℕ) (text : List ℕ) → i < 4 → after ≡ state_after state (i + 1)
    → (text ++ row_lines (flat_map (phase_rows state hatch) (take i phases))) ++ row_lines (map (made_row hatch (get_or phases i DeckOut)) (range_with_len 0 (drawn after)))
    ≡ text ++ row_lines (flat_map (phase_rows state hatch) (take (i + 1) phases))
phase_more state hatch i after text lt drew =
    let phase = get_or phases i DeckOut in
    let here : map (made_row hatch phase) (range_with_len 0 (drawn after)) ≡ phase_rows state hatch phase = rw (drew, rank_at i lt) refl in
    let rows : flat_map (phase_rows state hatch) (take (i + 1) phases) ≡ flat_map (phase_rows state hatch) (take i phases) ++ phase_rows state hatch phase =
    ap (flat_map (phase_rows state hatch)) (take_more phases i DeckOut lt) ∙ flat_map-append (phase_rows state hatch) (take i phases) (phase ∷ [])
    ∙ ap (λ (rs : List Row). flat_map (phase_rows state hatch) (take i phases) ++ rs) (append-nil (phase_rows state hatch phase)) in
    ap (λ (rs : List Row). (text ++ row_lines (flat_map (phase_rows state hatch) (take i phases))) ++ row_lines rs) here
    ∙ append_assoc text _ _
    ∙ ap (λ (t : List ℕ). text ++ t) (sym (flat_map-append row_line (flat_map (phase_rows state hatch) (take i phases)) (phase_rows state hatch phase)))
    ∙ ap (λ (rs : List Row). text ++ row_lines rs) (sym rows)

-- one hatch more
pub hatch_more : (number k state hatch : ℕ) (text : List ℕ) → state ≡ state_after number (4 * k) → hatch ≡ hatch_number k
    → (text ++ row_lines (made_rows number k)) ++ row_lines (hatch_rows state hatch) ≡ text ++ row_lines (made_rows number (k + 1))
hatch_more number k state hatch text drew is =
    let f = λ (j : ℕ). hatch_rows (state_after number (4 * j)) (hatch_number j) in
    let rows : made_rows number (k + 1) ≡ made_rows number k ++ hatch_rows state hatch =
    ap (flat_map f) (range_more k (k + 1) refl) ∙ flat_map-append f (range_with_len 0 k) (k ∷ [])
    ∙ ap (λ (rs : List Row). made_rows number k ++ rs) (append-nil (f k) ∙ rw (drew, is) refl) in
    append_assoc text _ _
    ∙ ap (λ (t : List ℕ). text ++ t) (sym (flat_map-append row_line (made_rows number k) (hatch_rows state hatch)))
    ∙ ap (λ (rs : List Row). text ++ row_lines rs) (sym rows)
