-- The tasks of a ship together don't take too long, since each move belongs to at most one task.
use Rattle.std.proofs.Common.{◌≡◌, ℕ, ◌+◌, ◌*◌, ◌≤◌, ◌∷◌, ◌==◌, ◌&&◌, [], Bool, true, false, cond, List, length, refl, ◌∙◌, arith, sum_by}
use Rattle.std.specs.List.{flat_map, zip}
use Rattle.std.proofs.lemmas.List.Sums.{sum_by-cons}
use Rattle.std.proofs.lemmas.Slice.Zip.{length-zip}
use Rattle.qc_model.specs.Numbers.{most_work}
use Rattle.qc_model.specs.declared.task.Phase.{Phase}
use Rattle.qc_model.specs.declared.task.Phase.TheVariants.{DeckOut, HoldOut, HoldIn, DeckIn}
use Rattle.qc_model.specs.declared.task.Task.{Task}
use Rattle.qc_model.specs.Tasks.{phase_rank}
use Rattle.qc_ship.specs.Ship.{ShipView, IsShip, takes}
use Rattle.qc_ship.specs.Cells.{is_on_deck}
use Rattle.qc_stow.specs.Moves.{most_moves}
use Rattle.qc_stow.specs.declared.row.Row.{Row}
use Rattle.qc_tasks.specs.InstanceOf.{is_move_at, moves_at, phase_with, phases, tasks_at, tasks_of}
use Rattle.qc_tasks.proofs.Lists.{EachPair, each_from, pair_weaker, sum_by-flat_map, sum_by-each, sum_by-plus, sum_by-same, count_one}
use Rattle.qc_tasks.proofs.TaskFacts.{Behind, hatches_behind, one_work, takes_once}

one_phase : (t : Bool) (φ : Phase) → sum_by (λ phase. cond (t && (phase_rank φ == phase_rank phase)) 1 0) phases ≤ cond t 1 0
one_phase false φ = omega arith
one_phase true DeckOut = omega arith
one_phase true HoldOut = omega arith
one_phase true HoldIn = omega arith
one_phase true DeckIn = omega arith

row_once : (hatches : List (ℕ × ℕ)) → EachPair Behind hatches → (row : Row) → sum_by (λ h. sum_by (λ phase. cond (is_move_at h.0 phase row) 1 0) phases) hatches ≤ 1
row_once hatches behind row =
    omega (
      arith,
      sum_by-each (λ h. sum_by (λ phase. cond (is_move_at h.0 phase row) 1 0) phases) (λ h. cond (takes h.0 row.cell.bay) 1 0) hatches
          (each_from (λ h. sum_by (λ phase. cond (is_move_at h.0 phase row) 1 0) phases ≤ cond (takes h.0 row.cell.bay) 1 0) hatches (λ h. one_phase (takes h.0 row.cell.bay) (phase_with row.kind (is_on_deck row.cell)))),
      count_one (λ (h : ℕ × ℕ). takes h.0 row.cell.bay) hatches
          (pair_weaker Behind (λ g h. takes g.0 row.cell.bay ≡ true → takes h.0 row.cell.bay ≡ false) hatches (λ g h b. takes_once g.0 h.0 row.cell.bay b.0) behind),
    )

sum_by-nothing : {X : Type 0} (xs : List X) → sum_by (λ _. 0) xs ≡ 0
sum_by-nothing [] = refl
sum_by-nothing (x ∷ xs) = omega (arith, sum_by-cons (λ _. 0) x xs, sum_by-nothing xs)

moves_cons : (row : Row) (rows : List Row) (hatch : ℕ) → sum_by (moves_at (row ∷ rows) hatch) phases ≡ sum_by (λ phase. cond (is_move_at hatch phase row) 1 0) phases + sum_by (moves_at rows hatch) phases
moves_cons row rows hatch =
    sum_by-same (moves_at (row ∷ rows) hatch) (λ phase. cond (is_move_at hatch phase row) 1 0 + moves_at rows hatch phase) phases (λ phase. sum_by-cons (λ r. cond (is_move_at hatch phase r) 1 0) row rows)
    ∙ sum_by-plus (λ phase. cond (is_move_at hatch phase row) 1 0) (moves_at rows hatch) phases

-- a move is counted at most once
moves_once : (hatches : List (ℕ × ℕ)) → EachPair Behind hatches → (rows : List Row) → sum_by (λ h. sum_by (moves_at rows h.0) phases) hatches ≤ length rows
moves_once hatches behind [] = omega (arith, sum_by-same (λ (h : ℕ × ℕ). sum_by (moves_at [] h.0) phases) (λ _. 0) hatches (λ h. refl), sum_by-nothing hatches)
moves_once hatches behind (row ∷ rows) =
    omega (
      arith,
      moves_once hatches behind rows,
      row_once hatches behind row,
      sum_by-same (λ h. sum_by (moves_at (row ∷ rows) h.0) phases) (λ h. sum_by (λ phase. cond (is_move_at h.0 phase row) 1 0) phases + sum_by (moves_at rows h.0) phases) hatches (λ h. moves_cons row rows h.0),
      sum_by-plus (λ h. sum_by (λ phase. cond (is_move_at h.0 phase row) 1 0) phases) (λ h. sum_by (moves_at rows h.0) phases) hatches,
    )

scaled : {X : Type 0} (f : X → ℕ) (xs : List X) → sum_by (λ x. 10000 * f x + 40000) xs ≡ 10000 * sum_by f xs + 40000 * length xs
scaled f [] = omega arith
scaled f (x ∷ xs) = omega (arith, sum_by-cons (λ x. 10000 * f x + 40000) x xs, sum_by-cons f x xs, scaled f xs)

four_scaled : (f : Phase → ℕ) → sum_by (λ phase. 10000 * f phase + 10000) phases ≡ 10000 * sum_by f phases + 40000
four_scaled f = omega arith

module _ (ship : ShipView) (is : IsShip ship) (rows : List Row) where
  hatch_work : (h : ℕ × ℕ) → sum_by (λ (t : Task). t.ticks) (flat_map (tasks_at ship rows h.0 h.1) phases) ≤ 10000 * sum_by (moves_at rows h.0) phases + 40000
  hatch_work h =
      omega (
        arith,
        four_scaled (moves_at rows h.0),
        sum_by-flat_map (λ (t : Task). t.ticks) (tasks_at ship rows h.0 h.1) phases,
        sum_by-each (λ p. sum_by (λ (t : Task). t.ticks) (tasks_at ship rows h.0 h.1 p)) (λ p. 10000 * moves_at rows h.0 p + 10000) phases
            (each_from (λ p. sum_by (λ (t : Task). t.ticks) (tasks_at ship rows h.0 h.1 p) ≤ 10000 * moves_at rows h.0 p + 10000) phases (one_work ship is rows h)),
      )

  pub all_work : length rows ≤ most_moves → sum_by (λ (t : Task). t.ticks) (tasks_of ship rows) ≤ most_work
  all_work few =
      omega (
        arith,
        few,
        is.hatches.count,
        length-zip ship.hatches ship.places,
        moves_once (zip ship.hatches ship.places) (hatches_behind ship is) rows,
        scaled (λ (h : ℕ × ℕ). sum_by (moves_at rows h.0) phases) (zip ship.hatches ship.places),
        sum_by-flat_map (λ (t : Task). t.ticks) (λ h. flat_map (tasks_at ship rows h.0 h.1) phases) (zip ship.hatches ship.places),
        sum_by-each (λ h. sum_by (λ (t : Task). t.ticks) (flat_map (tasks_at ship rows h.0 h.1) phases)) (λ h. 10000 * sum_by (moves_at rows h.0) phases + 40000) (zip ship.hatches ship.places)
            (each_from (λ h. sum_by (λ (t : Task). t.ticks) (flat_map (tasks_at ship rows h.0 h.1) phases) ≤ 10000 * sum_by (moves_at rows h.0) phases + 40000) (zip ship.hatches ship.places) hatch_work),
      )
