-- public: what the work sheet of every feasible plan keeps.
use Rattle.std.specs.Prelude.{◌≡◌, ℕ, ◌+◌, ◌<◌, ◌≤◌, true, ◌==◌, List, length, count_by, slice_index}
use Rattle.std.specs.List.{flat_map, range_with_len}
use Rattle.qc_ship.specs.Cells.{is_on_deck}
use Rattle.qc_model.specs.declared.task.Phase.{Phase}
use Rattle.qc_model.specs.Instance.{task}
use Rattle.qc_model.specs.Rules.{end_of, start_of}
use Rattle.qc_model.specs.Tasks.{phase_rank}
use Rattle.qc_stow.specs.Moves.{is_discharge, is_load}
use Rattle.qc_tasks.specs.InstanceOf.{phase_with}
use Rattle.qc_sheet.specs.Order.{cell_at, is_over, order_of, row_at}
use Rattle.qc_sheet.specs.SheetText.{WorkView, crane_tasks, move_ticks, tick_at}

-- the moves in the order in which the sheet tells them
abbrev pub moves_told : WorkView → List ℕ
moves_told w =
    flat_map (order_of w.orders) (flat_map (crane_tasks w.inst w.sched) (range_with_len 0 (length w.inst.cranes)))

-- the sheet tells move n in task j, and that it begins at this tick
pub record Begins (w : WorkView) (n j tick : ℕ) : Type 0 where
  pub place : ℕ
  pub task_low : j < length w.inst.tasks
  pub place_low : place < length (order_of w.orders j)
  pub move_is : slice_index (order_of w.orders j) place ≡ n
  pub tick_is : tick ≡ tick_at w.ship (task w.inst j).phase (start_of w.sched j) place

-- the sheet tells moves m and n, in tasks of one hatch, and that they begin at the ticks s and t
pub record BeginBoth (w : WorkView) (m n s t : ℕ) : Type 0 where
  pub first_task : ℕ
  pub second_task : ℕ
  pub first : Begins w m first_task s
  pub second : Begins w n second_task t
  pub one_hatch : (task w.inst first_task).hatch ≡ (task w.inst second_task).hatch

abbrev pub IsDischarge : WorkView → ℕ → Type 0
IsDischarge w n = is_discharge (row_at w.rows n).kind ≡ true

abbrev pub IsLoad : WorkView → ℕ → Type 0
IsLoad w n = is_load (row_at w.rows n).kind ≡ true

abbrev pub IsOver : WorkView → (m n : ℕ) → Type 0
IsOver w m n = is_over (cell_at w.rows m) (cell_at w.rows n) ≡ true

-- the phase of a move
abbrev pub phase_of : WorkView → ℕ → Phase
phase_of w n = phase_with (row_at w.rows n).kind (is_on_deck (cell_at w.rows n))

-- move m takes off the container that move n puts back
pub record IsRestow (w : WorkView) (m n : ℕ) : Type 0 where
  pub off : IsDischarge w m
  pub back : IsLoad w n
  pub one_id : (row_at w.rows m).id ≡ (row_at w.rows n).id

pub record IsWorkable (w : WorkView) : Type 0 where
  -- each move of the list stands once in the sheet
  pub once : (n : ℕ) → n < length w.rows → count_by (λ m. m == n) (moves_told w) ≡ 1
  -- of two discharges of a hatch, the one that is over the other is lifted earlier
  pub lifted : (m n s t : ℕ) → BeginBoth w m n s t → IsDischarge w m → IsDischarge w n → IsOver w m n → s < t
  -- of two loads of a hatch, the one that is over the other is set down later
  pub set_down : (m n s t : ℕ) → BeginBoth w m n s t → IsLoad w m → IsLoad w n → IsOver w m n → t < s
  -- in a hatch phase follows phase: off the deck, out of the hold, into the hold, onto the deck
  pub phases : (m n s t : ℕ) → BeginBoth w m n s t → phase_rank (phase_of w m) < phase_rank (phase_of w n) → s < t
  -- where restows are ordered, a container is lifted before it is set down again, in whichever hatch
  pub restows : w.ship.ordered ≡ true
      → (m n i j s t : ℕ) → Begins w m i s → Begins w n j t → IsRestow w m n → s < t
  -- each move begins and ends within its task
  pub within : (n j t : ℕ) → Begins w n j t
      → (start_of w.sched j ≤ t) × (t + move_ticks w.ship (task w.inst j).phase ≤ end_of w.inst w.sched j)
