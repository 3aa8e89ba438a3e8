-- What the work sheet of a feasible plan keeps.
use Rattle.std.proofs.Common.{◌≡◌, ℕ, ◌+◌, ◌<◌, ◌≤◌, ◌&&◌, Bool, true, false, List, length, get_or, refl, sym, ap, subst, inl, inr, arith, All, Contains, IsSome, nat_eq}
use Rattle.std.specs.List.{flat_map, zip, AllByRecursion as Each}
use Rattle.std.proofs.Math.Nat.{mul-le-mul_right}
use Rattle.std.proofs.lemmas.Bool.{and_from, cases_Bool, cases_order, le-leb, leb-true, or_left, or_right}
use Rattle.std.proofs.lemmas.List.Elements.{All-from_recursion, Contains-get_or}
use Rattle.std.proofs.lemmas.List.Folds.{list_any_at}
use Rattle.std.proofs.lemmas.Slice.Eq.{bytes_eq-Decides}
use Rattle.qc_ship.specs.Cells.{CellView, IsCell, is_on_deck}
use Rattle.qc_model.specs.declared.schedule.Slot.{Slot}
use Rattle.qc_model.specs.declared.task.Phase.{Phase}
use Rattle.qc_model.specs.declared.task.Phase.TheVariants.{DeckOut, HoldOut, HoldIn, DeckIn}
use Rattle.qc_model.specs.declared.task.Task.{Task}
use Rattle.qc_model.specs.Instance.{IsBefore, no_task, task}
use Rattle.qc_model.specs.Rules.{Feasible, end_of, start_of}
use Rattle.qc_model.specs.Tasks.{phase_rank}
use Rattle.qc_ship.specs.Ship.{IsShip, ShipView, place_of_bay}
use Rattle.qc_stow.specs.Moves.{AreMoves, is_discharge, is_load}
use Rattle.qc_stow.specs.declared.row.Move.{Move}
use Rattle.qc_stow.specs.declared.row.Move.TheVariants.{Discharge, Load}
use Rattle.qc_stow.specs.declared.row.Row.{Row}
use Rattle.qc_tasks.specs.InstanceOf.{brings_back, discharges, instance_of, is_asked, is_before, is_earlier_phase, is_restow, moves_at, phase_with, phases, tasks_at, tasks_of, ticks_in}
use Rattle.qc_tasks.proofs.Lists.{each_flat_map, each_from}
use Rattle.qc_tasks.proofs.PairFacts.{pairs_have}
use Rattle.qc_tasks.proofs.ValidInstance.{phases_before, valid_tasks}
use Rattle.qc_sheet.specs.Kept.{BeginBoth, Begins, IsDischarge, IsLoad, IsOver, IsRestow, IsWorkable, phase_of}
use Rattle.qc_sheet.specs.Order.{AreOrders, cell_at, is_over, no_row, order_of, row_at}
use Rattle.qc_sheet.specs.SheetText.{WorkView, move_ticks, tick_at}
use Rattle.qc_sheet.proofs.OnceLemmas.{told_once}
use Rattle.qc_sheet.proofs.OrderLemmas.{in_order, order_long}
use Rattle.qc_sheet.proofs.OverLemmas.{First, IsMove, lifted_first, over_gives, rank_of, set_first}
use Rattle.qc_sheet.proofs.SortLemmas.{cell_in, first_earlier}

-- ---- ticks

some_ticks : (ship : ShipView) → IsShip ship → (phase : Phase) → 1 ≤ move_ticks ship phase
some_ticks ship is DeckOut = is.times.deck_move.0
some_ticks ship is HoldOut = is.times.hold_move.0
some_ticks ship is HoldIn = is.times.hold_move.0
some_ticks ship is DeckIn = is.times.deck_move.0

later_tick : (ship : ShipView) → IsShip ship → (phase : Phase) (start p q : ℕ) → p < q → tick_at ship phase start p < tick_at ship phase start q
later_tick ship is phase start p q lt =
    omega (arith, some_ticks ship is phase, mul-le-mul_right (move_ticks ship phase) (some_more p q lt))
  where
    some_more : (p q : ℕ) → p < q → p + 1 ≤ q
    some_more p q lt = omega arith

fits_in : (ship : ShipView) (phase : Phase) (start place count : ℕ) → place + 1 ≤ count
    → tick_at ship phase start place + move_ticks ship phase ≤ start + ticks_in ship phase count
fits_in ship DeckOut start place count le = omega (arith, mul-le-mul_right ship.deck_move le)
fits_in ship HoldOut start place count le = omega (arith, mul-le-mul_right ship.hold_move le)
fits_in ship HoldIn start place count le = omega (arith, mul-le-mul_right ship.hold_move le)
fits_in ship DeckIn start place count le = omega (arith, mul-le-mul_right ship.deck_move le)

-- a task takes the ticks of its moves
abbrev TakesTicks : ShipView → List Row → Task → Type 0
TakesTicks ship rows t = t.ticks ≡ ticks_in ship t.phase (moves_at rows t.hatch t.phase)

task_ticks : (ship : ShipView) (rows : List Row) → All (TakesTicks ship rows) (tasks_of ship rows)
task_ticks ship rows =
    All-from_recursion (TakesTicks ship rows) (tasks_of ship rows)
    (each_flat_map (TakesTicks ship rows) (λ h. flat_map (tasks_at ship rows h.0 h.1) phases) (zip ship.hatches ship.places)
    (each_from (λ h. Each (TakesTicks ship rows) (flat_map (tasks_at ship rows h.0 h.1) phases)) (zip ship.hatches ship.places)
    (λ h. each_flat_map (TakesTicks ship rows) (tasks_at ship rows h.0 h.1) phases
    (each_from (λ p. Each (TakesTicks ship rows) (tasks_at ship rows h.0 h.1 p)) phases (one h)))))
  where
    one : (h : ℕ × ℕ) (phase : Phase) → Each (TakesTicks ship rows) (tasks_at ship rows h.0 h.1 phase)
    one h phase = elim (cases_Bool (nat_eq (moves_at rows h.0 phase) 0)) [
      | inl none ↦ rw none tt
      | inr some ↦ rw some (refl, tt)
    ]

-- ---- phases

-- of two discharges the later phase is in the hold and the earlier on deck, of two loads the other way round
out_places : (k l : Move) (d e : Bool) → is_discharge k ≡ true → is_discharge l ≡ true → phase_rank (phase_with l e) < phase_rank (phase_with k d) → (e ≡ true) × (d ≡ false)
out_places Discharge Discharge false true a b lt = (refl, refl)
out_places Discharge Discharge true true a b lt = absurd (omega arith)
out_places Discharge Discharge true false a b lt = absurd (omega arith)
out_places Discharge Discharge false false a b lt = absurd (omega arith)
out_places Load l d e a b lt = cc a
out_places Discharge Load d e a b lt = cc b

in_places : (k l : Move) (d e : Bool) → is_load k ≡ true → is_load l ≡ true → phase_rank (phase_with k d) < phase_rank (phase_with l e) → (e ≡ true) × (d ≡ false)
in_places Load Load false true a b lt = (refl, refl)
in_places Load Load true true a b lt = absurd (omega arith)
in_places Load Load true false a b lt = absurd (omega arith)
in_places Load Load false false a b lt = absurd (omega arith)
in_places Discharge l d e a b lt = cc a
in_places Load Discharge d e a b lt = cc b

-- what is in the hold is over nothing on deck
not_over_deck : (a b : CellView) → is_on_deck b ≡ true → is_on_deck a ≡ false → is_over a b ≡ true → ⊥
not_over_deck a b deck hold over =
    let o = over_gives a b over in
    let low = leb-true 70 b.tier deck in
    cc (hold, le-leb 70 a.tier (omega (arith, o.tier, low)))

-- ---- the work sheet of a ship and its moves

module _ (ship : ShipView) (is : IsShip ship) (rows : List Row) (moves : AreMoves rows)
    (hatches : All (λ row. IsSome (place_of_bay ship row.cell.bay)) rows) (sched : List Slot) (orders : List (List ℕ))
    (are : AreOrders rows (tasks_of ship rows) orders) (feasible : Feasible (instance_of ship rows) sched) where
  abbrev w : WorkView
  w = record { ship = ship; inst = instance_of ship rows; rows = rows; sched = sched; orders = orders }

  abbrev task_of : ℕ → Task
  task_of j = task w.inst j

  mine : (n j t : ℕ) → Begins w n j t → IsMove rows (task_of j) n
  mine n j t b = in_order rows (task_of j) (order_of orders j) (are.each j b.task_low) n
      (subst (λ m. Contains (order_of orders j) m) b.move_is (Contains-get_or (order_of orders j) b.place 0 b.place_low))

  within : (n j t : ℕ) → Begins w n j t → (start_of sched j ≤ t) × (t + move_ticks ship (task_of j).phase ≤ end_of w.inst sched j)
  within n j t b =
      let count = order_long rows (task_of j) (order_of orders j) (are.each j b.task_low) in
      let ticks = task_ticks ship rows j no_task b.task_low in
      let fits = fits_in ship (task_of j).phase (start_of sched j) b.place (moves_at rows (task_of j).hatch (task_of j).phase) (omega (arith, b.place_low, count)) in
      (omega (arith, b.tick_is), omega (arith, b.tick_is, fits, ticks))

  -- a move of an earlier phase of the hatch begins earlier
  earlier_task : (m n i j s t : ℕ) → Begins w m i s → Begins w n j t → (task_of i).hatch ≡ (task_of j).hatch → i < j → s < t
  earlier_task m n i j s t b c hatch lt =
      let before = feasible.before i j b.task_low c.task_low (phases_before ship is rows i j lt c.task_low hatch) in
      omega (arith, (within m i s b).1, (within n j t c).0, before, some_ticks ship is (task_of i).phase)

  cell : (n j t : ℕ) → Begins w n j t → IsCell (cell_at rows n)
  cell n j t b = subst (λ m. IsCell (cell_at rows m)) b.move_is (cell_in rows (task_of j) (order_of orders j) (are.each j b.task_low) b.place b.place_low)

  -- of two moves of one task the one that must be made first begins earlier
  earlier_move : (m n i j s t : ℕ) → Begins w m i s → Begins w n j t → i ≡ j
      → First (row_at rows n).kind (cell_at rows m) (cell_at rows n) → s < t
  earlier_move m n i j s t b c same first =
      let place : b.place < length (order_of orders j) = subst (λ k. b.place < length (order_of orders k)) same b.place_low in
      let move : get_or (order_of orders j) b.place 0 ≡ m = subst (λ k. get_or (order_of orders k) b.place 0 ≡ m) same b.move_is in
      let tick : s ≡ tick_at ship (task_of j).phase (start_of sched j) b.place = subst (λ k. s ≡ tick_at ship (task_of k).phase (start_of sched k) b.place) same b.tick_is in
      let earlier = first_earlier rows (task_of j) (order_of orders j) (are.each j c.task_low) c.place b.place c.place_low place (rw (move, c.move_is) first) in
      omega (arith, tick, c.tick_is, later_tick ship is (task_of j).phase (start_of sched j) b.place c.place earlier)

  -- the later of two tasks of a hatch has the higher phase
  later_phase : (i j : ℕ) → i < j → j < length w.inst.tasks → (task_of i).hatch ≡ (task_of j).hatch → phase_rank (task_of i).phase < phase_rank (task_of j).phase
  later_phase i j lt low hatch = let rank = (valid_tasks ship is rows moves.count).sorted i j lt low in omega (arith, rank, hatch)

  rank : (n j t : ℕ) → Begins w n j t → phase_rank (phase_with (row_at rows n).kind (is_on_deck (cell_at rows n))) ≡ phase_rank (task_of j).phase
  rank n j t b = rank_of rows (task_of j) n (mine n j t b)

  lifted : (m n s t : ℕ) → BeginBoth w m n s t → IsDischarge w m → IsDischarge w n → IsOver w m n → s < t
  lifted m n s t both out_m out_n over = elim (cases_order both.first_task both.second_task) [
    | inl same ↦ earlier_move m n _ _ s t both.first both.second same
        (lifted_first (row_at rows n).kind out_n (cell_at rows m) (cell_at rows n) (cell m _ s both.first) (cell n _ t both.second) over)
    | inr other ↦ elim other [
      | inl below ↦ earlier_task m n _ _ s t both.first both.second both.one_hatch below
      | inr above ↦
          let higher = later_phase both.second_task both.first_task above both.first.task_low (sym both.one_hatch) in
          let places = out_places (row_at rows m).kind (row_at rows n).kind (is_on_deck (cell_at rows m)) (is_on_deck (cell_at rows n)) out_m out_n
          (omega (arith, rank m _ s both.first, rank n _ t both.second, higher)) in
          absurd (not_over_deck (cell_at rows m) (cell_at rows n) places.0 places.1 over)
    ]
  ]

  set_down : (m n s t : ℕ) → BeginBoth w m n s t → IsLoad w m → IsLoad w n → IsOver w m n → t < s
  set_down m n s t both in_m in_n over = elim (cases_order both.first_task both.second_task) [
    | inl same ↦ earlier_move n m _ _ t s both.second both.first (sym same) (set_first (row_at rows m).kind in_m (cell_at rows n) (cell_at rows m) over)
    | inr other ↦ elim other [
      | inl below ↦
          let higher = later_phase both.first_task both.second_task below both.second.task_low both.one_hatch in
          let places = in_places (row_at rows m).kind (row_at rows n).kind (is_on_deck (cell_at rows m)) (is_on_deck (cell_at rows n)) in_m in_n
          (omega (arith, rank m _ s both.first, rank n _ t both.second, higher)) in
          absurd (not_over_deck (cell_at rows m) (cell_at rows n) places.0 places.1 over)
      | inr above ↦ earlier_task n m _ _ t s both.second both.first (sym both.one_hatch) above
    ]
  ]

  in_phases : (m n s t : ℕ) → BeginBoth w m n s t → phase_rank (phase_of w m) < phase_rank (phase_of w n) → s < t
  in_phases m n s t both lt =
      let rank_m = rank m _ s both.first in let rank_n = rank n _ t both.second in
      elim (cases_order both.first_task both.second_task) [
        | inl same ↦ let e = ap (λ k. phase_rank (task_of k).phase) same in absurd (omega (arith, e, lt, rank_m, rank_n))
        | inr other ↦ elim other [
          | inl below ↦ earlier_task m n _ _ s t both.first both.second both.one_hatch below
          | inr above ↦
              let higher = later_phase both.second_task both.first_task above both.first.task_low (sym both.one_hatch) in
              absurd (omega (arith, higher, lt, rank_m, rank_n))
        ]
      ]

  -- the task of a restow's discharge is before that of its load
  restow_before : ship.ordered ≡ true → (m n i j s t : ℕ) → Begins w m i s → Begins w n j t → IsRestow w m n → IsBefore w.inst i j
  restow_before ordered m n i j s t b c is' =
      let im = mine m i s b in let in' = mine n j t c in
      let id = (row_at rows n).id in
      let off : discharges (task_of i) id (row_at rows m) ≡ true = and_from _ _ (and_from _ _ is'.off im.mine) ((bytes_eq-Decides _ _).1 is'.one_id) in
      let some = list_any_at (discharges (task_of i) id) rows m no_row im.low off in
      let back : brings_back rows (task_of i) (task_of j) (row_at rows n) ≡ true = and_from _ _ (and_from _ _ is'.back some) in'.mine in
      let restow : is_restow (tasks_of ship rows) rows i j ≡ true = list_any_at (brings_back rows (task_of i) (task_of j)) rows n no_row in'.low back in
      pairs_have (length (tasks_of ship rows)) (is_before (is_asked ship.ordered ship.before rows (tasks_of ship rows)) (tasks_of ship rows)) i j b.task_low c.task_low
      (or_right (is_earlier_phase (task_of i) (task_of j)) _ (or_left (ship.ordered && is_restow (tasks_of ship rows) rows i j) _ (and_from _ _ ordered restow)))

  restows : ship.ordered ≡ true → (m n i j s t : ℕ) → Begins w m i s → Begins w n j t → IsRestow w m n → s < t
  restows ordered m n i j s t b c is' =
      let before = feasible.before i j b.task_low c.task_low (restow_before ordered m n i j s t b c is') in
      omega (arith, (within m i s b).1, (within n j t c).0, before, some_ticks ship is (task_of i).phase)

  pub workable : IsWorkable w
  workable = record {
    once = λ n low. told_once ship is rows sched orders are feasible.crane_range n low (hatches n no_row low);
    lifted = lifted;
    set_down = set_down;
    phases = in_phases;
    restows = restows;
    within = within;
  }
