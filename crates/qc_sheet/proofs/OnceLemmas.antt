-- Each move of the list stands once in the sheet.
use Rattle.std.proofs.Common.{◌≡◌, ℕ, ◌+◌, ◌<◌, ◌≤◌, ◌==◌, ◌&&◌, Bool, true, false, cond, List, [], ◌∷◌, length, get_or, Option, None, Some, refl, ap, subst, ◌∙◌, arith, Contains, IsSome, count_by, position, sum_by, option_map}
use Rattle.std.specs.List.{filter, flat_map, range_with_len, zip, AllByRecursion as Each}
use Rattle.std.proofs.Math.Bool.{and-false}
use Rattle.std.proofs.lemmas.Bool.{and_from, eq-eqb, le-ltb, ne_eqb}
use Rattle.std.proofs.lemmas.Cmp.{nat_eq_equiv}
use Rattle.std.proofs.lemmas.List.Elements.{Contains-get_or}
use Rattle.std.proofs.lemmas.List.Quantifiers.{position-Some}
use Rattle.std.proofs.lemmas.List.Sorted.{sum_by-IsPermutation}
use Rattle.std.proofs.lemmas.List.FromFn.{length-range_with_len}
use Rattle.std.proofs.lemmas.List.Sums.{get_or-le-sum_by, sum_by-cons}
use Rattle.std.proofs.lemmas.Slice.Zip.{get_or-zip, length-zip}
use Rattle.qc_ship.specs.Cells.{is_on_deck}
use Rattle.qc_model.specs.declared.schedule.Slot.{Slot}
use Rattle.qc_model.specs.declared.task.Phase.{Phase}
use Rattle.qc_model.specs.declared.task.Phase.TheVariants.{DeckOut, HoldOut, HoldIn, DeckIn}
use Rattle.qc_model.specs.declared.task.Task.{Task}
use Rattle.qc_model.specs.Instance.{InstanceView, no_task}
use Rattle.qc_model.specs.Rules.{crane_of, start_of}
use Rattle.qc_ship.specs.Ship.{IsShip, ShipView, place_of_bay, takes}
use Rattle.qc_stow.specs.declared.row.Row.{Row}
use Rattle.qc_tasks.specs.InstanceOf.{instance_of, is_move_at, is_move_of, moves_at, phase_with, phases, tasks_at, tasks_of}
use Rattle.qc_tasks.proofs.Lists.{contains_flat_map, contains_range, count_one, each_range, each_weaker, pairs_from_index, pair_weaker, sum_by-flat_map, sum_by-same, tally}
use Rattle.qc_tasks.proofs.TaskFacts.{share_no_move}
use Rattle.qc_sheet.specs.Kept.{moves_told}
use Rattle.qc_sheet.specs.Order.{AreOrders, moves_of, no_row, order_of, row_at}
use Rattle.qc_sheet.specs.SheetText.{comes_before, crane_tasks, has_turn, turn_of}
use Rattle.qc_sheet.proofs.CountLemmas.{count_among, count_less, sum_at, sum_by-filter, sum_by_places, sums_swapped}

-- sums of functions that agree at each element
sum_by-agree : {X : Type 0} (f g : X → ℕ) (xs : List X) → Each (λ x. f x ≡ g x) xs → sum_by f xs ≡ sum_by g xs
sum_by-agree f g [] each = refl
sum_by-agree f g (x ∷ xs) each = omega (arith, sum_by-cons f x xs, sum_by-cons g x xs, each.0, sum_by-agree f g xs each.1)

sum_below : (f g : ℕ → ℕ) (n : ℕ) → ((k : ℕ) → k < n → f k ≡ g k) → sum_by f (range_with_len 0 n) ≡ sum_by g (range_with_len 0 n)
sum_below f g n same =
    sum_by-agree f g (range_with_len 0 n) (each_weaker (λ k. (0 ≤ k) × (k < 0 + n)) (λ k. f k ≡ g k) (range_with_len 0 n) (λ k h. same k (omega (arith, h))) (each_range 0 n))

-- a number that is asked for, the other way round
turned : (b : Bool) (r turn n : ℕ) → cond (b && (r == turn)) n 0 ≡ cond (turn == r) (cond b n 0) 0
turned b r turn n = subst (λ (y : Bool). cond (b && (r == turn)) n 0 ≡ cond y (cond b n 0) 0) (nat_eq_equiv.symm r turn) (by b (r == turn))
  where
    by : (b x : Bool) → cond (b && x) n 0 ≡ cond x (cond b n 0) 0
    by true true = refl
    by true false = refl
    by false true = refl
    by false false = refl

-- ---- each task has one crane and one turn

module _ (inst : InstanceView) (sched : List Slot) where
  abbrev numbers : List ℕ
  numbers = range_with_len 0 (length inst.tasks)

  not_before_itself : (k j : ℕ) → comes_before sched k j j ≡ false
  not_before_itself k j = rw (le-ltb (start_of sched j) (start_of sched j) (omega arith), le-ltb j j (omega arith), and-false (start_of sched j == start_of sched j)) (and-false (crane_of sched j == k))

  turn_low : (k j : ℕ) → j < length inst.tasks → turn_of inst sched k j < length inst.tasks
  turn_low k j low =
      omega (arith, count_less (comes_before sched k j) numbers j (contains_range 0 (length inst.tasks) j (omega arith) (omega arith)) (not_before_itself k j), length-range_with_len 0 (length inst.tasks))

  -- what a task adds to the sum of a crane
  at_crane : (f : ℕ → ℕ) (k j : ℕ) → j < length inst.tasks → sum_by (λ turn. cond (has_turn inst sched k turn j) (f j) 0) numbers ≡ cond (crane_of sched j == k) (f j) 0
  at_crane f k j low =
      sum_by-same (λ turn. cond (has_turn inst sched k turn j) (f j) 0) (λ turn. cond (turn == turn_of inst sched k j) (cond (crane_of sched j == k) (f j) 0) 0) numbers
      (λ turn. turned (crane_of sched j == k) (turn_of inst sched k j) turn (f j))
      ∙ sum_at (λ _. cond (crane_of sched j == k) (f j) 0) (turn_of inst sched k j) 0 (length inst.tasks) (omega arith) (omega (arith, turn_low k j low))

  over_crane : (f : ℕ → ℕ) (k : ℕ) → sum_by f (crane_tasks inst sched k) ≡ sum_by (λ j. cond (crane_of sched j == k) (f j) 0) numbers
  over_crane f k =
      sum_by-flat_map f (λ turn. filter (has_turn inst sched k turn) numbers) numbers
      ∙ sum_by-same (λ turn. sum_by f (filter (has_turn inst sched k turn) numbers)) (λ turn. sum_by (λ j. cond (has_turn inst sched k turn j) (f j) 0) numbers) numbers
      (λ turn. sum_by-filter f (has_turn inst sched k turn) numbers)
      ∙ sums_swapped (λ turn j. cond (has_turn inst sched k turn j) (f j) 0) numbers numbers
      ∙ sum_below (λ j. sum_by (λ turn. cond (has_turn inst sched k turn j) (f j) 0) numbers) (λ j. cond (crane_of sched j == k) (f j) 0) (length inst.tasks) (at_crane f k)

  -- a sum over the tasks of all cranes is one over all tasks
  pub over_cranes : (f : ℕ → ℕ) → ((j : ℕ) → j < length inst.tasks → crane_of sched j < length inst.cranes)
      → sum_by f (flat_map (crane_tasks inst sched) (range_with_len 0 (length inst.cranes))) ≡ sum_by f numbers
  over_cranes f range =
      let cranes = range_with_len 0 (length inst.cranes) in
      sum_by-flat_map f (crane_tasks inst sched) cranes
      ∙ sum_by-same (λ k. sum_by f (crane_tasks inst sched k)) (λ k. sum_by (λ j. cond (crane_of sched j == k) (f j) 0) numbers) cranes (over_crane f)
      ∙ sums_swapped (λ k j. cond (crane_of sched j == k) (f j) 0) cranes numbers
      ∙ sum_below (λ j. sum_by (λ k. cond (crane_of sched j == k) (f j) 0) cranes) f (length inst.tasks)
      (λ j low. sum_by-same (λ k. cond (crane_of sched j == k) (f j) 0) (λ k. cond (k == crane_of sched j) (f j) 0) cranes (λ k. turned true (crane_of sched j) k (f j))
      ∙ sum_at (λ _. f j) (crane_of sched j) 0 (length inst.cranes) (omega arith) (omega (arith, range j low)))

-- ---- each move has one task

some_of : {A : Type 0} (f : ℕ → A) (o : Option ℕ) → IsSome (option_map f o) → (k : ℕ) × (o ≡ Some k)
some_of f None is = cc is
some_of f (Some k) is = (k, refl)

has_phase : (phase : Phase) → Contains phases phase
has_phase DeckOut = (0, omega arith, refl)
has_phase HoldOut = (1, omega arith, refl)
has_phase HoldIn = (2, omega arith, refl)
has_phase DeckIn = (3, omega arith, refl)

module _ (ship : ShipView) (is : IsShip ship) (rows : List Row) where
  abbrev phase_of : Row → Phase
  phase_of row = phase_with row.kind (is_on_deck row.cell)

  is_there : (row : Row) (hatch : ℕ) → takes hatch row.cell.bay ≡ true → is_move_at hatch (phase_of row) row ≡ true
  is_there row hatch taken = and_from _ _ taken (eq-eqb _ _ refl)

  -- the task of a move, where a hatch takes its bay
  has_task : (row : Row) → Contains rows row → IsSome (place_of_bay ship row.cell.bay) → (t : Task) × (Contains (tasks_of ship rows) t × (is_move_of t row ≡ true))
  has_task row (i, lt, at) some =
      let found = some_of (λ k. _) (position (λ hatch. takes hatch row.cell.bay) ship.hatches) some in
      let here = position-Some (λ hatch. takes hatch row.cell.bay) ship.hatches found.0 0 found.1 in
      let hatch = get_or ship.hatches found.0 0 in
      let place = get_or ship.places found.0 0 in
      let low : found.0 < length ship.places = omega (arith, is.places.count, here.0) in
      let pair : get_or (zip ship.hatches ship.places) found.0 (0, 0) ≡ (hatch, place) = get_or-zip ship.hatches ship.places found.0 (0, 0) here.0 low in
      let listed : Contains (zip ship.hatches ship.places) (hatch, place) =
      subst (λ (p : ℕ × ℕ). Contains (zip ship.hatches ship.places) p) pair (Contains-get_or (zip ship.hatches ship.places) found.0 (0, 0) (omega (arith, length-zip ship.hatches ship.places, here.0, low))) in
      let some_move : 1 ≤ moves_at rows hatch (phase_of row) =
      omega (arith, get_or-le-sum_by (λ r. cond (is_move_at hatch (phase_of row) r) 1 0) rows i row lt, one (is_move_at hatch (phase_of row) (get_or rows i row)) (ap (is_move_at hatch (phase_of row)) at ∙ is_there row hatch here.1)) in
      let (t, (has, mine)) = made hatch place row some_move (is_there row hatch here.1) in (
        t,
        (
          contains_flat_map (λ (h : ℕ × ℕ). flat_map (tasks_at ship rows h.0 h.1) phases) (zip ship.hatches ship.places) (hatch, place) t listed
              (contains_flat_map (tasks_at ship rows hatch place) phases (phase_of row) t (has_phase (phase_of row)) has),
          mine,
        ),
      )
    where
      one : (b : Bool) → b ≡ true → 1 ≤ cond b 1 0
      one true e = omega arith
      one false e = absurd (cc e)

      made : (hatch place : ℕ) (row : Row) → 1 ≤ moves_at rows hatch (phase_of row) → is_move_at hatch (phase_of row) row ≡ true
          → (t : Task) × (Contains (tasks_at ship rows hatch place (phase_of row)) t × (is_move_of t row ≡ true))
      made hatch place row some there = rw (ne_eqb (moves_at rows hatch (phase_of row)) 0 (λ e. omega arith)) (_, ((0, omega arith, refl), there))

  -- a move whose bay a hatch takes is one of one task
  one_task : (row : Row) → Contains rows row → IsSome (place_of_bay ship row.cell.bay) → count_by (λ t. is_move_of t row) (tasks_of ship rows) ≡ 1
  one_task row has some =
      let (t, ((j, low, at), mine)) = has_task row has some in
      let most = count_one (λ (u : Task). is_move_of u row) (tasks_of ship rows)
      (pair_weaker (λ (u v : Task). (r : Row) → is_move_of u r ≡ true → is_move_of v r ≡ false) (λ u v. is_move_of u row ≡ true → is_move_of v row ≡ false) (tasks_of ship rows) (λ u v h. h row)
      (pairs_from_index (λ (u v : Task). (r : Row) → is_move_of u r ≡ true → is_move_of v r ≡ false) (tasks_of ship rows) (share_no_move ship is rows))) in
      let least = get_or-le-sum_by (λ (u : Task). cond (is_move_of u row) 1 0) (tasks_of ship rows) j t low in
      let one : tally (is_move_of (get_or (tasks_of ship rows) j t) row) 1 ≡ 1 = ap (λ (u : Task). tally (is_move_of u row) 1) at ∙ ap (λ (b : Bool). tally b 1) mine in
      omega (arith, most, least, one)

  module _ (sched : List Slot) (orders : List (List ℕ)) (are : AreOrders rows (tasks_of ship rows) orders)
      (range : (j : ℕ) → j < length (tasks_of ship rows) → crane_of sched j < length ship.cranes) where
    pub told_once : (n : ℕ) → n < length rows → IsSome (place_of_bay ship (row_at rows n).cell.bay)
        → count_by (λ m. m == n) (moves_told (record { ship = ship; inst = instance_of ship rows; rows = rows; sched = sched; orders = orders })) ≡ 1
    told_once n low some =
        let f = λ (j : ℕ). count_by (λ m. m == n) (order_of orders j) in
        let g = λ (t : Task). cond (is_move_of t (row_at rows n)) 1 0 in
        sum_by-flat_map (λ m. cond (m == n) 1 0) (order_of orders) (flat_map (crane_tasks (instance_of ship rows) sched) (range_with_len 0 (length ship.cranes)))
        ∙ over_cranes (instance_of ship rows) sched f range
        ∙ sum_below f (λ j. g (get_or (tasks_of ship rows) j no_task)) (length (tasks_of ship rows))
        (λ j lt. sum_by-IsPermutation (λ m. cond (m == n) 1 0) (moves_of rows (get_or (tasks_of ship rows) j no_task)) (order_of orders j) (are.each j lt).moves
        ∙ count_among (λ m. is_move_of (get_or (tasks_of ship rows) j no_task) (row_at rows m)) n (length rows) low)
        ∙ sum_by_places g (tasks_of ship rows) no_task
        ∙ one_task (row_at rows n) (Contains-get_or rows n no_row low) some
