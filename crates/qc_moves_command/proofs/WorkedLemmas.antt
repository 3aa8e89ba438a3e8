-- The moves of a work sheet, in the order of their ticks, lead from the one bay plan to the other.
use Rattle.std.proofs.Common.{◌≡◌, ◌∙◌, ◌⊎◌, ℕ, zero, suc, ◌+◌, ◌-◌, ◌++◌, ◌%◌, ◌<◌, ◌≤◌, ◌==◌, ◌&&◌, ◌||◌, Bool, true, false, cond, List, [], ◌∷◌, length, get_or, map, take, Ok, refl, sym, ap, subst, inl, inr, arith, All, AllPairs, Contains, IsSome, count_by, nat_le, sum_by}
use Rattle.std.specs.Bool.{beq}
use Rattle.std.specs.List.{filter, flat_map, list_any, range_with_len, AllByRecursion as Each}
use Rattle.std.specs.List.Sorted.{IsPermutation}
use Rattle.std.specs.Str.{bytes_eq}
use Rattle.std.proofs.lemmas.Bool.{and_from, and_parts, cases_Bool, cases_lt, cases_order, eq-eqb, eqb-true, le-leb, leb-true}
use Rattle.std.proofs.lemmas.List.{take_all, take_more}
use Rattle.std.proofs.lemmas.List.Elements.{All-from_recursion, Contains-get_or}
use Rattle.std.proofs.lemmas.List.FromFn.{map-range_with_len_more}
use Rattle.std.proofs.lemmas.List.Sorted.{All-permutation, IsPermutation-map}
use Rattle.std.proofs.lemmas.List.Sums.{sum_by-cons}
use Rattle.std.proofs.lemmas.Slice.Eq.{bytes_eq-Decides}
use Rattle.qc_num.specs.Reading.{each}
use Rattle.qc_num.proofs.ReadingLemmas.{bind_ok}
use Rattle.qc_bayplan.specs.Plan.{AreContainers}
use Rattle.qc_bayplan.specs.declared.plan.Container.{Container}
use Rattle.qc_changes.specs.Changes.{AreChanges, ChangesView}
use Rattle.qc_changes.specs.Classes.{stands}
use Rattle.qc_changes.specs.Orders.{IsOrderOf, meet, must_lead}
use Rattle.qc_changes.specs.Over as plans
use Rattle.qc_changes.specs.States.{Leads}
use Rattle.qc_changes.proofs.AheadLemmas.{leads_in_order}
use Rattle.qc_changes.proofs.Any.{any_map}
use Rattle.qc_changes.proofs.Elements.{In, any_in, in_any}
use Rattle.qc_changes.proofs.Tally.{tally, tally_is}
use Rattle.qc_model.specs.declared.schedule.Slot.{Slot}
use Rattle.qc_model.specs.Instance.{no_task, task}
use Rattle.qc_model.specs.Rules.{Feasible, start_of}
use Rattle.qc_model.specs.Tasks.{phase_rank}
use Rattle.qc_sheet.specs.Kept.{BeginBoth, Begins, IsWorkable}
use Rattle.qc_sheet.specs.Order.{AreOrders, cell_at, is_over, no_row, order_of, row_at}
use Rattle.qc_sheet.specs.SheetText.{WorkView, crane_tasks, has_turn, tick_at}
use Rattle.qc_sheet.proofs.OrderLemmas.{in_order}
use Rattle.qc_sheet.proofs.OverLemmas.{IsMove}
use Rattle.qc_sheet.proofs.WorkLemmas.{workable}
use Rattle.qc_ship.specs.Cells.{CellView, is_on_deck, overlap, slots}
use Rattle.qc_ship.specs.Ship.{IsShip, ShipView, place_of_bay, takes}
use Rattle.qc_stow.specs.declared.row.Move.{Move}
use Rattle.qc_stow.specs.declared.row.Move.TheVariants.{Discharge, Load}
use Rattle.qc_stow.specs.declared.row.Row.{Row}
use Rattle.qc_stow.specs.Columns.{columns_in}
use Rattle.qc_stow.specs.Moves.{AreMoves, is_discharge, is_load, most_moves}
use Rattle.qc_stow.specs.Stow.{moves_in, moves_of as moves_of_records, next_row, numbered}
use Rattle.qc_stow.proofs.StowFacts.{rows-keep}
use Rattle.qc_lines.specs.Records.{records_of}
use Rattle.qc_tasks.specs.InstanceOf.{instance_of, phase_with, tasks_of}
use Rattle.qc_tasks.proofs.Lists.{each_filter, each_flat_map, each_from, each_range, each_weaker, pair_map, pairs_by_index, pairs_from_index, sum_by-flat_map}
use Rattle.qc_tasks.proofs.TaskFacts.{Follows, all_follow, takes_once}
use Rattle.qc_moves_command.specs.Worked.{AreInTime, work_with}

-- ---- what a list is read as

-- moves that a list was read as, each at a bay that a hatch takes
pub read_keeps : (ship : ShipView) (text : List ℕ) (rows : List Row) → moves_in ship text ≡ Ok rows
    → AreMoves rows × All (λ row. IsSome (place_of_bay ship row.cell.bay)) rows
read_keeps ship text rows e = by (take (most_moves + 2) (records_of text)) e
  where
    by : (records : List (List (List ℕ))) → moves_of_records ship records ≡ Ok rows → AreMoves rows × All (λ row. IsSome (place_of_bay ship row.cell.bay)) rows
    by [] h = absurd (cc h)
    by (header ∷ records) h =
        let (at, named, read) = bind_ok (numbered 1 (columns_in header)) (λ at. each (next_row ship at) [] records) rows h in
        rows-keep ship at records rows read

-- ---- cells that have a bay of 20 feet in common

-- both cells cover this bay of 20 feet, in one row, both on deck or both in the hold
record AreNear (a b : CellView) : Type 0 where
  slot : ℕ
  in_first : In slot (slots a.bay)
  in_second : In slot (slots b.bay)
  row : a.row ≡ b.row
  deck : is_on_deck a ≡ is_on_deck b

near_turned : (a b : CellView) → AreNear a b → AreNear b a
near_turned a b near = record { slot = near.slot; in_first = near.in_second; in_second = near.in_first; row = sym near.row; deck = sym near.deck }

same_deck : (a b : Bool) → beq a b ≡ true → a ≡ b
same_deck true true e = refl
same_deck false false e = refl
same_deck true false e = cc e
same_deck false true e = cc e

over_near : (a b : CellView) → plans.is_over a b ≡ true → AreNear a b
over_near a b over =
    let common = (and_parts _ _ over).1 in
    let (x, (x_in, x_has)) = any_in (λ (slot : ℕ). plans.is_in_column (plans.column_at a slot) b) (slots a.bay)
    (sym (any_map (λ column. plans.is_in_column column b) (plans.column_at a) (slots a.bay)) ∙ common) in
    let (y, (y_in, same)) = any_in (λ (slot : ℕ). plans.same_column (plans.column_at a x) (plans.column_at b slot)) (slots b.bay)
    (sym (any_map (plans.same_column (plans.column_at a x)) (plans.column_at b) (slots b.bay)) ∙ x_has) in
    let (front, deck) = and_parts _ _ same in
    let (bay, row) = and_parts _ _ front in
    record {
      slot = x;
      in_first = x_in;
      in_second = subst (λ (s : ℕ). In s (slots b.bay)) (sym (eqb-true x y bay)) y_in;
      row = eqb-true a.row b.row row;
      deck = same_deck (is_on_deck a) (is_on_deck b) deck;
    }

overlap_near : (a b : CellView) → overlap a b ≡ true → AreNear a b
overlap_near a b over =
    let (front, common) = and_parts _ _ over in
    let (row, tier) = and_parts _ _ front in
    let (x, (x_in, x_has)) = any_in (λ (slot : ℕ). list_any (λ other. slot == other) (slots b.bay)) (slots a.bay) common in
    let (y, (y_in, same)) = any_in (λ (other : ℕ). x == other) (slots b.bay) x_has in
    record {
      slot = x;
      in_first = x_in;
      in_second = subst (λ (s : ℕ). In s (slots b.bay)) (sym (eqb-true x y same)) y_in;
      row = eqb-true a.row b.row row;
      deck = ap (λ (t : ℕ). nat_le 70 t) (eqb-true a.tier b.tier tier);
    }

meet_near : (a b : CellView) → meet a b ≡ true → AreNear a b
meet_near a b h = elim (cases_Bool (overlap a b)) [
  | inl over ↦ overlap_near a b over
  | inr apart ↦ elim (cases_Bool (plans.is_over a b)) [
    | inl over ↦ over_near a b over
    | inr under ↦ near_turned b a (over_near b a (rw (apart, under) at h))
  ]
]

-- what is over another cell as bay plans say it is so as sheets say it
over_sheet : (a b : CellView) → plans.is_over a b ≡ true → is_over a b ≡ true
over_sheet a b over =
    let near = over_near a b over in
    let shared : list_any (λ slot. list_any (λ other. slot == other) (slots b.bay)) (slots a.bay) ≡ true =
    in_any (λ (slot : ℕ). list_any (λ other. slot == other) (slots b.bay)) (slots a.bay) near.slot near.in_first
    (in_any (λ (other : ℕ). near.slot == other) (slots b.bay) near.slot near.in_second (eq-eqb near.slot near.slot refl)) in
    and_from _ _ (and_parts _ _ over).0 (and_from _ _ (and_from _ _ (eq-eqb a.row b.row near.row) (eq-eqb b.tier b.tier refl)) shared)

-- the hatch of a cell takes its bays of 20 feet too
takes_slot : (hatch bay slot : ℕ) → takes hatch bay ≡ true → In slot (slots bay) → takes hatch slot ≡ true
takes_slot hatch bay slot taken at = elim (cases_Bool (bay % 2 == 0)) [
  | inr odd ↦ elim (rw odd at at) [
    | inl same ↦ subst (λ (s : ℕ). takes hatch s ≡ true) same taken
    | inr none ↦ absurd none
  ]
  | inl even ↦ elim (cases_Bool (hatch % 2 == 0)) [
    | inl forty ↦
        let (low, high) = and_parts (nat_le (hatch - 1) bay) (nat_le bay (hatch + 1)) (rw forty at taken) in
        let low' = leb-true (hatch - 1) bay low in
        let high' = leb-true bay (hatch + 1) high in
        let bay_even = eqb-true (bay % 2) 0 even in
        let hatch_even = eqb-true (hatch % 2) 0 forty in
        let here : bay ≡ hatch = omega (arith, low', high', bay_even, hatch_even) in
        rw forty (elim (rw even at at) [
          | inl first ↦ and_from _ _ (le-leb (hatch - 1) slot (omega (arith, first, here))) (le-leb slot (hatch + 1) (omega (arith, first, here)))
          | inr later ↦ elim later [
            | inl second ↦ and_from _ _ (le-leb (hatch - 1) slot (omega (arith, second, here))) (le-leb slot (hatch + 1) (omega (arith, second, here)))
            | inr none ↦ absurd none
          ]
        ])
    | inr twenty ↦
        let (low, high) = and_parts (nat_le hatch bay) (nat_le bay hatch) (rw twenty at taken) in
        let here : bay ≡ hatch = omega (arith, leb-true hatch bay low, leb-true bay hatch high) in
        absurd (cc (ap (λ (n : ℕ). n % 2 == 0) here, even, twenty))
  ]
]

-- ---- of two moves the first must be made ahead of the second

-- why it must
abbrev MustLead : Row → Row → Type 0
MustLead a b =
    ((is_discharge a.kind ≡ true) × (is_discharge b.kind ≡ true) × (plans.is_over a.cell b.cell ≡ true))
    ⊎ (((is_load a.kind ≡ true) × (is_load b.kind ≡ true) × (plans.is_over b.cell a.cell ≡ true))
    ⊎ ((is_discharge a.kind ≡ true) × (is_load b.kind ≡ true) × ((bytes_eq a.id b.id ≡ true) ⊎ (meet a.cell b.cell ≡ true))))

why_lead : (a b : Row) → must_lead a b ≡ true → MustLead a b
why_lead a b h = by a.kind b.kind (plans.is_over a.cell b.cell) (plans.is_over b.cell a.cell) (bytes_eq a.id b.id) (meet a.cell b.cell) h
  where
    by : (k l : Move) (over under one near : Bool)
        → ((is_discharge k && (is_discharge l && over)) || ((is_load k && (is_load l && under)) || (is_discharge k && (is_load l && (one || near))))) ≡ true
        → ((is_discharge k ≡ true) × (is_discharge l ≡ true) × (over ≡ true))
        ⊎ (((is_load k ≡ true) × (is_load l ≡ true) × (under ≡ true))
        ⊎ ((is_discharge k ≡ true) × (is_load l ≡ true) × ((one ≡ true) ⊎ (near ≡ true))))
    by Discharge Discharge true under one near e = inl (refl, refl, refl)
    by Discharge Discharge false under one near e = absurd (cc e)
    by Load Load over true one near e = inr (inl (refl, refl, refl))
    by Load Load over false one near e = absurd (cc e)
    by Discharge Load over under true near e = inr (inr (refl, refl, inl refl))
    by Discharge Load over under false true e = inr (inr (refl, refl, inr refl))
    by Discharge Load over under false false e = absurd (cc e)
    by Load Discharge over under one near e = absurd (cc e)

-- of a discharge and a load, both on deck or both in the hold, the discharge is of the earlier phase
out_earlier : (k l : Move) (d e : Bool) → is_discharge k ≡ true → is_load l ≡ true → d ≡ e → phase_rank (phase_with k d) < phase_rank (phase_with l e)
out_earlier Discharge Load true true a b same = omega arith
out_earlier Discharge Load false false a b same = omega arith
out_earlier Discharge Load true false a b same = absurd (cc same)
out_earlier Discharge Load false true a b same = absurd (cc same)
out_earlier Load l d e a b same = absurd (cc a)
out_earlier Discharge Discharge d e a b same = absurd (cc b)

-- one that passes, of a list of which some pass
found : {X : Type 0} (p : X → Bool) (xs : List X) (d : X) → 1 ≤ tally p xs → (k : ℕ) × ((k < length xs) × (p (get_or xs k d) ≡ true))
found p [] d some = absurd (omega arith)
found p (x ∷ xs) d some = elim (cases_Bool (p x)) [
  | inl here ↦ (0, (omega arith, here))
  | inr other ↦ let (k, (low, is)) = found p xs d (rw other at some) in (suc k, (omega (arith, low), is))
]

-- one that adds to a sum, of elements of which something holds
adds : {X : Type 0} (P : X → Type 0) (g : X → ℕ) (xs : List X) → Each P xs → 1 ≤ sum_by g xs → (x : X) × (P x × (1 ≤ g x))
adds P g [] each some = absurd (omega arith)
adds P g (x ∷ xs) each some = elim (cases_lt 0 (g x)) [
  | inl here ↦ (x, (each.0, omega (arith, here)))
  | inr none ↦ let step = sum_by-cons g x xs in adds P g xs each.1 (omega (arith, some, step, none))
]

-- a list by its places
by_places : {X : Type 0} (xs : List X) (d : X) → map (λ k. get_or xs k d) (range_with_len 0 (length xs)) ≡ xs
by_places {X} xs d = front (length xs) (omega arith) ∙ take_all (length xs) xs (omega arith)
  where
    front : (n : ℕ) → n ≤ length xs → map (λ k. get_or xs k d) (range_with_len 0 n) ≡ take n xs
    front zero le = refl
    front (suc n) le =
        let more : n + 1 ≡ suc n = omega arith in
        subst (λ (m : ℕ). map (λ k. get_or xs k d) (range_with_len 0 m) ≡ take m xs) more
        (map-range_with_len_more (λ k. get_or xs k d) 0 n n (omega arith)
        ∙ ap (λ (ys : List X). ys ++ get_or xs n d ∷ []) (front n (omega (arith, le)))
        ∙ sym (take_more xs n d (omega (arith, le))))

-- ---- the work sheet

module _ (ship : ShipView) (is : IsShip ship) (rows : List Row) (moves : AreMoves rows)
    (hatches : All (λ row. IsSome (place_of_bay ship row.cell.bay)) rows) (sched : List Slot) (orders : List (List ℕ))
    (are : AreOrders rows (tasks_of ship rows) orders) (feasible : Feasible (instance_of ship rows) sched) (ordered : ship.ordered ≡ true) where
  abbrev w : WorkView
  w = work_with ship rows sched orders

  works : IsWorkable w
  works = workable ship is rows moves hatches sched orders are feasible

  -- the tasks of all cranes, each of which is one
  abbrev tasks_told : List ℕ
  tasks_told = flat_map (crane_tasks w.inst sched) (range_with_len 0 (length w.inst.cranes))

  abbrev IsNumber : ℕ → Type 0
  IsNumber j = j < length (tasks_of ship rows)

  are_tasks : Each IsNumber tasks_told
  are_tasks =
      each_flat_map IsNumber (crane_tasks w.inst sched) (range_with_len 0 (length w.inst.cranes))
      (each_from (λ k. Each IsNumber (crane_tasks w.inst sched k)) (range_with_len 0 (length w.inst.cranes))
      (λ k. each_flat_map IsNumber (λ turn. filter (has_turn w.inst sched k turn) (range_with_len 0 (length (tasks_of ship rows)))) (range_with_len 0 (length (tasks_of ship rows)))
      (each_from (λ turn. Each IsNumber (filter (has_turn w.inst sched k turn) (range_with_len 0 (length (tasks_of ship rows))))) (range_with_len 0 (length (tasks_of ship rows)))
      (λ turn. each_weaker (λ j. IsNumber j × (has_turn w.inst sched k turn j ≡ true)) IsNumber (filter (has_turn w.inst sched k turn) (range_with_len 0 (length (tasks_of ship rows)))) (λ j h. h.0)
      (each_filter IsNumber (has_turn w.inst sched k turn) (range_with_len 0 (length (tasks_of ship rows)))
      (each_weaker (λ j. (0 ≤ j) × (j < 0 + length (tasks_of ship rows))) IsNumber (range_with_len 0 (length (tasks_of ship rows))) (λ j h. omega (arith, h)) (each_range 0 (length (tasks_of ship rows)))))))))

  -- the sheet tells each move
  begins : (n : ℕ) → n < length rows → (j : ℕ) × ((t : ℕ) × Begins w n j t)
  begins n low =
      let once = works.once n low in
      let sum : sum_by (λ (j : ℕ). count_by (λ (m : ℕ). m == n) (order_of orders j)) tasks_told ≡ 1 = sym (sum_by-flat_map (λ (m : ℕ). cond (m == n) 1 0) (order_of orders) tasks_told) ∙ once in
      let (j, (j_low, some)) = adds IsNumber (λ (j : ℕ). count_by (λ (m : ℕ). m == n) (order_of orders j)) tasks_told are_tasks (omega (arith, sum)) in
      let (place, (place_low, is')) = found (λ (m : ℕ). m == n) (order_of orders j) 0 (subst (λ (k : ℕ). 1 ≤ k) (sym (tally_is (λ (m : ℕ). m == n) (order_of orders j))) some) in (
        j,
        (
          tick_at ship (task w.inst j).phase (start_of sched j) place,
          record { place = place; task_low = j_low; place_low = place_low; move_is = eqb-true (get_or (order_of orders j) place 0) n is'; tick_is = refl },
        ),
      )

  mine : (n j t : ℕ) → Begins w n j t → IsMove rows (task w.inst j) n
  mine n j t b = in_order rows (task w.inst j) (order_of orders j) (are.each j b.task_low) n
      (subst (λ m. Contains (order_of orders j) m) b.move_is (Contains-get_or (order_of orders j) b.place 0 b.place_low))

  taken : (n j t slot : ℕ) → Begins w n j t → In slot (slots (cell_at rows n).bay) → takes (task w.inst j).hatch slot ≡ true
  taken n j t slot b at = takes_slot (task w.inst j).hatch (cell_at rows n).bay slot (and_parts _ _ (mine n j t b).mine).0 at

  follow : (i j slot : ℕ) → i < j → j < length (tasks_of ship rows) → takes (task w.inst i).hatch slot ≡ true → takes (task w.inst j).hatch slot ≡ true
      → (task w.inst i).hatch ≡ (task w.inst j).hatch
  follow i j slot lt low here there = elim (pairs_by_index Follows (tasks_of ship rows) (all_follow ship is rows) i j no_task lt low).place [
    | inl same ↦ same.0
    | inr behind ↦ absurd (cc (takes_once (task w.inst i).hatch (task w.inst j).hatch slot behind.0 here, there))
  ]

  -- moves at cells that have a bay of 20 feet in common are of one hatch
  in_hatch : (m n i j s t : ℕ) → Begins w m i s → Begins w n j t → AreNear (cell_at rows m) (cell_at rows n) → BeginBoth w m n s t
  in_hatch m n i j s t b c near =
      let here = taken m i s near.slot b near.in_first in
      let there = taken n j t near.slot c near.in_second in
      record {
        first_task = i;
        second_task = j;
        first = b;
        second = c;
        one_hatch = elim (cases_order i j) [
          | inl same ↦ ap (λ k. (task w.inst k).hatch) same
          | inr other ↦ elim other [
            | inl below ↦ follow i j near.slot below c.task_low here there
            | inr above ↦ sym (follow j i near.slot above b.task_low there here)
          ]
        ];
      }

  -- a move that must be made ahead of another begins earlier
  begins_first : (m n i j s t : ℕ) → Begins w m i s → Begins w n j t → must_lead (row_at rows m) (row_at rows n) ≡ true → s < t
  begins_first m n i j s t b c leads = elim (why_lead (row_at rows m) (row_at rows n) leads) [
    | inl out ↦
        let over = out.2 in
        works.lifted m n s t (in_hatch m n i j s t b c (over_near (cell_at rows m) (cell_at rows n) over)) out.0 out.1 (over_sheet (cell_at rows m) (cell_at rows n) over)
    | inr rest ↦ elim rest [
      | inl in' ↦
          let over = in'.2 in
          works.set_down n m t s (in_hatch n m j i t s c b (over_near (cell_at rows n) (cell_at rows m) over)) in'.1 in'.0 (over_sheet (cell_at rows n) (cell_at rows m) over)
      | inr both ↦ elim both.2 [
        | inl one ↦ works.restows ordered m n i j s t b c (record { off = both.0; back = both.1; one_id = (bytes_eq-Decides (row_at rows m).id (row_at rows n).id).0 one })
        | inr near ↦
            let close = meet_near (cell_at rows m) (cell_at rows n) near in
            works.phases m n s t (in_hatch m n i j s t b c close)
            (out_earlier (row_at rows m).kind (row_at rows n).kind (is_on_deck (cell_at rows m)) (is_on_deck (cell_at rows n)) both.0 both.1 close.deck)
      ]
    ]
  ]

  module _ (told : List ℕ) (in_time : AreInTime w told) where
    lows : All (λ n. n < length rows) told
    lows = All-permutation (λ n. n < length rows) (range_with_len 0 (length rows)) told in_time.each
        (All-from_recursion (λ n. n < length rows) (range_with_len 0 (length rows)) (each_weaker (λ n. (0 ≤ n) × (n < 0 + length rows)) (λ n. n < length rows) (range_with_len 0 (length rows)) (λ n h. omega (arith, h)) (each_range 0 (length rows))))

    none_late : AllPairs (λ m n. must_lead (row_at rows n) (row_at rows m) ≡ false) told
    none_late i j d lt low =
        let m = get_or told i d in let n = get_or told j d in
        elim (cases_Bool (must_lead (row_at rows n) (row_at rows m))) [
          | inr fails ↦ fails
          | inl leads ↦
              let (k, (s, b)) = begins m (lows i d (omega (arith, lt, low))) in
              let (l, (t, c)) = begins n (lows j d low) in
              absurd (omega (arith, in_time.order i j d lt low k l s t b c, begins_first n m l k t s c b leads))
        ]

    pub in_order_of : IsOrderOf rows (map (row_at rows) told)
    in_order_of = record {
      each = subst (λ (rs : List Row). IsPermutation rs (map (row_at rows) told)) (by_places rows no_row) (IsPermutation-map (row_at rows) (range_with_len 0 (length rows)) told in_time.each);
      order = pairs_by_index (λ (a b : Row). must_lead b a ≡ false) (map (row_at rows) told)
          (pair_map (λ (a b : Row). must_lead b a ≡ false) (row_at rows) told (pairs_from_index (λ m n. must_lead (row_at rows n) (row_at rows m) ≡ false) told none_late));
    }

pub sheet_leads : (first second : List Container) (c : ChangesView) → AreContainers first → AreContainers second → AreChanges first second c
    → (ship : ShipView) (text : List ℕ) → IsShip ship → ship.ordered ≡ true → moves_in ship text ≡ Ok c.rows
    → (sched : List Slot) (orders : List (List ℕ)) → Feasible (instance_of ship c.rows) sched → AreOrders c.rows (tasks_of ship c.rows) orders
    → (told : List ℕ) → AreInTime (work_with ship c.rows sched orders) told
    → Leads (stands first) (map (row_at c.rows) told) (stands second)
sheet_leads first second c a b changes ship text is ordered read sched orders feasible are told in_time =
    let (moves, hatches) = read_keeps ship text c.rows read in
    leads_in_order first second changes.lifted c.rows a b changes.are changes.rows_are (map (row_at c.rows) told)
    (in_order_of ship is c.rows moves hatches sched orders are feasible ordered told in_time)
