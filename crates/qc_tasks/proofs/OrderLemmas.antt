-- The order of a ship's tasks, with some of the planner's entries and with all.
use Rattle.std.proofs.Common.{◌≡◌, ℕ, zero, suc, ◌-◌, ◌<◌, ◌≤◌, ◌∷◌, ◌&&◌, ◌||◌, [], Bool, true, false, List, Ok, Err, None, Some, length, take, drop, refl, sym, ap, subst, inl, inr, ◌∙◌, arith, Contains}
use Rattle.std.specs.List.{list_any}
use Rattle.std.specs.Str.{bytes_eq}
use Rattle.std.proofs.lemmas.Bool.{and_parts, cases_Bool, cases_lt, or_cases, or_left, or_right}
use Rattle.std.proofs.lemmas.Bool.Decides.{Decides-eqb, Decides-ltb}
use Rattle.std.proofs.lemmas.List.{take-append-drop, take_all}
use Rattle.std.proofs.lemmas.List.Folds.{list_any-append}
use Rattle.qc_model.specs.declared.task.Task.{Task}
use Rattle.qc_model.specs.declared.pair.Pair.{Pair}
use Rattle.qc_model.specs.Numbers.{most_tasks}
use Rattle.qc_model.specs.Tasks.{phase_rank}
use Rattle.qc_model.specs.Instance.{IsPath, pair_of}
use Rattle.qc_ship.specs.declared.ship.NamePair.{NamePair}
use Rattle.qc_ship.specs.Ship.{ShipView, IsShip}
use Rattle.qc_ship.specs.Cells.{is_on_deck}
use Rattle.qc_stow.specs.Moves.{is_discharge, is_load}
use Rattle.qc_stow.specs.declared.row.Move.{Move}
use Rattle.qc_stow.specs.declared.row.Move.TheVariants.{Discharge, Load}
use Rattle.qc_stow.specs.declared.row.Row.{Row}
use Rattle.qc_tasks.specs.InstanceOf.{before_of, brings_back, discharges, instance_of, is_asked, is_before, is_earlier_phase, is_move_of, is_put_before, is_restow, phase_with, puts_before, task_at, tasks_of}
use Rattle.qc_tasks.specs.Marks.{AreBelow}
use Rattle.qc_tasks.specs.Rings.{ClosesRing, before_with, first_ring, has_ring, tasks_due}
use Rattle.qc_tasks.proofs.Lists.{any_some}
use Rattle.qc_tasks.proofs.PairFacts.{pairs_have, pairs_pass}
use Rattle.qc_tasks.proofs.TaskFacts.{few_tasks}
use Rattle.qc_tasks.proofs.RingLemmas.{find_none, find_some, no_path, path_weaker, ring_path}

path_rises : (pairs : List Pair) (rank : ℕ → ℕ) → ((i j : ℕ) → Contains pairs (pair_of i j) → rank i < rank j) → (i : ℕ) (via : List ℕ) (j : ℕ) → IsPath pairs i via j → rank i < rank j
path_rises pairs rank rises i [] j has = rises i j has
path_rises pairs rank rises i (k ∷ ks) j path = omega (arith, rises i k path.0, path_rises pairs rank rises k ks j path.1)

-- a front of a list passes no more than the list
any_front : {X : Type 0} (test : X → Bool) (n : ℕ) (xs : List X) → list_any test (take n xs) ≡ true → list_any test xs ≡ true
any_front {X} test n xs e =
    ap (list_any test) (sym (take-append-drop n xs)) ∙ list_any-append test (take n xs) (drop n xs) ∙ or_left (list_any test (take n xs)) (list_any test (drop n xs)) e

module _ (ship : ShipView) (rows : List Row) where
  -- the phase of a task by one of its moves
  task_phase : (t : Task) (row : Row) → is_move_of t row ≡ true → phase_rank (phase_with row.kind (is_on_deck row.cell)) ≡ phase_rank t.phase
  task_phase t row mine = (Decides-eqb (phase_rank (phase_with row.kind (is_on_deck row.cell))) (phase_rank t.phase)).0 (and_parts _ _ mine).1

  load_late : (kind : Move) (deck : Bool) → is_load kind ≡ true → 2 ≤ phase_rank (phase_with kind deck)
  load_late Discharge deck e = cc e
  load_late Load true e = omega arith
  load_late Load false e = omega arith

  discharge_soon : (kind : Move) (deck : Bool) → is_discharge kind ≡ true → phase_rank (phase_with kind deck) ≤ 1
  discharge_soon Discharge true e = omega arith
  discharge_soon Discharge false e = omega arith
  discharge_soon Load deck e = cc e

  restows_rise : (tasks : List Task) (i j : ℕ) → is_restow tasks rows i j ≡ true → phase_rank (task_at tasks i).phase < phase_rank (task_at tasks j).phase
  restows_rise tasks i j e =
      let t = task_at tasks i in
      let u = task_at tasks j in
      let (back, comes) = any_some (brings_back rows t u) rows e in
      let (loads, late) = and_parts (is_load back.kind && list_any (discharges t back.id) rows) (is_move_of u back) comes in
      let (is_loaded, some) = and_parts (is_load back.kind) (list_any (discharges t back.id) rows) loads in
      let (out, leaves) = any_some (discharges t back.id) rows some in
      let (off, same) = and_parts (is_discharge out.kind && is_move_of t out) (bytes_eq out.id back.id) leaves in
      let (is_out, soon) = and_parts (is_discharge out.kind) (is_move_of t out) off in
      omega (
        arith,
        task_phase t out soon,
        task_phase u back late,
        discharge_soon out.kind (is_on_deck out.cell) is_out,
        load_late back.kind (is_on_deck back.cell) is_loaded,
      )

  built_in_rises : (tasks : List Task) (i j : ℕ) → is_before (is_asked ship.ordered [] rows tasks) tasks i j ≡ true → phase_rank (task_at tasks i).phase < phase_rank (task_at tasks j).phase
  built_in_rises tasks i j e = elim (or_cases _ _ e) [
    | inl earlier ↦ (Decides-ltb (phase_rank (task_at tasks i).phase) (phase_rank (task_at tasks j).phase)).0 (and_parts _ _ earlier).1
    | inr asked ↦ elim (or_cases (ship.ordered && is_restow tasks rows i j) false asked) [
      | inl restow ↦ restows_rise tasks i j (and_parts ship.ordered (is_restow tasks rows i j) restow).1
      | inr none ↦ cc none
    ]
  ]

  -- the order with these entries
  abbrev order : List NamePair → List Pair
  order entries = before_of ship.ordered entries rows (tasks_of ship rows)

  pub low_first : (entries : List NamePair) (i j : ℕ) → Contains (order entries) (pair_of i j) → i < length (tasks_of ship rows)
  low_first entries i j has =
      (pairs_pass (length (tasks_of ship rows)) (is_before (is_asked ship.ordered entries rows (tasks_of ship rows)) (tasks_of ship rows)) i j has).0

  pub below_most : IsShip ship → (entries : List NamePair) → AreBelow most_tasks (order entries)
  below_most is entries i j has =
      let p = pairs_pass (length (tasks_of ship rows)) (is_before (is_asked ship.ordered entries rows (tasks_of ship rows)) (tasks_of ship rows)) i j has in
      (omega (arith, p.0, few_tasks ship is rows), omega (arith, p.1, few_tasks ship is rows))

  -- without an entry there is no ring
  no_ring_built_in : (i : ℕ) (via : List ℕ) → ¬ IsPath (order []) i via i
  no_ring_built_in i via path =
      let tasks = tasks_of ship rows in
      let rise = path_rises (order []) (λ k. phase_rank (task_at tasks k).phase)
      (λ a b has. built_in_rises tasks a b (pairs_pass (length tasks) (is_before (is_asked ship.ordered [] rows tasks) tasks) a b has).2) i via i path in
      absurd (omega (arith, rise))

  -- what is before by a front of the entries is before by all
  front_pairs : (n i j : ℕ) → Contains (order (take n ship.before)) (pair_of i j) → Contains (order ship.before) (pair_of i j)
  front_pairs n i j has =
      let tasks = tasks_of ship rows in
      let restow = ship.ordered && is_restow tasks rows i j in
      let earlier = is_earlier_phase (task_at tasks i) (task_at tasks j) in
      let (il, jl, passes) = pairs_pass (length tasks) (is_before (is_asked ship.ordered (take n ship.before) rows tasks) tasks) i j has in
      let few = is_put_before (take n ship.before) tasks i j in
      let all = is_put_before ship.before tasks i j in
      let more : (earlier || (restow || all)) ≡ true = elim (or_cases earlier (restow || few) passes) [
        | inl phase ↦ or_left earlier (restow || all) phase
        | inr asked ↦ or_right earlier (restow || all) (elim (or_cases restow few asked) [
          | inl back ↦ or_left restow all back
          | inr put ↦ or_right restow all (any_front (puts_before (task_at tasks i) (task_at tasks j)) n ship.before put)
        ])
      ] in
      pairs_have (length tasks) (is_before (is_asked ship.ordered ship.before rows tasks) tasks) i j il jl more

  -- no ring with all entries: then none with fewer
  pub none_due : has_ring (length (tasks_of ship rows)) (order ship.before) ≡ false → tasks_due ship rows ≡ Ok (instance_of ship rows)
  none_due none =
      let test : ℕ → Bool = λ k. has_ring (length (tasks_of ship rows)) (before_with ship rows k) in
      let found : first_ring ship rows ≡ None = find_none test 1 (length ship.before) (λ k low high. elim (cases_Bool (test k)) [
        | inr no_ring ↦ no_ring
        | inl ring ↦
            let (i, way) = ring_path (length (tasks_of ship rows)) (before_with ship rows k) ring in
            absurd (no_path (length (tasks_of ship rows)) (order ship.before) (low_first ship.before) none i way.0
            (path_weaker (before_with ship rows k) (order ship.before) (front_pairs k) i way.0 i way.1))
      ]) in
      rw found refl

  -- the first of the entries with which there is a ring
  pub ring_due : (k : ℕ) → 1 ≤ k → k ≤ length ship.before → has_ring (length (tasks_of ship rows)) (before_with ship rows k) ≡ true
      → ((n : ℕ) → 1 ≤ n → n < k → has_ring (length (tasks_of ship rows)) (before_with ship rows n) ≡ false)
      → (tasks_due ship rows ≡ Err k) × ClosesRing ship rows k
  ring_due k low high here earlier =
      let test : ℕ → Bool = λ k. has_ring (length (tasks_of ship rows)) (before_with ship rows k) in
      let (i, way) = ring_path (length (tasks_of ship rows)) (before_with ship rows k) here in
      let found : first_ring ship rows ≡ Some k = find_some test 1 (length ship.before) k low (omega arith) here earlier in (
        rw found refl,
        record {
          count = (low, high);
          ring = (i, way.0, way.1);
          first = λ n lt. at n lt;
        },
      )
    where
      at : (n : ℕ) → n < k → (i : ℕ) (via : List ℕ) → ¬ IsPath (before_with ship rows n) i via i
      at zero lt = no_ring_built_in
      at (suc n) lt = no_path (length (tasks_of ship rows)) (before_with ship rows (suc n)) (low_first (take (suc n) ship.before)) (earlier (suc n) (omega arith) lt)

  -- a ring comes with some entry
  pub some_ring : has_ring (length (tasks_of ship rows)) (order ship.before) ≡ true
      → ((n : ℕ) → 1 ≤ n → n ≤ length ship.before → has_ring (length (tasks_of ship rows)) (before_with ship rows n) ≡ false) → ⊥
  some_ring ring none = elim (cases_lt 0 (length ship.before)) [
    | inl some ↦
        let whole : take (length ship.before) ship.before ≡ ship.before = take_all (length ship.before) ship.before (omega arith) in
        cc (sym ring ∙ ap (λ (es : List NamePair). has_ring (length (tasks_of ship rows)) (order es)) (sym whole) ∙ none (length ship.before) (omega arith) (omega arith))
    | inr empty ↦
        let (i, way) = ring_path (length (tasks_of ship rows)) (order ship.before) ring in
        let nothing : ship.before ≡ [] = no_entries ship.before (omega arith) in
        no_ring_built_in i way.0 (subst (λ (es : List NamePair). IsPath (order es) i way.0 i) nothing way.1)
  ]
    where
      no_entries : (es : List NamePair) → length es ≤ 0 → es ≡ []
      no_entries [] h = refl
      no_entries (e ∷ es) h = absurd (omega arith)
