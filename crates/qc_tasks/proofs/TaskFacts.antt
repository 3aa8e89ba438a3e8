-- The tasks of a ship keep what the tasks of an instance keep.
use Rattle.std.proofs.Common.{◌≡◌, ◌⊎◌, ℕ, ◌+◌, ◌*◌, ◌%◌, ◌<◌, ◌≤◌, ◌==◌, Bool, true, false, cond, List, length, refl, sym, ap, inl, inr, ◌∙◌, arith, count_by, sum_by, pos, ◌<ℤ◌, ◌&&◌, nat_eq, nat_le, find, All, Option, None, Some}
use Rattle.std.specs.List.{flat_map, zip, AllByRecursion as Each}
use Rattle.std.specs.Option.{option_map_or}
use Rattle.std.proofs.Math.Bool.{and-false}
use Rattle.std.proofs.Math.Nat.{mul-le-mul_left}
use Rattle.std.proofs.lemmas.Bool.{and_parts, cases_Bool}
use Rattle.std.proofs.lemmas.Bool.Decides.{Decides-eqb, nat_tests}
use Rattle.std.proofs.lemmas.Int.{ints}
use Rattle.std.proofs.lemmas.List.Concat.{length-flat_map}
use Rattle.std.proofs.lemmas.List.Elements.{All-contains, All-from_recursion}
use Rattle.std.proofs.lemmas.List.Sums.{sum_by-le, count_by-le-length}
use Rattle.std.proofs.lemmas.Slice.Zip.{length-zip}
use Rattle.qc_model.specs.Numbers.{most_ready, most_tasks}
use Rattle.qc_model.specs.declared.task.Phase.{Phase}
use Rattle.qc_model.specs.declared.task.Phase.TheVariants.{DeckOut, HoldOut, HoldIn, DeckIn}
use Rattle.qc_model.specs.declared.task.Task.{Task}
use Rattle.qc_model.specs.Tasks.{phase_rank, task_rank}
use Rattle.qc_ship.specs.Ship.{ShipView, IsShip, HasTimes, takes, lowest_bay, highest_bay}
use Rattle.qc_ship.specs.Cells.{is_on_deck}
use Rattle.qc_ship.specs.declared.ship.NameTick.{NameTick}
use Rattle.qc_ship.specs.declared.ship.TaskName.{TaskName}
use Rattle.qc_ship.proofs.HatchLaws.{find-Contains}
use Rattle.qc_stow.specs.declared.row.Row.{Row}
use Rattle.qc_tasks.specs.InstanceOf.{has_name, is_move_of, is_name_of, moves_at, phase_with, phases, release_at, tasks_at, tasks_of, ticks_in}
use Rattle.qc_tasks.specs.Marks.{ShareNoName}
use Rattle.qc_tasks.specs.Restows.{ShareNoMove}
use Rattle.qc_tasks.proofs.Lists.{EachPair, each_from, each_weaker, each_flat_map, pair_weaker, pair_flat_map, pair_zip, pairs_from_index, sum_by-flat_map, sum_by-each, count_none, count_one, count_four, pairs_by_index}

-- a hatch with its place lies behind another
abbrev pub Behind : ℕ × ℕ → ℕ × ℕ → Type 0
Behind g h = (highest_bay g.0 < lowest_bay h.0) × (g.1 < h.1)

pub hatches_behind : (ship : ShipView) → IsShip ship → EachPair Behind (zip ship.hatches ship.places)
hatches_behind ship is =
    pair_zip (λ g h. highest_bay g < lowest_bay h) (λ p q. p < q) ship.hatches ship.places
    (pairs_from_index (λ g h. highest_bay g < lowest_bay h) ship.hatches is.hatches.order) (pairs_from_index (λ p q. p < q) ship.places is.places.order)

bays_around : (h : ℕ) → (lowest_bay h ≤ h) × (h ≤ highest_bay h)
bays_around h = elim (cases_Bool (nat_eq (h % 2) 0)) [
  | inl even ↦ rw even (omega arith, omega arith)
  | inr odd ↦ rw odd (omega arith, omega arith)
]

pub lower_hatch : (g h : ℕ) → highest_bay g < lowest_bay h → g < h
lower_hatch g h behind = omega (arith, bays_around g, bays_around h, behind)

-- a bay is taken by one hatch at most
pub takes_once : (g h bay : ℕ) → highest_bay g < lowest_bay h → takes g bay ≡ true → takes h bay ≡ false
takes_once g h bay behind here = after (nat_le (lowest_bay g) bay) (lowest_bay h) (highest_bay g) bay (nat_le bay (highest_bay h)) behind here
  where
    after : (a : Bool) (low high bay : ℕ) (b : Bool) → high < low → (a && nat_le bay high) ≡ true → (nat_le low bay && b) ≡ false
    after true low high bay b lt here = let out : nat_le low bay ≡ false = grind (arith, nat_tests) in rw out refl
    after false low high bay b lt here = cc here

low_rank : (phase : Phase) → phase_rank phase ≤ 3
low_rank DeckOut = omega arith
low_rank HoldOut = omega arith
low_rank HoldIn = omega arith
low_rank DeckIn = omega arith

-- a task of this hatch and phase
record IsTaskIn (hatch place : ℕ) (phase : Phase) (t : Task) : Type 0 where
  hatch_is : t.hatch ≡ hatch
  phase_is : t.phase ≡ phase
  bay_is : t.bay ≡ pos place
  ticks : 1 ≤ t.ticks
  release : t.release ≤ most_ready

-- a task of this hatch
pub record IsTaskAt (hatch : ℕ × ℕ) (t : Task) : Type 0 where
  pub hatch_is : t.hatch ≡ hatch.0
  pub bay_is : t.bay ≡ pos hatch.1
  pub ticks : 1 ≤ t.ticks
  pub release : t.release ≤ most_ready

-- the later of two tasks in order
pub record Follows (t u : Task) : Type 0 where
  pub rank : task_rank t < task_rank u
  pub place : ((t.hatch ≡ u.hatch) × (t.bay ≡ u.bay)) ⊎ ((highest_bay t.hatch < lowest_bay u.hatch) × (t.bay <ℤ u.bay))

some_ticks : (ship : ShipView) → HasTimes ship → (phase : Phase) (n : ℕ) → 1 ≤ n → 1 ≤ ticks_in ship phase n
some_ticks ship times DeckOut n some = omega (arith, mul-le-mul_left n times.deck_move.0)
some_ticks ship times HoldOut n some = omega (arith, mul-le-mul_left n times.hold_move.0)
some_ticks ship times HoldIn n some = omega (arith, mul-le-mul_left n times.hold_move.0)
some_ticks ship times DeckIn n some = omega (arith, mul-le-mul_left n times.deck_move.0)

-- no task is held back too long
soon : (entries : List NameTick) → All (λ entry. entry.tick ≤ most_ready) entries → (hatch : ℕ) (phase : Phase) → release_at entries hatch phase ≤ most_ready
soon entries all hatch phase = by (find (λ (entry : NameTick). is_name_of hatch phase entry.name) entries) refl
  where
    by : (o : Option NameTick) → find (λ (entry : NameTick). is_name_of hatch phase entry.name) entries ≡ o → option_map_or (λ (entry : NameTick). entry.tick) o 0 ≤ most_ready
    by None e = omega arith
    by (Some entry) e =
        All-contains (λ (entry : NameTick). entry.tick ≤ most_ready) entries entry all
        (find-Contains (λ (entry : NameTick). is_name_of hatch phase entry.name) entries entry e)

few_ticks : (ship : ShipView) → HasTimes ship → (phase : Phase) (n : ℕ) → ticks_in ship phase n ≤ 10000 * n + 10000
few_ticks ship times DeckOut n = omega (arith, mul-le-mul_left n times.deck_move.1)
few_ticks ship times HoldOut n = omega (arith, mul-le-mul_left n times.hold_move.1, times.cover)
few_ticks ship times HoldIn n = omega (arith, mul-le-mul_left n times.hold_move.1, times.cover)
few_ticks ship times DeckIn n = omega (arith, mul-le-mul_left n times.deck_move.1)

above_zero : (n : ℕ) → nat_eq n 0 ≡ false → 1 ≤ n
above_zero n e = grind (arith, nat_tests)

follows_phase : (hatch place : ℕ) (p q : Phase) (t u : Task) → IsTaskIn hatch place p t → IsTaskIn hatch place q u → phase_rank p < phase_rank q → Follows t u
follows_phase hatch place p q t u it iu lt = record {
  rank = omega (arith, it.hatch_is, iu.hatch_is, ap phase_rank it.phase_is, ap phase_rank iu.phase_is, lt);
  place = inl (it.hatch_is ∙ sym iu.hatch_is, it.bay_is ∙ sym iu.bay_is);
}

follows_hatch : (g h : ℕ × ℕ) (t u : Task) → Behind g h → IsTaskAt g t → IsTaskAt h u → Follows t u
follows_hatch g h t u behind it iu = record {
  rank = omega (arith, it.hatch_is, iu.hatch_is, lower_hatch g.0 h.0 behind.0, low_rank t.phase, low_rank u.phase);
  place = inr (rw (it.hatch_is, iu.hatch_is) behind.0, omega (arith, ints, it.bay_is, iu.bay_is, behind.1));
}

pub phases_rise : EachPair (λ p q. phase_rank p < phase_rank q) phases
phases_rise = ((omega arith, (omega arith, (omega arith, tt))), ((omega arith, (omega arith, tt)), ((omega arith, tt), (tt, tt))))

module _ (ship : ShipView) (is : IsShip ship) (rows : List Row) where
  tasks_at_are : (h : ℕ × ℕ) (phase : Phase) → Each (IsTaskIn h.0 h.1 phase) (tasks_at ship rows h.0 h.1 phase)
  tasks_at_are h phase = elim (cases_Bool (nat_eq (moves_at rows h.0 phase) 0)) [
    | inl none ↦ rw none tt
    | inr some ↦ rw some (record { hatch_is = refl; phase_is = refl; bay_is = refl; ticks = some_ticks ship is.times phase _ (above_zero _ some); release = soon ship.not_before (λ k d lt. (is.not_before.range k d lt).1) h.0 phase }, tt)
  ]

  one_follows : (h : ℕ × ℕ) (phase : Phase) → EachPair Follows (tasks_at ship rows h.0 h.1 phase)
  one_follows h phase = elim (cases_Bool (nat_eq (moves_at rows h.0 phase) 0)) [
    | inl none ↦ rw none tt
    | inr some ↦ rw some (tt, tt)
  ]

  one_long : (h : ℕ × ℕ) (phase : Phase) → length (tasks_at ship rows h.0 h.1 phase) ≤ 1
  one_long h phase = elim (cases_Bool (nat_eq (moves_at rows h.0 phase) 0)) [
    | inl none ↦ rw none (omega arith)
    | inr some ↦ rw some (omega arith)
  ]

  pub one_work : (h : ℕ × ℕ) (phase : Phase) → sum_by (λ (t : Task). t.ticks) (tasks_at ship rows h.0 h.1 phase) ≤ 10000 * moves_at rows h.0 phase + 10000
  one_work h phase = elim (cases_Bool (nat_eq (moves_at rows h.0 phase) 0)) [
    | inl none ↦ rw none (omega arith)
    | inr some ↦ rw some (omega (arith, few_ticks ship is.times phase (moves_at rows h.0 phase)))
  ]

  pub hatch_are : (h : ℕ × ℕ) → Each (IsTaskAt h) (flat_map (tasks_at ship rows h.0 h.1) phases)
  hatch_are h =
      each_flat_map (IsTaskAt h) (tasks_at ship rows h.0 h.1) phases
      (each_from (λ p. Each (IsTaskAt h) (tasks_at ship rows h.0 h.1 p)) phases
      (λ p. each_weaker (IsTaskIn h.0 h.1 p) (IsTaskAt h) (tasks_at ship rows h.0 h.1 p) (λ t it. record { hatch_is = it.hatch_is; bay_is = it.bay_is; ticks = it.ticks; release = it.release }) (tasks_at_are h p)))

  hatch_follow : (h : ℕ × ℕ) → EachPair Follows (flat_map (tasks_at ship rows h.0 h.1) phases)
  hatch_follow h =
      pair_flat_map Follows (tasks_at ship rows h.0 h.1) phases (each_from (λ p. EachPair Follows (tasks_at ship rows h.0 h.1 p)) phases (one_follows h))
      (pair_weaker (λ p q. phase_rank p < phase_rank q) (λ p q. Each (λ t. Each (Follows t) (tasks_at ship rows h.0 h.1 q)) (tasks_at ship rows h.0 h.1 p)) phases
      (λ p q lt. each_weaker (IsTaskIn h.0 h.1 p) (λ t. Each (Follows t) (tasks_at ship rows h.0 h.1 q)) (tasks_at ship rows h.0 h.1 p)
      (λ t it. each_weaker (IsTaskIn h.0 h.1 q) (Follows t) (tasks_at ship rows h.0 h.1 q) (λ u iu. follows_phase h.0 h.1 p q t u it iu lt) (tasks_at_are h q)) (tasks_at_are h p))
      phases_rise)

  -- the tasks are in order
  pub all_follow : EachPair Follows (tasks_of ship rows)
  all_follow =
      pair_flat_map Follows (λ h. flat_map (tasks_at ship rows h.0 h.1) phases) (zip ship.hatches ship.places)
      (each_from (λ h. EachPair Follows (flat_map (tasks_at ship rows h.0 h.1) phases)) (zip ship.hatches ship.places) hatch_follow)
      (pair_weaker Behind (λ g h. Each (λ t. Each (Follows t) (flat_map (tasks_at ship rows h.0 h.1) phases)) (flat_map (tasks_at ship rows g.0 g.1) phases)) (zip ship.hatches ship.places)
      (λ g h behind. each_weaker (IsTaskAt g) (λ t. Each (Follows t) (flat_map (tasks_at ship rows h.0 h.1) phases)) (flat_map (tasks_at ship rows g.0 g.1) phases)
      (λ t it. each_weaker (IsTaskAt h) (Follows t) (flat_map (tasks_at ship rows h.0 h.1) phases) (λ u iu. follows_hatch g h t u behind it iu) (hatch_are h)) (hatch_are g))
      (hatches_behind ship is))

  hatch_long : (h : ℕ × ℕ) → length (flat_map (tasks_at ship rows h.0 h.1) phases) ≤ 4
  hatch_long h = omega (arith, length-flat_map (tasks_at ship rows h.0 h.1) phases, sum_by-le (λ p. length (tasks_at ship rows h.0 h.1 p)) 1 phases (All-from_recursion (λ p. length (tasks_at ship rows h.0 h.1 p) ≤ 1) phases (each_from (λ p. length (tasks_at ship rows h.0 h.1 p) ≤ 1) phases (one_long h))))

  pub few_tasks : length (tasks_of ship rows) ≤ most_tasks
  few_tasks =
      omega (
        arith,
        is.hatches.count,
        length-zip ship.hatches ship.places,
        length-flat_map (λ h. flat_map (tasks_at ship rows h.0 h.1) phases) (zip ship.hatches ship.places),
        sum_by-le (λ h. length (flat_map (tasks_at ship rows h.0 h.1) phases)) 4 (zip ship.hatches ship.places) (All-from_recursion (λ h. length (flat_map (tasks_at ship rows h.0 h.1) phases) ≤ 4) (zip ship.hatches ship.places) (each_from (λ h. length (flat_map (tasks_at ship rows h.0 h.1) phases) ≤ 4) (zip ship.hatches ship.places) hatch_long)),
      )

  -- at most four tasks are of one hatch
  hatch_count : (c : ℕ) (h : ℕ × ℕ) → count_by (λ (t : Task). t.hatch == c) (flat_map (tasks_at ship rows h.0 h.1) phases) ≤ cond (h.0 == c) 4 0
  hatch_count c h = elim (cases_Bool (h.0 == c)) [
    | inl here ↦ rw here (omega (arith, hatch_long h, count_by-le-length (λ (t : Task). t.hatch == c) (flat_map (tasks_at ship rows h.0 h.1) phases)))
    | inr other ↦ rw other (omega (arith, count_none (λ (t : Task). t.hatch == c) (flat_map (tasks_at ship rows h.0 h.1) phases) (each_weaker (IsTaskAt h) (λ t. (t.hatch == c) ≡ false) (flat_map (tasks_at ship rows h.0 h.1) phases) (λ t it. ap (λ n. n == c) it.hatch_is ∙ other) (hatch_are h))))
  ]

  pub four_tasks : (c : ℕ) → count_by (λ (t : Task). t.hatch == c) (tasks_of ship rows) ≤ 4
  four_tasks c =
      let few = count_one (λ (h : ℕ × ℕ). h.0 == c) (zip ship.hatches ship.places) (pair_weaker Behind (λ g h. (g.0 == c) ≡ true → (h.0 == c) ≡ false) (zip ship.hatches ship.places) (λ g h behind here. other_number g.0 h.0 c (lower_hatch g.0 h.0 behind.0) here) (hatches_behind ship is)) in
      omega (
        arith,
        few,
        count_four (λ (h : ℕ × ℕ). h.0 == c) (zip ship.hatches ship.places),
        sum_by-flat_map (λ (t : Task). cond (t.hatch == c) 1 0) (λ h. flat_map (tasks_at ship rows h.0 h.1) phases) (zip ship.hatches ship.places),
        sum_by-each (λ h. count_by (λ (t : Task). t.hatch == c) (flat_map (tasks_at ship rows h.0 h.1) phases)) (λ h. cond (h.0 == c) 4 0) (zip ship.hatches ship.places) (each_from (λ h. count_by (λ (t : Task). t.hatch == c) (flat_map (tasks_at ship rows h.0 h.1) phases) ≤ cond (h.0 == c) 4 0) (zip ship.hatches ship.places) (hatch_count c)),
      )
    where
      other_number : (g h c : ℕ) → g < h → (g == c) ≡ true → (h == c) ≡ false
      other_number g h c lt here = grind (arith, nat_tests)

  -- a move belongs to one task at most
  one_task : (t u : Task) → Follows t u → (row : Row) → is_move_of t row ≡ true → is_move_of u row ≡ false
  one_task t u f row mine =
      let parts = and_parts _ _ mine in
      elim f.place [
        | inl same ↦
            let phase = (Decides-eqb (phase_rank (phase_with row.kind (is_on_deck row.cell))) (phase_rank t.phase)).0 parts.1 in
            let later : phase_rank t.phase < phase_rank u.phase = omega (arith, f.rank, same.0) in
            let other : (phase_rank (phase_with row.kind (is_on_deck row.cell)) == phase_rank u.phase) ≡ false = grind (arith, nat_tests, phase, later) in
            rw other (and-false (takes u.hatch row.cell.bay))
        | inr behind ↦ rw (takes_once t.hatch u.hatch row.cell.bay behind.0 parts.0) refl
      ]

  -- two tasks have two names
  one_name : (t u : Task) → Follows t u → (name : TaskName) → has_name name t ≡ true → has_name name u ≡ false
  one_name t u f name mine = elim (cases_Bool (has_name name u)) [
    | inr other ↦ other
    | inl yours ↦
        let (hatch, phase) = and_parts (t.hatch == name.hatch) (phase_rank t.phase == phase_rank name.phase) mine in
        let (same_hatch, same_phase) = and_parts (u.hatch == name.hatch) (phase_rank u.phase == phase_rank name.phase) yours in
        absurd (omega (
          arith,
          f.rank,
          (Decides-eqb t.hatch name.hatch).0 hatch,
          (Decides-eqb u.hatch name.hatch).0 same_hatch,
          (Decides-eqb (phase_rank t.phase) (phase_rank name.phase)).0 phase,
          (Decides-eqb (phase_rank u.phase) (phase_rank name.phase)).0 same_phase,
        ))
  ]

  pub share_no_name : ShareNoName (tasks_of ship rows)
  share_no_name =
      pairs_by_index (λ t u. (name : TaskName) → has_name name t ≡ true → has_name name u ≡ false) (tasks_of ship rows)
      (pair_weaker Follows (λ t u. (name : TaskName) → has_name name t ≡ true → has_name name u ≡ false) (tasks_of ship rows) one_name all_follow)

  pub share_no_move : ShareNoMove (tasks_of ship rows)
  share_no_move =
      pairs_by_index (λ t u. (row : Row) → is_move_of t row ≡ true → is_move_of u row ≡ false) (tasks_of ship rows)
      (pair_weaker Follows (λ t u. (row : Row) → is_move_of t row ≡ true → is_move_of u row ≡ false) (tasks_of ship rows) one_task all_follow)
