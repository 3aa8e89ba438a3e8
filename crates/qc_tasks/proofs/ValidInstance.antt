-- The instance of a ship and its moves is valid.
use Rattle.std.proofs.Common.{◌≡◌, ◌≢◌, ◌↔◌, ℕ, ℤ, map, ◌+◌, ◌-◌, ◌<◌, ◌≤◌, ◌==◌, Bool, true, false, List, length, get_or, min, max, refl, sym, ap, inl, inr, ◌∙◌, arith, AllPairs, Contains, pos, nat_lt}
use Rattle.std.specs.List.{flat_map, zip, AllByRecursion as Each}
use Rattle.std.proofs.lemmas.Bool.{and_parts, cases_Bool, cases_lt, or_left}
use Rattle.std.proofs.lemmas.Bool.Decides.{Decides-eqb, Decides-ltb}
use Rattle.std.proofs.lemmas.Int.{ints}
use Rattle.std.proofs.lemmas.List.{get_or_default}
use Rattle.std.proofs.lemmas.List.Elements.{All-contains, All-from_recursion, All-map, recursion_from_All}
use Rattle.std.proofs.lemmas.List.FromFn.{get_or-range_with_len}
use Rattle.qc_model.specs.Numbers.{most_gap_by_places, most_hatches, most_place, most_ready}
use Rattle.qc_model.specs.declared.task.Task.{Task}
use Rattle.qc_model.specs.declared.crane.Crane.{Crane}
use Rattle.qc_model.specs.declared.pair.Pair.{Pair}
use Rattle.qc_model.specs.Tasks.{phase_rank}
use Rattle.qc_model.specs.declared.turn.Turn.TheVariants.{OneWay}
use Rattle.qc_model.specs.Instance.{InstanceView, HasBayLimits, HasPlaceLimits, HasValidTasks, HasValidCranes, HasValidBefore, HasValidApart, IsFrom, IsPath, Valid, no_crane, no_task, pair_of}
use Rattle.qc_ship.specs.declared.ship.HatchPair.{HatchPair}
use Rattle.qc_ship.specs.Ship.{ShipView, IsShip, greatest_place}
use Rattle.qc_stow.specs.Moves.{most_moves}
use Rattle.qc_stow.specs.declared.row.Row.{Row}
use Rattle.qc_tasks.specs.InstanceOf.{apart_of, before_of, instance_of, is_apart, is_asked, is_before, is_earlier_phase, names_both, phases, task_at, tasks_at, tasks_of}
use Rattle.qc_tasks.proofs.Lists.{any_each, each_from, each_weaker, each_flat_map, each_zip, pairs_by_index}
use Rattle.qc_tasks.proofs.TaskFacts.{Follows, IsTaskAt, all_follow, few_tasks, four_tasks, hatch_are, lower_hatch}
use Rattle.qc_tasks.proofs.WorkFacts.{all_work}
use Rattle.qc_tasks.proofs.PairFacts.{few_apart, pairs_have, pairs_pass, pairs_sorted}
use Rattle.qc_model.proofs.NodeLemmas.{before_found}

-- the last place is the greatest
last_greatest : (ship : ShipView) → IsShip ship → (k d : ℕ) → k < length ship.places → get_or ship.places k d ≤ greatest_place ship
last_greatest ship is k d lt = elim (cases_lt k (length ship.places - 1)) [
  | inl before ↦ omega (arith, is.places.order k (length ship.places - 1) 0 before (omega arith), get_or_default ship.places k d 0 lt)
  | inr last ↦
      let same : k ≡ length ship.places - 1 = omega arith in
      let e : get_or ship.places k d ≡ greatest_place ship = get_or_default ship.places k d 0 lt ∙ ap (λ n. get_or ship.places n 0) same in omega (arith, e)
]

-- each place is one of the crane bays of the ship
place_within : (ship : ShipView) → IsShip ship → (x : ℤ) → Contains (map pos ship.places) x → IsFrom (pos 1) (pos (greatest_place ship)) x
place_within ship is x has =
    All-contains (IsFrom (pos 1) (pos (greatest_place ship))) (map pos ship.places) x
    (All-map (IsFrom (pos 1) (pos (greatest_place ship))) pos ship.places (λ k d lt. let low = (is.places.range k d lt).0 in let high = last_greatest ship is k d lt in (omega (arith, ints, low), omega (arith, ints, high))))
    has

some_place : (ship : ShipView) → IsShip ship → length ship.places - 1 < length ship.places
some_place ship is = omega (arith, is.places.count, is.hatches.count)

bays_low : (ship : ShipView) → IsShip ship → 1 ≤ greatest_place ship
bays_low ship is = (is.places.range (length ship.places - 1) 0 (some_place ship is)).0

pub bays_high : (ship : ShipView) → IsShip ship → greatest_place ship ≤ most_place
bays_high ship is = (is.places.range (length ship.places - 1) 0 (some_place ship is)).1

pub gap_high : (ship : ShipView) → IsShip ship → ship.gap ≤ most_gap_by_places
gap_high ship is = elim (cases_Bool ship.in_decimetres) [
  | inl given ↦ let h = rw given at is.times.gap.1 in h
  | inr counted ↦ let h = rw counted at is.times.gap.1 in omega (arith, h)
]

bays_counted : (ship : ShipView) → IsShip ship → ship.in_decimetres ≡ false → greatest_place ship ≤ most_hatches
bays_counted ship is counted =
    let last : length ship.hatches - 1 < length ship.hatches = omega (arith, is.hatches.count) in
    let e : greatest_place ship ≡ 1 + (length ship.hatches - 1) =
    ap (λ n. get_or ship.places (n - 1) 0) is.places.count ∙ ap (λ (ps : List ℕ). get_or ps (length ship.hatches - 1) 0) (is.places.counted counted) ∙ get_or-range_with_len 1 (length ship.hatches) (length ship.hatches - 1) 0 last in
    omega (arith, e, is.hatches.count)

module _ (ship : ShipView) (is : IsShip ship) (rows : List Row) where
  bay_limits : ship.in_decimetres ≡ false → HasBayLimits (instance_of ship rows)
  bay_limits counted = record {
    bays = (bays_low ship is, bays_counted ship is counted);
    travel = (is.times.travel.0, rw counted at is.times.travel.1);
    gap = (is.times.gap.0, rw counted at is.times.gap.1);
    berths = λ k lt.
        let start = rw counted at (is.cranes.starts k no_crane lt) in
        let low = bays_low ship is in let high = bays_counted ship is counted in
        ((omega (arith, ints, start), omega (arith, ints, start)), (omega (arith, ints, start, low, high), omega (arith, ints, start, low, high)));
  }

  place_limits : ship.in_decimetres ≡ true → HasPlaceLimits (instance_of ship rows)
  place_limits given = record {
    bays = (bays_low ship is, bays_high ship is);
    travel = (is.times.travel.0, rw given at is.times.travel.1);
    gap = (is.times.gap.0, rw given at is.times.gap.1);
    berths = λ k lt.
        let start = rw given at (is.cranes.starts k no_crane lt) in
        let low = bays_low ship is in let high = bays_high ship is in
        ((omega (arith, ints, start), omega (arith, ints, start)), (omega (arith, ints, start, low, high), omega (arith, ints, start, low, high)));
  }

  pub tasks_within : Each (λ (t : Task). IsFrom (pos 1) (pos (greatest_place ship)) t.bay) (tasks_of ship rows)
  tasks_within =
      each_flat_map (λ (t : Task). IsFrom (pos 1) (pos (greatest_place ship)) t.bay) (λ h. flat_map (tasks_at ship rows h.0 h.1) phases) (zip ship.hatches ship.places)
      (each_weaker (λ (h : ℕ × ℕ). Unit {0} × ((1 ≤ h.1) × (h.1 ≤ greatest_place ship))) (λ h. Each (λ (t : Task). IsFrom (pos 1) (pos (greatest_place ship)) t.bay) (flat_map (tasks_at ship rows h.0 h.1) phases)) (zip ship.hatches ship.places)
      (λ h within. each_weaker (IsTaskAt h) (λ (t : Task). IsFrom (pos 1) (pos (greatest_place ship)) t.bay) (flat_map (tasks_at ship rows h.0 h.1) phases)
      (λ t it. (omega (arith, ints, it.bay_is, within.1), omega (arith, ints, it.bay_is, within.1))) (hatch_are ship is rows h))
      (each_zip (λ _. Unit {0}) (λ p. (1 ≤ p) × (p ≤ greatest_place ship)) ship.hatches ship.places (each_from (λ _. Unit {0}) ship.hatches (λ _. tt))
      (recursion_from_All (λ p. (1 ≤ p) × (p ≤ greatest_place ship)) ship.places (λ k d lt. ((is.places.range k d lt).0, last_greatest ship is k d lt)))))

  tasks_last : Each (λ (t : Task). 1 ≤ t.ticks) (tasks_of ship rows)
  tasks_last =
      each_flat_map (λ (t : Task). 1 ≤ t.ticks) (λ h. flat_map (tasks_at ship rows h.0 h.1) phases) (zip ship.hatches ship.places)
      (each_from (λ h. Each (λ (t : Task). 1 ≤ t.ticks) (flat_map (tasks_at ship rows h.0 h.1) phases)) (zip ship.hatches ship.places)
      (λ h. each_weaker (IsTaskAt h) (λ (t : Task). 1 ≤ t.ticks) (flat_map (tasks_at ship rows h.0 h.1) phases) (λ t it. it.ticks) (hatch_are ship is rows h)))

  tasks_soon : Each (λ (t : Task). t.release ≤ most_ready) (tasks_of ship rows)
  tasks_soon =
      each_flat_map (λ (t : Task). t.release ≤ most_ready) (λ h. flat_map (tasks_at ship rows h.0 h.1) phases) (zip ship.hatches ship.places)
      (each_from (λ h. Each (λ (t : Task). t.release ≤ most_ready) (flat_map (tasks_at ship rows h.0 h.1) phases)) (zip ship.hatches ship.places)
      (λ h. each_weaker (IsTaskAt h) (λ (t : Task). t.release ≤ most_ready) (flat_map (tasks_at ship rows h.0 h.1) phases) (λ t it. it.release) (hatch_are ship is rows h)))

  pub follow : AllPairs Follows (tasks_of ship rows)
  follow = pairs_by_index Follows (tasks_of ship rows) (all_follow ship is rows)

  same_bay : (t u : Task) → Follows t u → (t.bay ≡ u.bay) ↔ (t.hatch ≡ u.hatch)
  same_bay t u f = elim f.place [
    | inl same ↦ ((λ _. same.0), (λ _. same.1))
    | inr later ↦ ((λ e. absurd (omega (arith, ints, e, later.1))), (λ e. absurd (omega (arith, e, lower_hatch t.hatch u.hatch later.0))))
  ]

  other_way : {A : Type 0} (a b : A) (m n : ℕ) → (a ≡ b) ↔ (m ≡ n) → (b ≡ a) ↔ (n ≡ m)
  other_way a b m n same = ((λ e. sym (same.0 (sym e))), (λ e. sym (same.1 (sym e))))

  bays_of_hatches : (i j : ℕ) → i < length (tasks_of ship rows) → j < length (tasks_of ship rows) → ((task_at (tasks_of ship rows) i).bay ≡ (task_at (tasks_of ship rows) j).bay) ↔ ((task_at (tasks_of ship rows) i).hatch ≡ (task_at (tasks_of ship rows) j).hatch)
  bays_of_hatches i j il jl = elim (cases_lt i j) [
    | inl before ↦ same_bay _ _ (follow i j no_task before jl)
    | inr after ↦ elim (cases_lt j i) [
      | inl later ↦ other_way _ _ _ _ (same_bay _ _ (follow j i no_task later il))
      | inr still ↦ let same : i ≡ j = omega arith in ((λ _. ap (λ k. (task_at (tasks_of ship rows) k).hatch) same), (λ _. ap (λ k. (task_at (tasks_of ship rows) k).bay) same))
    ]
  ]

  pub valid_tasks : length rows ≤ most_moves → HasValidTasks (instance_of ship rows)
  valid_tasks few = record {
    count = few_tasks ship is rows;
    bays = λ j lt. All-from_recursion (λ (t : Task). IsFrom (pos 1) (pos (greatest_place ship)) t.bay) (tasks_of ship rows) tasks_within j no_task lt;
    ticks = λ j lt. All-from_recursion (λ (t : Task). 1 ≤ t.ticks) (tasks_of ship rows) tasks_last j no_task lt;
    work = all_work ship is rows few;
    releases = λ j lt. All-from_recursion (λ (t : Task). t.release ≤ most_ready) (tasks_of ship rows) tasks_soon j no_task lt;
    sorted = λ i j ij jl. (follow i j no_task ij jl).rank;
    hatches = bays_of_hatches;
  }

  valid_cranes : HasValidCranes (instance_of ship rows)
  valid_cranes = record {
    count = is.cranes.count;
    ready = λ k lt. is.cranes.ready k no_crane lt;
    reach = λ k lt.
        let (from, to, order) = is.cranes.reach k no_crane lt in
        ((place_within ship is _ from).0, order, (place_within ship is _ to).1);
    names = λ v w vw wl. is.cranes.names v w no_crane vw wl;
    order = λ k lt. is.cranes.order k (k + 1) no_crane (omega arith) lt;
  }

  earlier : (t u : Task) → t.hatch ≡ u.hatch → phase_rank t.phase < phase_rank u.phase → is_earlier_phase t u ≡ true
  earlier t u same lt =
      let one : (t.hatch == u.hatch) ≡ true = (Decides-eqb t.hatch u.hatch).1 same in
      let two : nat_lt (phase_rank t.phase) (phase_rank u.phase) ≡ true = (Decides-ltb (phase_rank t.phase) (phase_rank u.phase)).1 lt in
      rw (one, two) refl

  -- the phases of a hatch are before one another
  pub phases_before : (i j : ℕ) → i < j → j < length (tasks_of ship rows) → (task_at (tasks_of ship rows) i).hatch ≡ (task_at (tasks_of ship rows) j).hatch
      → Contains (instance_of ship rows).before (pair_of i j)
  phases_before i j ij jl same =
      let tasks = tasks_of ship rows in
      let rank = (follow i j no_task ij jl).rank in
      pairs_have (length tasks) (is_before (is_asked ship.ordered ship.before rows tasks) tasks) i j (omega arith) jl
      (or_left _ _ (earlier (task_at tasks i) (task_at tasks j) same (omega (arith, rank, same))))

  valid_before : ((i : ℕ) (via : List ℕ) → ¬ IsPath (instance_of ship rows).before i via i) → HasValidBefore (instance_of ship rows)
  valid_before no_ring = record {
    phases = phases_before;
    range = λ i j has. let p = pairs_pass (length tasks) test i j has in (p.0, p.1);
    sorted = pairs_sorted (length tasks) test;
    no_ring = no_ring;
  }
    where
      tasks : List Task
      tasks = tasks_of ship rows

      test : ℕ → ℕ → Bool
      test = is_before (is_asked ship.ordered ship.before rows (tasks_of ship rows)) (tasks_of ship rows)

  apart_hatches : (tasks : List Task) (i j : ℕ) → is_apart ship.apart tasks i j ≡ true → (task_at tasks i).hatch < (task_at tasks j).hatch
  apart_hatches tasks i j e =
      let found = any_each (λ (pair : HatchPair). Contains ship.hatches pair.a × Contains ship.hatches pair.b × (pair.a ≢ pair.b)) (names_both (task_at tasks i) (task_at tasks j)) ship.apart
      (recursion_from_All (λ (pair : HatchPair). Contains ship.hatches pair.a × Contains ship.hatches pair.b × (pair.a ≢ pair.b)) ship.apart is.apart.hatches) e in
      let parts = and_parts _ _ found.1.1 in
      let differ : found.0.a ≢ found.0.b = found.1.0.2 in
      omega (arith, differ, (Decides-eqb (task_at tasks i).hatch (min found.0.a found.0.b)).0 parts.0, (Decides-eqb (task_at tasks j).hatch (max found.0.a found.0.b)).0 parts.1)

  hatch_order : (t u : Task) → Follows t u → t.hatch ≤ u.hatch
  hatch_order t u f = elim f.place [ inl same ↦ omega (arith, same.0) | inr later ↦ omega (arith, lower_hatch t.hatch u.hatch later.0) ]

  lower_first : (i j : ℕ) → i < length (tasks_of ship rows) → (task_at (tasks_of ship rows) i).hatch < (task_at (tasks_of ship rows) j).hatch → i < j
  lower_first i j il lt = elim (cases_lt i j) [
    | inl before ↦ before
    | inr after ↦ elim (cases_lt j i) [
      | inl later ↦ absurd (omega (arith, lt, hatch_order _ _ (follow j i no_task later il)))
      | inr still ↦ let same : i ≡ j = omega arith in absurd (omega (arith, lt, ap (λ k. (task_at (tasks_of ship rows) k).hatch) same))
    ]
  ]

  valid_apart : HasValidApart (instance_of ship rows)
  valid_apart = record {
    count = omega (arith, few_apart (tasks_of ship rows) (four_tasks ship is rows) ship.apart, is.apart.count);
    range = λ i j has.
        let p = pairs_pass (length (tasks_of ship rows)) (is_apart ship.apart (tasks_of ship rows)) i j
        (before_found i j (instance_of ship rows).apart has) in
        let lt = apart_hatches (tasks_of ship rows) i j p.2 in
        (lower_first i j p.0 lt, p.1, (λ e. absurd (omega (arith, e, lt))));
    sorted = pairs_sorted (length (tasks_of ship rows)) (is_apart ship.apart (tasks_of ship rows));
  }

  pub valid_instance : length rows ≤ most_moves → ((i : ℕ) (via : List ℕ) → ¬ IsPath (instance_of ship rows).before i via i) → Valid (instance_of ship rows)
  valid_instance few no_ring = record {
    limits = elim (cases_Bool ship.in_decimetres) [ inl given ↦ ∣ inr (place_limits given) ∣₁ | inr counted ↦ ∣ inl (bay_limits counted) ∣₁ ];
    tasks = valid_tasks few;
    cranes = valid_cranes;
    before = valid_before no_ring;
    apart = valid_apart;
  }

-- an instance part by part
pub same_instance : (ship : ShipView) (rows : List Row) (bays travel gap : ℕ) (tasks : List Task) (cranes : List Crane) (before apart : List Pair) → bays ≡ greatest_place ship → travel ≡ ship.travel → gap ≡ ship.gap → tasks ≡ tasks_of ship rows → cranes ≡ ship.cranes → before ≡ before_of ship.ordered ship.before rows (tasks_of ship rows) → apart ≡ apart_of ship.apart tasks → ◌≡◌ {A = InstanceView} (record { bays = bays; travel = travel; gap = gap; tasks = tasks; cranes = cranes; before = before; apart = apart; turn = OneWay }) (instance_of ship rows)
same_instance ship rows bays travel gap tasks cranes before apart e₁ e₂ e₃ e₄ e₅ e₆ e₇ =
    let e₉ = e₇ ∙ ap (apart_of ship.apart) e₄ in
    cc
