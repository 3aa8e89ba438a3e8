-- The ship of what is left keeps the limits of ships.
use Rattle.std.proofs.Common.{◌≡◌, ◌≢◌, ℕ, zero, suc, ◌+◌, ◌-◌, ◌<◌, ◌≤◌, pos, ◌+ℤ◌, ◌≤ℤ◌, Bool, List, [], ◌∷◌, length, map, get_or, All, AllPairs, Contains, ap, subst, inl, inr, arith}
use Rattle.std.specs.List.{filter}
use Rattle.std.proofs.lemmas.Bool.{cases_Bool}
use Rattle.std.proofs.lemmas.Int.{ints}
use Rattle.std.proofs.lemmas.List.{get_or_default, length-map}
use Rattle.std.proofs.lemmas.List.Elements.{All-filter, All-map}
use Rattle.std.proofs.lemmas.List.Kept.{AllPairs-filter}
use Rattle.qc_model.specs.declared.crane.Crane.{Crane}
use Rattle.qc_model.specs.declared.task.Task.{Task}
use Rattle.qc_model.specs.Instance.{InstanceView, Valid, crane, no_crane, no_task, task}
use Rattle.qc_model.specs.Numbers.{most_ready}
use Rattle.qc_model.specs.Tasks.{phase_rank, task_rank}
use Rattle.qc_ship.specs.Ship.{HasCranes, HasOrder, HasReleases, IsShip, ShipView, greatest_start, least_start}
use Rattle.qc_ship.specs.declared.ship.NamePair.{NamePair}
use Rattle.qc_ship.specs.declared.ship.NameTick.{NameTick}
use Rattle.qc_ship.specs.declared.ship.TaskName.{TaskName}
use Rattle.qc_tasks.proofs.Lists.{pair_map, pairs_by_index, pairs_from_index}
use Rattle.qc_rest_files.specs.Aboard.{IsAboard}
use Rattle.qc_rest_files.specs.RestShip.{are_named, is_held, release_of, rest_ship}

pub few_passed : {B : Type 0} (p : B → Bool) (xs : List B) → length (filter p xs) ≤ length xs
few_passed p [] = omega arith
few_passed p (x ∷ xs) = elim (cases_Bool (p x)) [
  | inl here ↦ rw here (omega (arith, few_passed p xs))
  | inr past ↦ rw past (omega (arith, few_passed p xs))
]

-- what neighbours keep, and carry over, is kept by each and each later one
risen : {B : Type 0} (R : B → B → Type 0) → ((x y z : B) → R x y → R y z → R x z) → (xs : List B) (none : B)
    → ((k : ℕ) → k + 1 < length xs → R (get_or xs k none) (get_or xs (k + 1) none)) → (n i : ℕ) → i + suc n < length xs
    → R (get_or xs i none) (get_or xs (i + suc n) none)
risen R carries xs none next zero i lt = subst (λ (k : ℕ). R (get_or xs i none) (get_or xs k none)) (omega arith) (next i (omega (arith, lt)))
risen R carries xs none next (suc n) i lt =
    carries _ _ _ (risen R carries xs none next n i (omega (arith, lt)))
    (subst (λ (k : ℕ). R (get_or xs (i + suc n) none) (get_or xs k none)) (omega arith) (next (i + suc n) (omega (arith, lt))))

module _ (ship : ShipView) (rest : InstanceView) (is : IsShip ship) (valid : Valid rest) (aboard : IsAboard ship rest) where
  abbrev new : ShipView
  new = rest_ship ship rest

  order_kept : HasOrder new
  order_kept = record {
    count = omega (arith, is.before.count, few_passed (are_named rest.tasks) ship.before);
    names = All-filter (are_named rest.tasks) (λ (pair : NamePair). Contains ship.hatches pair.first.hatch × Contains ship.hatches pair.second.hatch × (pair.first ≢ pair.second))
        ship.before is.before.names;
  }

  abbrev IsFree : Task → Type 0
  IsFree t = Contains ship.hatches t.hatch × (t.release ≤ most_ready)

  all_free : All IsFree rest.tasks
  all_free k d lt =
      let same : get_or rest.tasks k no_task ≡ get_or rest.tasks k d = get_or_default rest.tasks k no_task d lt in
      subst IsFree same (aboard.hatches k lt, valid.tasks.releases k lt)

  -- two tasks have two names
  two_names : (t u : Task) → task_rank t < task_rank u → (release_of t).name ≢ (release_of u).name
  two_names t u less same =
      let hatch : t.hatch ≡ u.hatch = ap (λ (n : TaskName). n.hatch) same in
      let rank : phase_rank t.phase ≡ phase_rank u.phase = ap (λ (n : TaskName). phase_rank n.phase) same in
      omega (arith, less, hatch, rank)

  sorted : AllPairs (λ (t u : Task). (release_of t).name ≢ (release_of u).name) rest.tasks
  sorted i j d less lt =
      let one : get_or rest.tasks i no_task ≡ get_or rest.tasks i d = get_or_default rest.tasks i no_task d (omega (arith, less, lt)) in
      let two : get_or rest.tasks j no_task ≡ get_or rest.tasks j d = get_or_default rest.tasks j no_task d lt in
      let P : Task → Task → Type 0 = λ t u. (release_of t).name ≢ (release_of u).name in
      subst (λ (t : Task). P t (get_or rest.tasks j d)) one
      (subst (λ (u : Task). P (get_or rest.tasks i no_task) u) two (two_names (task rest i) (task rest j) (valid.tasks.sorted i j less lt)))

  releases_kept : HasReleases new
  releases_kept =
      let some = filter is_held rest.tasks in
      let R : NameTick → NameTick → Type 0 = λ entry later. entry.name ≢ later.name in
      record {
        count = omega (arith, length-map some release_of, few_passed is_held rest.tasks, valid.tasks.count);
        range = All-map (λ (entry : NameTick). Contains ship.hatches entry.name.hatch × (entry.tick ≤ most_ready)) release_of some (All-filter is_held IsFree rest.tasks all_free);
        once = pairs_by_index R (map release_of some)
            (pair_map R release_of some (pairs_from_index (λ (t u : Task). R (release_of t) (release_of u)) some (AllPairs-filter (λ (t u : Task). R (release_of t) (release_of u)) is_held rest.tasks sorted)));
      }

  abbrev Apart : Crane → Crane → Type 0
  Apart c d = (c.bay +ℤ pos ship.gap) ≤ℤ d.bay

  carries : (x y z : Crane) → Apart x y → Apart y z → Apart x z
  carries x y z a b = omega (arith, ints, a, b)

  next : (k : ℕ) → k + 1 < length rest.cranes → Apart (get_or rest.cranes k no_crane) (get_or rest.cranes (k + 1) no_crane)
  next k lt = subst (λ (g : ℕ). ((crane rest k).bay +ℤ pos g) ≤ℤ (crane rest (k + 1)).bay) aboard.gap (valid.cranes.order k lt)

  as_any : (P : Crane → Type 0) → ((k : ℕ) → k < length rest.cranes → P (crane rest k)) → All P rest.cranes
  as_any P each k d lt = subst P (get_or_default rest.cranes k no_crane d lt) (each k lt)

  pair_any : (R : Crane → Crane → Type 0) → ((i j : ℕ) → i < j → j < length rest.cranes → R (crane rest i) (crane rest j)) → AllPairs R rest.cranes
  pair_any R each i j d less lt =
      let one : crane rest i ≡ get_or rest.cranes i d = get_or_default rest.cranes i no_crane d (omega (arith, less, lt)) in
      let two : crane rest j ≡ get_or rest.cranes j d = get_or_default rest.cranes j no_crane d lt in
      subst (λ (c : Crane). R c (get_or rest.cranes j d)) one (subst (λ (e : Crane). R (crane rest i) e) two (each i j less lt))

  cranes_kept : HasCranes new
  cranes_kept = record {
    count = valid.cranes.count;
    ready = as_any (λ (c : Crane). c.ready ≤ most_ready) valid.cranes.ready;
    starts = as_any (λ (c : Crane). (least_start ship.in_decimetres ≤ℤ c.bay) × (c.bay ≤ℤ greatest_start ship.in_decimetres)) aboard.starts;
    reach = as_any (λ (c : Crane). Contains (map pos ship.places) c.from × Contains (map pos ship.places) c.to × (c.from ≤ℤ c.to)) aboard.reach;
    names = pair_any (λ (c d : Crane). c.name ≢ d.name) valid.cranes.names;
    order = pair_any Apart (λ i j less lt.
        let n : ℕ = j - i - 1 in
        let here : i + suc n ≡ j = omega (arith, less) in
        subst (λ (k : ℕ). Apart (crane rest i) (crane rest k)) here (risen Apart carries rest.cranes no_crane next n i (omega (arith, here, lt))));
  }

  pub rest_ship_kept : IsShip new
  rest_ship_kept = record {
    hatches = is.hatches;
    places = record { count = is.places.count; range = is.places.range; order = is.places.order; counted = is.places.counted };
    times = record { gap = is.times.gap; travel = is.times.travel; deck_move = is.times.deck_move; hold_move = is.times.hold_move; cover = is.times.cover };
    apart = record { count = is.apart.count; hatches = is.apart.hatches };
    before = order_kept;
    not_before = releases_kept;
    cranes = cranes_kept;
  }
