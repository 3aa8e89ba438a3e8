-- The mirror of a valid instance is valid, and its mirror is the instance.
use Rattle.std.proofs.Common.{◌≡◌, ℕ, ◌+◌, ◌-◌, ◌<◌, ◌≤◌, ℤ, pos, negsuc, ◌+ℤ◌, ◌-ℤ◌, ◌≤ℤ◌, ◌⊎◌, inl, inr, List, [], ◌∷◌, ◌++◌, length, map, reverse, sum_by, refl, ap, sym, subst, ◌∙◌, arith}
use Rattle.std.proofs.Math.Logic.{∥∥₁_map}
use Rattle.std.proofs.lemmas.Int.{ints}
use Rattle.std.proofs.lemmas.List.{get_or-map, map_push, reverse-append, reverse-reverse}
use Rattle.std.proofs.lemmas.List.Sums.{sum_by-cons}
use Rattle.qc_model.specs.declared.crane.Crane.{Crane}
use Rattle.qc_model.specs.declared.direction.Direction.{Direction}
use Rattle.qc_model.specs.declared.direction.Direction.TheVariants.{Up, Down}
use Rattle.qc_model.specs.Numbers.{most_ready}
use Rattle.qc_model.specs.declared.task.Task.{Task}
use Rattle.qc_model.specs.Instance.{InstanceView, HasBayLimits, HasPlaceLimits, HasValidApart, HasValidBefore, HasValidCranes, HasValidTasks, IsFrom, IsOnRail, Valid, crane, mirror_bay, no_task, task}
use Rattle.qc_model.specs.OneWay.{mirror, mirror_crane, mirror_task}
use Rattle.qc_model.specs.Seen.{seen}
use Rattle.qc_model.specs.Tasks.{task_rank}
use Rattle.qc_model.proofs.SeenLemmas.{seen-bay_of, seen-crane, seen-crane_count, seen-release_of, seen-task_count, seen-ticks_of}

twice : (n : ℕ) (x : ℤ) → (pos n -ℤ (pos n -ℤ x)) ≡ x
twice n x = omega (arith, ints)

same_bay : (n : ℕ) (x y : ℤ) → (pos n -ℤ x) ≡ (pos n -ℤ y) → x ≡ y
same_bay n x y e = omega (arith, ints)

-- what holds within a ship holds within it from the other end
within : (n : ℕ) (x : ℤ) → IsFrom (pos 1) (pos n) x → IsFrom (pos 1) (pos n) (pos (n + 1) -ℤ x)
within n x h = (omega (arith, ints, h.1), omega (arith, ints, h.0))

reach_turned : (n : ℕ) (a b x y : ℤ) → x ≡ (pos (n + 1) -ℤ b) → y ≡ (pos (n + 1) -ℤ a) → pos 1 ≤ℤ a → a ≤ℤ b → b ≤ℤ pos n → (pos 1 ≤ℤ x) × (x ≤ℤ y) × (y ≤ℤ pos n)
reach_turned n a b x y from to low order high = (omega (arith, ints), omega (arith, ints), omega (arith, ints))

apart_turned : (n g : ℕ) (x y : ℤ) → (x +ℤ pos g) ≤ℤ y → ((pos n -ℤ y) +ℤ pos g) ≤ℤ (pos n -ℤ x)
apart_turned n g x y h = omega (arith, ints)

mirror-task : (inst : InstanceView) (j : ℕ) → j < length inst.tasks → task (mirror inst) j ≡ mirror_task inst (task inst j)
mirror-task inst j h = get_or-map (mirror_task inst) inst.tasks j no_task no_task h

same_work : (inst : InstanceView) (ts : List Task) → sum_by (λ (t : Task). t.ticks) (map (mirror_task inst) ts) ≡ sum_by (λ (t : Task). t.ticks) ts
same_work inst [] = refl
same_work inst (t ∷ ts) =
    sum_by-cons (λ (x : Task). x.ticks) (mirror_task inst t) (map (mirror_task inst) ts)
    ∙ ap (λ n. t.ticks + n) (same_work inst ts)
    ∙ sym (sum_by-cons (λ (x : Task). x.ticks) t ts)

-- a crane of the mirror stands as a crane of the instance does, seen from the other end
berth_turned : (inst : InstanceView) (P : ℤ → Type 0)
    → ((k : ℕ) → k < length inst.cranes → P (crane inst k).bay × P (mirror_bay inst (crane inst k).bay))
    → (k : ℕ) → k < length (mirror inst).cranes → P (crane (mirror inst) k).bay × P (mirror_bay inst (crane (mirror inst) k).bay)
berth_turned inst P h k low =
    let n : length (mirror inst).cranes ≡ length inst.cranes = seen-crane_count inst Down in
    let there : k < length inst.cranes = omega arith in
    let e = ap (λ c. c.bay) (seen-crane inst Down k there) in
    let p = h (length inst.cranes - 1 - k) (omega arith) in
    (subst P (sym e) p.1, subst P (sym (ap (mirror_bay inst) e ∙ twice (inst.bays + 1) _)) p.0)

limits_turned : (inst : InstanceView) → HasBayLimits inst ⊎ HasPlaceLimits inst → HasBayLimits (mirror inst) ⊎ HasPlaceLimits (mirror inst)
limits_turned inst (inl h) = inl (record { bays = h.bays; travel = h.travel; gap = h.gap; berths = berth_turned inst (IsFrom (negsuc 299) (pos 300)) h.berths })
limits_turned inst (inr h) = inr (record { bays = h.bays; travel = h.travel; gap = h.gap; berths = berth_turned inst IsOnRail h.berths })

tasks_turned : (inst : InstanceView) → HasValidTasks inst → HasValidTasks (mirror inst)
tasks_turned inst v = record {
  count = omega (arith, n, v.count);
  bays = λ j h. subst (λ (x : ℤ). IsFrom (pos 1) (pos inst.bays) x) (sym (seen-bay_of inst Down j (there j h))) (within inst.bays _ (v.bays j (there j h)));
  ticks = λ j h. omega (arith, seen-ticks_of inst Down j (there j h), v.ticks j (there j h));
  work = omega (arith, same_work inst inst.tasks, v.work);
  releases = λ j h. omega (arith, seen-release_of inst Down j (there j h), v.releases j (there j h));
  sorted = λ i j low h.
      let hj = there j h in
      omega (arith, v.sorted i j low hj, ap task_rank (mirror-task inst i (omega arith)), ap task_rank (mirror-task inst j hj));
  hatches = λ i j g h.
      let hi = there i g in
      let hj = there j h in
      let first = mirror-task inst i hi in
      let second = mirror-task inst j hj in
      let same = v.hatches i j hi hj in (
        λ e. ap (λ t. t.hatch) first ∙ same.0 (same_bay (inst.bays + 1) _ _ (sym (ap (λ t. t.bay) first) ∙ e ∙ ap (λ t. t.bay) second)) ∙ sym (ap (λ t. t.hatch) second),
        λ e. ap (λ t. t.bay) first ∙ ap (mirror_bay inst) (same.1 (sym (ap (λ t. t.hatch) first) ∙ e ∙ ap (λ t. t.hatch) second)) ∙ sym (ap (λ t. t.bay) second),
      );
}
  where
    n : length (mirror inst).tasks ≡ length inst.tasks
    n = seen-task_count inst Down

    there : (j : ℕ) → j < length (mirror inst).tasks → j < length inst.tasks
    there j h = omega (arith, n)

cranes_turned : (inst : InstanceView) → HasValidCranes inst → HasValidCranes (mirror inst)
cranes_turned inst v = record {
  count = (omega (arith, n, v.count.0), omega (arith, n, v.count.1));
  ready = λ k h. subst (λ (r : ℕ). r ≤ most_ready) (sym (ap (λ c. c.ready) (is k h))) (v.ready (back k) (low k h));
  reach = λ k h. let r = v.reach (back k) (low k h) in reach_turned inst.bays _ _ _ _ (ap (λ c. c.from) (is k h)) (ap (λ c. c.to) (is k h)) r.0 r.1 r.2;
  names = λ i j lower h e.
      let g : i < length (mirror inst).cranes = omega arith in
      v.names (back j) (back i) (omega (arith, n)) (low i g) (sym (ap (λ c. c.name) (is j h)) ∙ sym e ∙ ap (λ c. c.name) (is i g));
  order = λ k h.
      let g : k < length (mirror inst).cranes = omega arith in
      let next : back (k + 1) + 1 ≡ back k = omega (arith, n) in
      let o = v.order (back (k + 1)) (omega (arith, n)) in
      let p = subst (λ (m : ℕ). ((crane inst (back (k + 1))).bay +ℤ pos inst.gap) ≤ℤ (crane inst m).bay) next o in
      subst (λ (x : ℤ). (x +ℤ pos inst.gap) ≤ℤ (crane (mirror inst) (k + 1)).bay) (sym (ap (λ c. c.bay) (is k g)))
      (subst (λ (y : ℤ). (mirror_bay inst (crane inst (back k)).bay +ℤ pos inst.gap) ≤ℤ y) (sym (ap (λ c. c.bay) (is (k + 1) h)))
      (apart_turned (inst.bays + 1) inst.gap _ _ p));
}
  where
    n : length (mirror inst).cranes ≡ length inst.cranes
    n = seen-crane_count inst Down

    back : ℕ → ℕ
    back k = length inst.cranes - 1 - k

    low : (k : ℕ) → k < length (mirror inst).cranes → back k < length inst.cranes
    low k h = omega (arith, n)

    is : (k : ℕ) → k < length (mirror inst).cranes → crane (mirror inst) k ≡ mirror_crane inst (crane inst (back k))
    is k h = seen-crane inst Down k (omega (arith, n))

before_turned : (inst : InstanceView) → HasValidBefore inst → HasValidBefore (mirror inst)
before_turned inst v = record {
  phases = λ i j lower h e.
      let hj : j < length inst.tasks = omega (arith, seen-task_count inst Down) in
      let first = ap (λ t. t.hatch) (mirror-task inst i (omega arith)) in
      let second = ap (λ t. t.hatch) (mirror-task inst j hj) in
      v.phases i j lower hj (sym first ∙ e ∙ second);
  range = λ i j b.
      let r = v.range i j b in
      let n = seen-task_count inst Down in
      (omega (arith, n, r.0), omega (arith, n, r.1));
  sorted = v.sorted;
  no_ring = v.no_ring;
}

apart_pairs_turned : (inst : InstanceView) → HasValidApart inst → HasValidApart (mirror inst)
apart_pairs_turned inst v = record {
  count = v.count;
  range = λ i j a.
      let r = v.range i j a in
      let low = r.0 in
      let high = r.1 in
      let first = ap (λ t. t.hatch) (mirror-task inst i (omega arith)) in
      let second = ap (λ t. t.hatch) (mirror-task inst j high) in
      (r.0, omega (arith, seen-task_count inst Down, high), λ e. r.2 (sym first ∙ e ∙ second));
  sorted = v.sorted;
}

pub mirror_valid : (inst : InstanceView) → Valid inst → Valid (mirror inst)
mirror_valid inst v = record {
  limits = ∥∥₁_map v.limits (limits_turned inst);
  tasks = tasks_turned inst v.tasks;
  cranes = cranes_turned inst v.cranes;
  before = before_turned inst v.before;
  apart = apart_pairs_turned inst v.apart;
}

pub seen_valid : (inst : InstanceView) → Valid inst → (way : Direction) → Valid (seen inst way)
seen_valid inst v Up = v
seen_valid inst v Down = mirror_valid inst v

map_back : {X : Type 0} (f g : X → X) → ((x : X) → g (f x) ≡ x) → (xs : List X) → map g (map f xs) ≡ xs
map_back f g same [] = refl
map_back f g same (x ∷ xs) = ap (λ y. y ∷ map g (map f xs)) (same x) ∙ ap (λ ys. x ∷ ys) (map_back f g same xs)

map-reverse : {X : Type 0} (f : X → X) (xs : List X) → map f (reverse xs) ≡ reverse (map f xs)
map-reverse f [] = refl
map-reverse f (x ∷ xs) =
    ap (map f) (reverse-append (x ∷ []) xs) ∙ map_push f (reverse xs) x ∙ ap (λ l. l ++ f x ∷ []) (map-reverse f xs)
    ∙ sym (reverse-append (f x ∷ []) (map f xs))

pub mirror_mirror : (inst : InstanceView) → mirror (mirror inst) ≡ inst
mirror_mirror inst =
    ap (λ (ts : List Task). record inst { tasks = ts; cranes = (mirror (mirror inst)).cranes }) (map_back (mirror_task inst) (mirror_task inst) task_back inst.tasks)
    ∙ ap (λ (cs : List Crane). record inst { cranes = cs }) (ap reverse (map-reverse (mirror_crane inst) (map (mirror_crane inst) inst.cranes)) ∙ reverse-reverse _ ∙ map_back (mirror_crane inst) (mirror_crane inst) crane_back inst.cranes)
  where
    task_back : (t : Task) → mirror_task inst (mirror_task inst t) ≡ t
    task_back t = ap (λ (x : ℤ). record t { bay = x }) (twice (inst.bays + 1) t.bay)

    crane_back : (c : Crane) → mirror_crane inst (mirror_crane inst c) ≡ c
    crane_back c =
        ap (λ (x : ℤ). record c { bay = x; from = mirror_bay inst (mirror_bay inst c.from); to = mirror_bay inst (mirror_bay inst c.to) }) (twice (inst.bays + 1) c.bay)
        ∙ ap (λ (x : ℤ). record c { from = x; to = mirror_bay inst (mirror_bay inst c.to) }) (twice (inst.bays + 1) c.from)
        ∙ ap (λ (x : ℤ). record c { to = x }) (twice (inst.bays + 1) c.to)
