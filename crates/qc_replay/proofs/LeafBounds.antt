-- What a leaf shows at a node that fits a valid instance has at most 15 digits.
use Rattle.std.proofs.Common.{◌≡◌, ℕ, zero, suc, ◌+◌, ◌-◌, ◌*◌, ◌<◌, ◌≤◌, ◌^◌, Bool, true, ◌&&◌, ◌==◌, List, [], ◌∷◌, length, map, Option, None, Some, IfSome, ℤ, pos, ◌+ℤ◌, arith, filter, int_lt, nat_le, nat_lt, option_and_then, option_map, slice_index}
use Rattle.std.specs.List.{list_all, range_with_len}
use Rattle.std.specs.Option.{option_map_or}
use Rattle.std.proofs.lemmas.Bool.{and_parts, cond_both, leb-true}
use Rattle.std.proofs.lemmas.Nat.{mul-le}
use Rattle.qc_num.specs.declared.bound.Bound.TheVariants.{Least, Never}
use Rattle.qc_close.specs.Model.{Decision, bays_up, bays_between, InstanceView, Valid, IsOnRail, bay_of, release_of, ticks_of, crane, cranes_of, Leaf, are_tasks, chain, chain_end, chain_ticks, is_ring, is_out_of_reach, leaf_value, packed, packed_end, reach, ring, work, work_over, task_numbers, are_met, early, early_by, is_in_reach, let_by, put_off, starts_after, Fits, assigned, berth_wait, crane_ticks, forced, free, head, head_by, is_sooner, least, pair_ticks, reaches, separation, sooner_ticks, pack, arrival, berth_clear, berth_distance, climb, distance, lead, task_distance, travel_between, MOST_BAYS, MOST_DISTANCE, MOST_GAP_BY_PLACES, MOST_READY, MOST_TASKS, MOST_TRAVEL, MOST_WORK, Up, Turn, OneWay, Free}
use Rattle.qc_model.proofs.Bays.{bays}
use Rattle.qc_model.proofs.Extremes.{greatest_le}
use Rattle.qc_model.proofs.LeafLemmas.{joined}
use Rattle.qc_model.proofs.LimitsOf.{limits_of}
use Rattle.qc_model.proofs.NodeLemmas.{greater_keeps}
use Rattle.qc_model.proofs.OnRail.{berth_on_rail}
use Rattle.qc_close.proofs.LimitLemmas.{closed_soon}
use Rattle.qc_close.proofs.PackBounds.{cranes_range, pack_few}
use Rattle.qc_dist.proofs.Bounds.{few_release, few_ticks, on_rail}
use Rattle.qc_dist.proofs.Facts.{assigned_range}
use Rattle.qc_tree.specs.Lines.{IsValue}

-- places on the rail, and ones shifted by some gaps, aren't far apart
up_few : (x y : ℤ) (g : ℕ) → IsOnRail x → IsOnRail y → g ≤ 16000 → bays_up x (y +ℤ pos g) ≤ MOST_BAYS
up_few x y g h k few = omega (arith, bays)

up_rail : (x y : ℤ) → IsOnRail x → IsOnRail y → bays_up x y ≤ MOST_BAYS
up_rail x y h k = omega (arith, bays)

between_rail : (x y : ℤ) → IsOnRail x → IsOnRail y → bays_between x y ≤ MOST_BAYS
between_rail x y h k = omega (arith, bays)

-- the least of numbers that are all at most m
least_few : (f : ℕ → ℕ) (p : ℕ → Bool) (m a n : ℕ) → ((k : ℕ) → k < a + n → f k ≤ m)
    → least (map f (filter p (range_with_len a n))) ≤ m
least_few f p m a zero few = omega arith
least_few f p m a (suc n) few =
    let rest = filter p (range_with_len (a + 1) n) in
    cond_both (p a) (a ∷ rest) rest (λ ks. least (map f ks) ≤ m)
    (λ _. at_first rest)
    (λ _. least_few f p m (a + 1) n (λ k low. few k (omega arith)))
  where
    at_first : (ks : List ℕ) → least (map f (a ∷ ks)) ≤ m
    at_first [] = few a (omega arith)
    at_first (k ∷ ks) = omega (arith, few a (omega arith))

-- the same of a list of numbers that are all at most m
least_of_few : (f : ℕ → ℕ) (m : ℕ) → ((j : ℕ) → f j ≤ m) → (js : List ℕ) → least (map f js) ≤ m
least_of_few f m few [] = omega arith
least_of_few f m few (j ∷ []) = few j
least_of_few f m few (j ∷ k ∷ js) = omega (arith, few j)

module _ (inst : InstanceView) (valid : Valid inst) where
  -- travel over so many bays
  travel_few : (n : ℕ) → n ≤ MOST_BAYS → inst.travel * n ≤ MOST_DISTANCE
  travel_few n few = mul-le inst.travel n MOST_TRAVEL MOST_BAYS (limits_of inst valid).travel few

  gaps_few : (v w : ℕ) → w < length inst.cranes → inst.gap * (w - v) ≤ 16000
  gaps_few v w low =
      let l = limits_of inst valid in
      mul-le inst.gap (w - v) MOST_GAP_BY_PLACES 8 l.gap.1 (omega (arith, low, l.cranes))

  distance_few : (v w : ℕ) (x y : ℤ) → v < length inst.cranes → w < length inst.cranes → IsOnRail x → IsOnRail y
      → distance inst v x w y ≤ MOST_DISTANCE
  distance_few v w x y low high h k =
      cond_both (nat_lt v w) _ _ (λ n. inst.travel * n ≤ MOST_DISTANCE)
      (λ _. travel_few _ (up_few y x (inst.gap * (w - v)) k h (gaps_few v w high)))
      (λ _. cond_both (nat_lt w v) _ _ (λ n. inst.travel * n ≤ MOST_DISTANCE)
      (λ _. travel_few _ (up_few x y (inst.gap * (v - w)) h k (gaps_few w v low)))
      (λ _. travel_few 0 (omega arith)))

  berth_rail : (k : ℕ) → k < length inst.cranes → IsOnRail (crane inst k).bay
  berth_rail k low = berth_on_rail inst valid Up k low

  task_rail : (j : ℕ) → IsOnRail (bay_of inst j)
  task_rail j = on_rail inst valid j

  arrival_few : (j k : ℕ) → k < length inst.cranes → arrival inst k (bay_of inst j) ≤ MOST_READY + MOST_DISTANCE
  arrival_few j k low =
      let ready : (crane inst k).ready ≤ MOST_READY = valid.cranes.ready k low in
      let far =
      travel_few (bays_between (crane inst k).bay (bay_of inst j))
      (between_rail (crane inst k).bay (bay_of inst j) (berth_rail k low) (task_rail j)) in
      omega (arith, ready, far)

  wait_few : (j k v : ℕ) → k < length inst.cranes → v < length inst.cranes
      → berth_wait inst j k v ≤ MOST_READY + MOST_DISTANCE
  wait_few j k v low high =
      let ready : (crane inst v).ready ≤ MOST_READY = valid.cranes.ready v high in
      let far = distance_few v k (crane inst v).bay (bay_of inst j) high low (berth_rail v high) (task_rail j) in
      cond_both (berth_distance inst v k (bay_of inst j) == 0) 0 (berth_clear inst v k (bay_of inst j))
      (λ n. n ≤ MOST_READY + MOST_DISTANCE)
      (λ _. omega arith) (λ _. omega (arith, ready, far))

  free_few : (j k : ℕ) → k < length inst.cranes → free inst j k ≤ MOST_READY + MOST_DISTANCE
  free_few j k low =
      let waits =
      greatest_le (berth_wait inst j k) (MOST_READY + MOST_DISTANCE) 0 (length inst.cranes)
      (λ v high. wait_few j k v low (omega arith)) in
      let release : release_of inst j ≤ MOST_READY = few_release inst valid j in
      omega (arith, waits, release, arrival_few j k low)

  head_by_few : (j : ℕ) (o : Option ℕ) → IfSome o (λ k. k < length inst.cranes)
      → head_by inst j o ≤ MOST_READY + MOST_DISTANCE
  head_by_few j (Some k) low = free_few j k low
  head_by_few j None low =
      least_few (free inst j) (reaches inst j) (MOST_READY + MOST_DISTANCE) 0 (length inst.cranes)
      (λ k here. free_few j k (omega arith))

  head_few : (ds : List Decision) → Fits inst ds → (j : ℕ) → head inst ds j ≤ MOST_READY + MOST_DISTANCE
  head_few ds fits j = head_by_few j (assigned ds j) (assigned_range inst ds fits j)

  -- a step of a chain
  abbrev IsStepFew : ℕ → Type 0
  IsStepFew n = n ≤ MOST_WORK + MOST_DISTANCE

  -- what cranes v and w ask for
  pair_few : (turn : Turn) (sooner : Bool) (i v j w : ℕ) → v < length inst.cranes → w < length inst.cranes
      → IfSome (pair_ticks turn inst sooner i v j w) IsStepFew
  pair_few OneWay sooner i v j w low high =
      let up =
      travel_few (bays_up (bay_of inst i) (bay_of inst j))
      (up_rail (bay_of inst i) (bay_of inst j) (task_rail i) (task_rail j)) in
      let far = distance_few v w (bay_of inst i) (bay_of inst j) low high (task_rail i) (task_rail j) in
      cond_both (v == w) _ _ (λ o. IfSome o IsStepFew)
      (λ _. cond_both (int_lt (bay_of inst i) (bay_of inst j)) (Some (climb inst i j)) None
      (λ o. IfSome o IsStepFew)
      (λ _. omega (arith, few_ticks inst valid i, up)) (λ _. tt))
      (λ _. cond_both (nat_lt w v && nat_lt 0 (task_distance inst i v j w)) (Some (lead inst i v j w)) None
      (λ o. IfSome o IsStepFew)
      (λ _. omega (arith, few_ticks inst valid i, far)) (λ _. tt))
  pair_few Free sooner i v j w low high =
      let x = bay_of inst i in
      let y = bay_of inst j in
      let way = travel_few (bays_between x y) (between_rail x y (task_rail i) (task_rail j)) in
      let far = distance_few v w x y low high (task_rail i) (task_rail j) in
      cond_both sooner (Some (ticks_of inst i + separation inst i v j w)) None (λ o. IfSome o IsStepFew)
      (λ _. cond_both (v == w) (travel_between inst x y) (task_distance inst i v j w) (λ n. IsStepFew (ticks_of inst i + n))
      (λ _. omega (arith, few_ticks inst valid i, way))
      (λ _. omega (arith, few_ticks inst valid i, far)))
      (λ _. tt)

  crane_few : (sooner : Bool) (i j : ℕ) (p q : Option ℕ) → IfSome p (λ k. k < length inst.cranes)
      → IfSome q (λ k. k < length inst.cranes)
      → IfSome (crane_ticks inst sooner i j p q) IsStepFew
  crane_few sooner i j None q low high = tt
  crane_few sooner i j (Some v) None low high = tt
  crane_few sooner i j (Some v) (Some w) low high = pair_few inst.turn sooner i v j w low high

  forced_few : (ds : List Decision) → Fits inst ds → (i j : ℕ) → IfSome (forced inst ds i j) IsStepFew
  forced_few ds fits i j =
      greater_keeps IsStepFew (sooner_ticks inst ds i j)
      (crane_ticks inst (is_sooner inst ds i j) i j (assigned ds i) (assigned ds j))
      (cond_both (is_sooner inst ds i j) (Some (ticks_of inst i)) None (λ o. IfSome o IsStepFew)
      (λ _. omega (arith, few_ticks inst valid i)) (λ _. tt))
      (crane_few (is_sooner inst ds i j) i j (assigned ds i) (assigned ds j) (assigned_range inst ds fits i)
      (assigned_range inst ds fits j))

  chain_few : (ds : List Decision) → Fits inst ds → (i : ℕ) (js : List ℕ)
      → IfSome (chain_ticks inst ds i js) (λ n. n ≤ (MOST_WORK + MOST_DISTANCE) * (length js + 1))
  chain_few ds fits i [] = omega (arith, few_ticks inst valid i)
  chain_few ds fits i (j ∷ js) =
      joined IsStepFew (λ n. n ≤ (MOST_WORK + MOST_DISTANCE) * (length js + 1))
      (λ n. n ≤ (MOST_WORK + MOST_DISTANCE) * (length (j ∷ js) + 1))
      (forced inst ds i j) (chain_ticks inst ds j js) (forced_few ds fits i j) (chain_few ds fits j js)
      (λ x y p q. omega arith)

  over_few : (ds : List Decision) → Fits inst ds → (end : ℕ) → work_over inst ds end ≡ true → end < 10 ^ 15
  over_few ds fits end over =
      omega (arith, closed_soon inst inst.turn (cranes_of inst ds) end valid (cranes_range inst ds fits) over)

  -- how late a task starts at the least, after so many rounds of putting off
  abbrev latest : ℕ → ℕ
  latest n = MOST_READY + MOST_DISTANCE + n * (MOST_WORK + MOST_DISTANCE)

  mapped_few : (f : ℕ → ℕ) (m : ℕ) → ((j : ℕ) → f j ≤ m) → (xs : List ℕ) (j : ℕ) → slice_index (map f xs) j ≤ m
  mapped_few f m few [] j = omega arith
  mapped_few f m few (x ∷ xs) zero = few x
  mapped_few f m few (x ∷ xs) (suc j) = mapped_few f m few xs j

  let_few : (o : Option ℕ) (s b : ℕ) → s ≤ b → IfSome o IsStepFew
      → option_map_or (λ ticks. s + ticks) o 0 ≤ b + (MOST_WORK + MOST_DISTANCE)
  let_few None s b soon few = omega arith
  let_few (Some n) s b soon few = omega (arith, soon, few)

  starts_few : (ds : List Decision) → Fits inst ds → (n j : ℕ) → slice_index (starts_after inst ds n) j ≤ latest n
  starts_few ds fits zero j =
      mapped_few (head inst ds) (latest 0) (λ i. omega (arith, head_few ds fits i)) (task_numbers inst) j
  starts_few ds fits (suc n) j =
      mapped_few (put_off inst ds (starts_after inst ds n)) (latest (suc n)) (λ i.
      let lets =
      greatest_le (let_by inst ds (starts_after inst ds n) i) (latest n + (MOST_WORK + MOST_DISTANCE)) 0
      (length inst.tasks) (λ h low.
      let_few (forced inst ds h i) (slice_index (starts_after inst ds n) h) (latest n) (starts_few ds fits n h)
      (forced_few ds fits h i)) in
      omega (arith, lets, starts_few ds fits n i)) (task_numbers inst) j

  -- packed tasks begin soon, and don't take long
  abbrev soon : ℕ
  soon = latest MOST_TASKS

  -- each task can start by then
  abbrev IsSoon : (ℕ → ℕ) → Type 0
  IsSoon begins = (j : ℕ) → begins j ≤ soon

  heads_soon : (ds : List Decision) → Fits inst ds → IsSoon (head inst ds)
  heads_soon ds fits j = omega (arith, head_few ds fits j)

  starts_soon : (ds : List Decision) → Fits inst ds → IsSoon (λ j. slice_index (starts_after inst ds (length inst.tasks)) j)
  starts_soon ds fits j = omega (arith, starts_few ds fits (length inst.tasks) j, valid.tasks.count)

  early_few : (ds : List Decision) → Fits inst ds → (turn : Turn) → IfSome (early_by turn inst ds) IsSoon
  early_few ds fits OneWay = heads_soon ds fits
  early_few ds fits Free =
      let starts = starts_after inst ds (length inst.tasks) in
      cond_both (is_in_reach inst ds && are_met inst ds starts) (Some starts) None
      (λ (o : Option (List ℕ)). IfSome (option_map (λ (s : List ℕ) (j : ℕ). slice_index s j) o) IsSoon)
      (λ _. starts_soon ds fits)
      (λ _. tt)

  with_first : (o : Option ℕ) (h : ℕ) → h ≤ soon
      → IfSome o (λ n. n ≤ MOST_TASKS * MOST_WORK + MOST_DISTANCE)
      → IfSome (option_map Least (option_map (λ ticks. h + ticks) o)) IsValue
  with_first None h early few = tt
  with_first (Some n) h early few = omega arith

  with_begins : (tasks : List ℕ) (o : Option (ℕ → ℕ)) (p : Option ℕ) → IfSome o IsSoon
      → IfSome p (λ n. n ≤ MOST_TASKS * MOST_WORK + MOST_DISTANCE)
      → IfSome (option_map Least (option_and_then (λ begins. option_map (λ ticks. least (map begins tasks) + ticks) p) o)) IsValue
  with_begins tasks None p early few = tt
  with_begins tasks (Some begins) p early few =
      with_first p (least (map begins tasks)) (least_of_few begins soon early tasks) few

  packed_value : (ds : List Decision) → Fits inst ds → (tasks : List ℕ)
      → IfSome (option_map Least (packed_end inst ds tasks)) IsValue
  packed_value ds fits tasks =
      with_begins tasks (early inst ds) (pack inst (cranes_of inst ds) tasks) (early_few ds fits inst.turn)
      (pack_few inst valid (cranes_of inst ds) (cranes_range inst ds fits) tasks)

  pub leaf_few : (ds : List Decision) → Fits inst ds → (shows : Leaf)
      → IfSome (leaf_value inst ds shows) IsValue
  leaf_few ds fits (chain tasks) =
      cond_both (are_tasks inst tasks) (option_map Least (chain_end inst ds tasks)) None
      (λ o. IfSome o IsValue)
      (λ all. chain_value tasks
      (leb-true (length tasks) MOST_TASKS
      (and_parts (nat_le (length tasks) MOST_TASKS) (list_all (λ j. nat_lt j (length inst.tasks)) tasks) all).0))
      (λ _. tt)
    where
      with_head : (o : Option ℕ) (h n : ℕ) → h ≤ MOST_READY + MOST_DISTANCE
          → IfSome o (λ m. m ≤ (MOST_WORK + MOST_DISTANCE) * n) → n ≤ MOST_TASKS
          → IfSome (option_map Least (option_map (λ ticks. h + ticks) o)) IsValue
      with_head None h n head few short = tt
      with_head (Some m) h n head few short = omega arith

      chain_value : (js : List ℕ) → length js ≤ MOST_TASKS
          → IfSome (option_map Least (chain_end inst ds js)) IsValue
      chain_value [] short = omega arith
      chain_value (j ∷ js) short =
          with_head (chain_ticks inst ds j js) (head inst ds j) (length js + 1)
          (head_few ds fits j) (chain_few ds fits j js) (omega arith)
  leaf_few ds fits (ring tasks) =
      cond_both (are_tasks inst tasks && nat_le 2 (length tasks) && is_ring inst ds tasks) (Some Never) None
      (λ o. IfSome o IsValue) (λ _. tt) (λ _. tt)
  leaf_few ds fits reach =
      cond_both (is_out_of_reach inst ds) (Some Never) None (λ o. IfSome o IsValue) (λ _. tt) (λ _. tt)
  leaf_few ds fits (work end) =
      cond_both (nat_le 1 end && work_over inst ds end) (Some (Least end)) None (λ o. IfSome o IsValue)
      (λ both. over_few ds fits end (and_parts (nat_le 1 end) (work_over inst ds end) both).1) (λ _. tt)
  leaf_few ds fits (packed tasks) = packed_value ds fits tasks
