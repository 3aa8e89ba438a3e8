-- The children of a branching, one after the other.
use Rattle.std.proofs.Common.{◌≡◌, ℕ, suc, ◌+◌, ◌<◌, ◌≤◌, List, [], ◌∷◌, length, map, drop, get_or, ap, sym, ◌∙◌, drop-cons, arith, nat_lt}
use Rattle.std.proofs.lemmas.Bool.{cond-false, cond-true, le-ltb, lt-ltb}
use Rattle.std.proofs.Math.ListN.{drop_of_length-le}
use Rattle.std.proofs.lemmas.List.FromFn.{get_or-range_with_len, length-range_with_len}
use Rattle.qc_dist.specs.Children.{later}
use Rattle.qc_dist.specs.Node.{IsOpen}
use Rattle.qc_model.specs.declared.decision.Decision.{Decision}
use Rattle.qc_model.specs.declared.decision.Decision.TheVariants.{Assign, Order}
use Rattle.qc_model.specs.Instance.{InstanceView}
use Rattle.qc_model.specs.Work.{crane_numbers}
use Rattle.qc_model.proofs.NodeLemmas.{conflict_turned, settled_turned}

module _ (inst : InstanceView) where
  pub cranes_count : length (crane_numbers inst) ≡ length inst.cranes
  cranes_count = length-range_with_len 0 (length inst.cranes)

  -- the cranes from the k-th on
  pub cranes_from : (k : ℕ) → k < length inst.cranes
      → drop k (crane_numbers inst) ≡ k ∷ drop (k + 1) (crane_numbers inst)
  cranes_from k low =
      let next : suc k ≡ k + 1 = omega arith in
      let same : get_or (crane_numbers inst) k 0 ≡ k =
      omega (arith, get_or-range_with_len 0 (length inst.cranes) k 0 low) in
      drop-cons (crane_numbers inst) k 0 (omega (arith, low, cranes_count))
      ∙ ap (λ n. n ∷ drop (suc k) (crane_numbers inst)) same
      ∙ ap (λ n. k ∷ drop n (crane_numbers inst)) next

  -- a task is put on the next crane
  pub next_crane : (ds : List Decision) (j k : ℕ) → k + 1 < length inst.cranes → IsOpen inst ds (Assign j k)
      → IsOpen inst ds (Assign j (k + 1))
      × (later inst ds (Assign j k) ≡ (Assign j (k + 1) ∷ ds) ∷ later inst ds (Assign j (k + 1)))
  next_crane ds j k low is_open =
      ((is_open.0, low, is_open.2), ap (map (λ v. Assign j v ∷ ds)) (cranes_from (k + 1) low))

  pub last_crane : (ds : List Decision) (j k : ℕ) → length inst.cranes ≤ k + 1 → later inst ds (Assign j k) ≡ []
  last_crane ds j k high =
      ap (map (λ v. Assign j v ∷ ds)) (drop_of_length-le (crane_numbers inst) (omega (arith, high, cranes_count)))

  -- a pair in the other order
  pub turned_first : (ds : List Decision) (i j : ℕ) → i < j → IsOpen inst ds (Order i j)
      → IsOpen inst ds (Order j i) × (later inst ds (Order i j) ≡ (Order j i ∷ ds) ∷ later inst ds (Order j i))
  turned_first ds i j up is_open = (
    (conflict_turned inst ds i j is_open.0, λ settled. is_open.1 (settled_turned inst ds j i settled)),
    cond-true (nat_lt i j) _ _ (lt-ltb i j up)
        ∙ ap (λ (rest : List (List Decision)). (Order j i ∷ ds) ∷ rest)
        (sym (cond-false (nat_lt j i) ((Order i j ∷ ds) ∷ []) [] (le-ltb j i (omega arith)))),
  )

  pub turned_last : (ds : List Decision) (i j : ℕ) → j ≤ i → later inst ds (Order i j) ≡ []
  turned_last ds i j down = cond-false (nat_lt i j) ((Order j i ∷ ds) ∷ []) [] (le-ltb i j down)
