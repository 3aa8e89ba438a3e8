-- What packed tasks and closed ends show of the schedules that agree with a node of a search.
use Rattle.std.proofs.Common.{◌≡◌, ℕ, ◌+◌, ◌<◌, ◌≤◌, true, List, length, map, Option, None, Some, IfSome, inl, inr, option_map, refl, sym, subst, ◌∙◌, arith}
use Rattle.std.proofs.lemmas.Bool.{cases_Bool, cond-false}
use Rattle.std.proofs.lemmas.List.FromFn.{get_or-map-range_with_len}
use Rattle.std.proofs.lemmas.Option.{option_and_then_some}
use Rattle.qc_close.specs.Model.{Decision, Slot, InstanceView, Valid, early, GoesBy, Leaf, leaf_value, packed_end, Agrees, Fits, assigned, least, crane_of, ends, starts, Follows, cranes_of, is_closed, is_packed, pack}
use Rattle.qc_num.specs.Bounds.{IsAtMost}
use Rattle.qc_num.specs.declared.bound.Bound.{Bound}
use Rattle.qc_num.specs.declared.bound.Bound.TheVariants.{Least}
use Rattle.qc_model.proofs.LeafLemmas.{leaf_value_le}
use Rattle.qc_model.proofs.LeastStarts.{early_le}
use Rattle.qc_model.proofs.NodeLemmas.{assigned_is, meets_by, start_at}
use Rattle.qc_model.proofs.TurnLemmas.{by_feasible}
use Rattle.qc_laws.proofs.ClosedLemmas.{closed_end_le}
use Rattle.qc_laws.proofs.PackLemmas.{pack_end_le}
use Rattle.qc_close.proofs.SpanLemmas.{packed_range}

-- a schedule that agrees with decisions follows what they say of cranes
follows_of : (inst : InstanceView) (ds : List Decision) (sched : List Slot) → Agrees inst ds sched
    → Follows inst (cranes_of inst ds) sched
follows_of inst ds sched a j k low e =
    let at = get_or-map-range_with_len (assigned ds) 0 (length inst.tasks) j j None low (omega arith) in
    subst (λ (o : Option ℕ). IfSome o (λ k. crane_of sched j ≡ k)) (sym at ∙ e) (assigned_is inst sched ds a j)

packed_of : (inst : InstanceView) (cranes : List (Option ℕ)) (tasks : List ℕ) (ticks : ℕ)
    → pack inst cranes tasks ≡ Some ticks → is_packed inst cranes tasks ≡ true
packed_of inst cranes tasks ticks e = elim (cases_Bool (is_packed inst cranes tasks)) [
  | inl t ↦ t
  | inr f ↦ absurd (other (sym (cond-false (is_packed inst cranes tasks) _ None f) ∙ e))
]
  where
    other : None ≡ Some ticks → ⊥
    other e = cc

-- what is added to a number that may be missing
shown : (base end : ℕ) (o : Option ℕ) (sum : ℕ) → ((n : ℕ) → o ≡ Some n → base + n ≤ end)
    → option_map (λ n. base + n) o ≡ Some sum → sum ≤ end
shown base end None sum h e = absurd (none e)
  where
    none : None ≡ Some sum → ⊥
    none e = cc
shown base end (Some n) sum h e =
    let same : base + n ≡ sum = cc in
    omega (arith, h n refl, same)

module _ (inst : InstanceView) (ds : List Decision) (sched : List Slot) (g : GoesBy inst.turn inst sched)
    (a : Agrees inst ds sched) where
  -- packed tasks start no earlier than they can, so the schedule ends no earlier than the first of them allows
  pub packed_node_le : (tasks : List ℕ) (ticks : ℕ) → pack inst (cranes_of inst ds) tasks ≡ Some ticks
      → (begins : ℕ → ℕ) → early inst ds ≡ Some begins → least (map begins tasks) + ticks ≤ ends inst sched
  packed_node_le tasks ticks e begins known =
      let range = packed_range inst (cranes_of inst ds) tasks (packed_of inst (cranes_of inst ds) tasks ticks e) in
      let meets = meets_by inst ds sched g a in
      pack_end_le inst (cranes_of inst ds) tasks ticks e sched (by_feasible inst.turn inst sched g) (follows_of inst ds sched a)
      begins
      (λ j c.
      let low = subst (λ (i : ℕ). i < length inst.tasks) c.2 (range c.0 j c.1) in
      omega (arith, early_le inst ds (starts sched) meets begins known j low, start_at sched j))

  pub packed_end_le : (tasks : List ℕ) (end : ℕ) → packed_end inst ds tasks ≡ Some end → end ≤ ends inst sched
  packed_end_le tasks end e =
      let ticks = pack inst (cranes_of inst ds) tasks in
      option_and_then_some (λ (begins : ℕ → ℕ). option_map (λ ticks. least (map begins tasks) + ticks) ticks) (early inst ds) end e
      (λ begins known is.
      shown (least (map begins tasks)) (ends inst sched) ticks end
      (λ n packs. packed_node_le tasks n packs begins known) is)

  pub closed_node_le : Valid inst → (end : ℕ) → is_closed inst inst.turn (cranes_of inst ds) end ≡ true
      → end ≤ ends inst sched
  closed_node_le valid end closed =
      closed_end_le inst inst.turn (cranes_of inst ds) end valid closed sched g (follows_of inst ds sched a)

  -- what a leaf shows is at most the end of the schedule: it never shows Never
  pub leaf_le : Valid inst → Fits inst ds → (leaf : Leaf) (bound : Bound) → leaf_value inst ds leaf ≡ Some bound
      → IsAtMost bound (Least (ends inst sched))
  leaf_le valid fits = leaf_value_le inst ds sched valid fits g a packed_end_le (closed_node_le valid)
