-- Packed tasks: from when the first of them can start, and the leaf that they are.
use Rattle.std.proofs.Common.{◌≡◌, ℕ, ◌+◌, List, map, Option, None, Some, IsSome, option_map, option_and_then, slice_index, refl, ap, ap₂, sym, subst, ◌∙◌}
use Rattle.std.specs.Option.{option_map_or}
use Rattle.qc_num.specs.declared.bound.Bound.TheVariants.{Least}
use Rattle.qc_close.specs.Crews.{CrewView, IsCrewOf}
use Rattle.qc_close.specs.Model.{Decision, OneWay, Free, cranes_of, early, early_by, least_starts, InstanceView, Valid, packed_end, AreLeast, HasStarts, IsComplete, IsInReach, IsNodeEnd, head, least, pack}
use Rattle.qc_model.proofs.CompleteNodes.{least_same}
use Rattle.qc_model.proofs.LeastStarts.{early_one_way, early_some, found_of}
use Rattle.qc_starts.specs.Seen.{IsNodeStart}
use Rattle.qc_bounds.specs.Closed.{IsClashLeaf}
use Rattle.qc_bounds.specs.Packed.{IsPackedShown, early_at}

-- ---- from when tasks can start

early_at_is : (inst : InstanceView) (ds : List Decision) (begins : ℕ → ℕ) → early inst ds ≡ Some begins → (j : ℕ)
    → early_at inst ds j ≡ begins j
early_at_is inst ds begins is j = ap (λ o. option_map_or (λ (begins : ℕ → ℕ). begins j) o 0) is

-- where cranes go one way it is the head, and where they go as they like the least start
pub early_at_one_way : (inst : InstanceView) (ds : List Decision) → inst.turn ≡ OneWay → (j : ℕ)
    → early_at inst ds j ≡ head inst ds j
early_at_one_way inst ds one j = early_at_is inst ds (head inst ds) (early_one_way inst ds one) j

module _ (inst : InstanceView) (ds : List Decision) (as_free : inst.turn ≡ Free) (known : IsSome (early inst ds)) where
  -- the starts that are found
  found : (starts : List ℕ) × (least_starts inst ds ≡ Some starts)
  found = by_starts (least_starts inst ds) refl
      (subst (λ (o : Option (ℕ → ℕ)). IsSome o) (ap (λ turn. early_by turn inst ds) as_free) known)
    where
      by_starts : (o : Option (List ℕ)) → least_starts inst ds ≡ o
          → IsSome (option_map {U = ℕ → ℕ} (λ starts j. slice_index starts j) o)
          → (starts : List ℕ) × (least_starts inst ds ≡ Some starts)
      by_starts None is some = absurd (cc some)
      by_starts (Some starts) is some = (starts, is)

  least_found : AreLeast inst ds found.0
  least_found = (found_of inst ds found.0 found.1).least

  -- they meet the node
  pub starts_known : HasStarts inst ds
  starts_known = record { starts = found.0; meets = least_found.meets }

  pub early_at_free : (j start : ℕ) → IsNodeStart inst ds j start → early_at inst ds j ≡ start
  early_at_free j start is =
      let shown = ap (λ turn. early_by turn inst ds) as_free
      ∙ ap (option_map {U = ℕ → ℕ} (λ starts j. slice_index starts j)) found.1 in
      let same = ap (λ (starts : List ℕ). slice_index starts j) (least_same inst ds found.0 is.starts least_found is.least) in
      early_at_is inst ds (slice_index found.0) shown j ∙ same ∙ sym is.is

-- of a node in reach that has an end it is known
pub early_known : (inst : InstanceView) (ds : List Decision) → Valid inst → IsInReach inst ds → (end : ℕ)
    → IsNodeEnd inst ds end → IsSome (early inst ds)
early_known inst ds v reach end is = early_some inst ds v reach is.starts is.least

-- the end of packed tasks, where it is known from when tasks can start
packed_known : (inst : InstanceView) (ds : List Decision) (tasks : List ℕ) → IsSome (early inst ds)
    → packed_end inst ds tasks
    ≡ option_map (λ ticks. least (map (early_at inst ds) tasks) + ticks) (pack inst (cranes_of inst ds) tasks)
packed_known inst ds tasks some = by_begins (early inst ds) some
  where
    by_begins : (o : Option (ℕ → ℕ)) → IsSome o
        → option_and_then (λ begins.
        option_map (λ ticks. least (map begins tasks) + ticks) (pack inst (cranes_of inst ds) tasks)) o
        ≡ option_map (λ ticks. least (map (λ j. option_map_or (λ begins. begins j) o 0) tasks) + ticks)
        (pack inst (cranes_of inst ds) tasks)
    by_begins None none = absurd (cc none)
    by_begins (Some begins) some = refl

-- what they show with the ticks that they need
pub packed_shown : (inst : InstanceView) (ds : List Decision) (crew : CrewView) → IsCrewOf crew inst ds → (tasks : List ℕ)
    → IsSome (early inst ds) → (ticks begin : ℕ) → pack crew.inst crew.cranes tasks ≡ Some ticks
    → begin ≡ least (map (early_at inst ds) tasks) → Some (begin + ticks) ≡ packed_end inst ds tasks
packed_shown inst ds crew of tasks some ticks begin packs is =
    let packed : pack inst (cranes_of inst ds) tasks ≡ Some ticks =
    ap₂ (λ i cranes. pack i cranes tasks) (sym of.same) (sym of.cranes) ∙ packs in
    ap (λ n. Some (n + ticks)) is
    ∙ ap (option_map (λ n. least (map (early_at inst ds) tasks) + n)) (sym packed)
    ∙ sym (packed_known inst ds tasks some)

-- packed tasks are the leaf of a node that has more to decide
pub clash_leaf : (inst : InstanceView) (ds : List Decision) (tasks : List ℕ) (end : ℕ) → HasStarts inst ds
    → ¬ IsComplete inst ds → IsPackedShown inst ds tasks end → IsClashLeaf inst ds end tasks
clash_leaf inst ds tasks end starts more p = record {
  starts = starts;
  undecided = more;
  shows = ap (option_map Least) p.shows;
  soon = p.soon;
}
