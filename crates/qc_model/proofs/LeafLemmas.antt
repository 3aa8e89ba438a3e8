-- What leaves show holds: a ring has no solution, and the end that a leaf shows is at most that of every schedule of the
-- instance's turn that agrees with the node.
use Rattle.std.proofs.Common.{◌≡◌, ℕ, ◌+◌, ◌<◌, ◌≤◌, Bool, true, ◌&&◌, leb, List, [], ◌∷◌, ◌++◌, length, Option, None, Some, IfSome, is_some, sym, subst, refl, ◌∙◌, arith, nat_le, nat_lt, option_and_then, option_map, slice_index}
use Rattle.std.proofs.lemmas.Bool.{and_parts, cond_both, false≢true, ltb-true, not-true}
use Rattle.std.specs.List.{list_all}
use Rattle.qc_num.specs.Bounds.{IsAtMost}
use Rattle.qc_num.specs.declared.bound.Bound.{Bound}
use Rattle.qc_num.specs.declared.bound.Bound.TheVariants.{Least, Never}
use Rattle.qc_model.specs.declared.decision.Decision.{Decision}
use Rattle.qc_model.specs.declared.decision.Decision.TheVariants.{Assign, Order}
use Rattle.qc_model.specs.Numbers.{most_tasks}
use Rattle.qc_model.specs.declared.schedule.Slot.{Slot}
use Rattle.qc_model.specs.Instance.{InstanceView, Valid, ticks_of}
use Rattle.qc_model.specs.Leaves.{Leaf, are_tasks, chain, chain_end, chain_ticks, is_out_of_reach, is_ring, leaf_value, packed, packed_end, reach, ring, work, work_over}
use Rattle.qc_model.specs.Assignments.{cranes_of}
use Rattle.qc_model.specs.Closed.{is_closed}
use Rattle.qc_model.specs.Nodes.{Agrees, Fits, Meets, forced, head, reaches, is_in_reach}
use Rattle.qc_model.specs.Frames.{GoesBy}
use Rattle.qc_model.specs.Rules.{Feasible, ends, last_end, starts}
use Rattle.qc_model.proofs.CompleteNodes.{forced_ticks}
use Rattle.qc_model.proofs.NodeLemmas.{IsStep, ends_by, if_some, in_reach_of, meets_by}
use Rattle.qc_model.proofs.TurnLemmas.{by_feasible}

-- the tasks are those of the instance
abbrev are_within : InstanceView → List ℕ → Bool
are_within inst tasks = list_all (λ j. nat_lt j (length inst.tasks)) tasks

within : (inst : InstanceView) (tasks : List ℕ) → are_tasks inst tasks ≡ true
    → are_within inst tasks ≡ true
within inst tasks all = (and_parts (leb (length tasks) most_tasks) (are_within inst tasks) all).1

-- the first of them, and the others
first_of_them : (inst : InstanceView) (j : ℕ) (js : List ℕ) → are_within inst (j ∷ js) ≡ true
    → (j < length inst.tasks) × (are_within inst js ≡ true)
first_of_them inst j js all =
    let parts = and_parts (nat_lt j (length inst.tasks)) (are_within inst js) all in
    (ltb-true j (length inst.tasks) parts.0, parts.1)

-- a step and what follows it
pub joined : (P Q R : ℕ → Type 0) (a b : Option ℕ) → IfSome a P → IfSome b Q
    → ((x y : ℕ) → P x → Q y → R (x + y))
    → IfSome (option_and_then (λ step. option_map (λ rest. step + rest) b) a) R
joined P Q R None b p q h = tt
joined P Q R (Some x) None p q h = tt
joined P Q R (Some x) (Some y) p q h = h x y p q

module _ (inst : InstanceView) (ds : List Decision) (begins : List ℕ) (m : Meets inst ds begins) where
  -- a step from i to j that is met, and no shorter than i
  abbrev Steps : ℕ → ℕ → ℕ → Type 0
  Steps i j n = (slice_index begins i + n ≤ slice_index begins j) × (ticks_of inst i ≤ n)

  step_met : (i j : ℕ) → i < length inst.tasks → j < length inst.tasks
      → IfSome (forced inst ds i j) (Steps i j)
  step_met i j low high = if_some (forced inst ds i j) (Steps i j) (λ n e.
      let long =
      subst (λ (o : Option ℕ). IfSome o (λ n. ticks_of inst i ≤ n)) e (forced_ticks inst ds i j) in
      (m.steps i j n low high e, long))

  -- so long after the start of the task it is at most the last end
  abbrev EndsBy : ℕ → ℕ → Type 0
  EndsBy i n = slice_index begins i + n ≤ last_end inst.tasks begins

  -- a chain behind a task ends by the last end
  chain_met : (i : ℕ) (js : List ℕ) → i < length inst.tasks → are_within inst js ≡ true
      → IsStep (slice_index begins i) (last_end inst.tasks begins) (chain_ticks inst ds i js)
  chain_met i [] low all = ends_by inst.tasks begins i m.all_tasks low
  chain_met i (j ∷ js) low all =
      let next = first_of_them inst j js all in
      joined (Steps i j) (EndsBy j) (EndsBy i)
      (forced inst ds i j) (chain_ticks inst ds j js) (step_met i j low next.0) (chain_met j js next.0 next.1)
      (λ x y p q. omega arith)

  chain_end_met : (tasks : List ℕ) → are_within inst tasks ≡ true
      → IfSome (chain_end inst ds tasks) (λ end. end ≤ last_end inst.tasks begins)
  chain_end_met [] all = omega arith
  chain_end_met (j ∷ js) all =
      let first = first_of_them inst j js all in
      with_head (chain_ticks inst ds j js) (m.heads j first.0) (chain_met j js first.0 first.1)
    where
      with_head : (o : Option ℕ) → head inst ds j ≤ slice_index begins j
          → IsStep (slice_index begins j) (last_end inst.tasks begins) o
          → IfSome (option_map (λ ticks. head inst ds j + ticks) o) (λ end. end ≤ last_end inst.tasks begins)
      with_head None h k = tt
      with_head (Some n) h k = omega arith

  -- a chain to a task l takes no longer than until l ends, and no less than its first task and l
  abbrev Leads : ℕ → ℕ → ℕ → Type 0
  Leads i l n = (slice_index begins i + n ≤ slice_index begins l + ticks_of inst l) × (ticks_of inst i + ticks_of inst l ≤ n)

  chain_to_met : (i : ℕ) (js : List ℕ) (l : ℕ) → i < length inst.tasks → are_within inst js ≡ true
      → l < length inst.tasks
      → IfSome (chain_ticks inst ds i (js ++ l ∷ [])) (Leads i l)
  chain_to_met i [] l low all high =
      joined (Steps i l) (λ n. n ≡ ticks_of inst l) (Leads i l) (forced inst ds i l) (Some (ticks_of inst l))
      (step_met i l low high) refl (λ x y p q. (omega arith, omega arith))
  chain_to_met i (j ∷ js) l low all high =
      let next = first_of_them inst j js all in
      joined (Steps i j) (Leads j l) (Leads i l) (forced inst ds i j) (chain_ticks inst ds j (js ++ l ∷ []))
      (step_met i j low next.0) (chain_to_met j js l next.0 next.1 high) (λ x y p q. (omega arith, omega arith))

  -- and there is no ring
  pub no_ring_met : Valid inst → (tasks : List ℕ) → is_ring inst ds tasks ≡ true
      → are_tasks inst tasks ≡ true → ⊥
  no_ring_met v [] turn all = false≢true turn
  no_ring_met v (j ∷ js) turn all =
      let first = first_of_them inst j js (within inst (j ∷ js) all) in
      let back = chain_to_met j js j first.0 first.1 first.0 in
      turns (chain_ticks inst ds j (js ++ j ∷ [])) turn (v.tasks.ticks j first.0) back
    where
      turns : (o : Option ℕ) → is_some o ≡ true → 1 ≤ ticks_of inst j → IfSome o (Leads j j) → ⊥
      turns None some long h = false≢true some
      turns (Some n) some long h = omega arith

-- a decision that is out of reach is that of no schedule
in_reach : (inst : InstanceView) (ds : List Decision) (sched : List Slot) → Fits inst ds
    → Feasible inst sched → Agrees inst ds sched
    → is_out_of_reach inst ds ≡ true → ⊥
in_reach inst [] sched fits f a t = false≢true t
in_reach inst (Order i j ∷ ds) sched fits f a t = false≢true t
in_reach inst (Assign j k ∷ ds) sched fits f a t =
    let r = in_reach_of inst sched f (Assign j k ∷ ds) fits a in
    false≢true (sym (not-true (reaches inst j k) t) ∙ (and_parts (reaches inst j k) (is_in_reach inst ds) r).0)

module _ (inst : InstanceView) (ds : List Decision) (sched : List Slot) (v : Valid inst)
    (fits : Fits inst ds) (g : GoesBy inst.turn inst sched) (a : Agrees inst ds sched)
    (packs : (tasks : List ℕ) (end : ℕ) → packed_end inst ds tasks ≡ Some end → end ≤ ends inst sched)
    (closes : (end : ℕ) → is_closed inst inst.turn (cranes_of inst ds) end ≡ true → end ≤ ends inst sched) where
  abbrev Shows : Option Bound → Type 0
  Shows o = IfSome o (λ bound. IsAtMost bound (Least (ends inst sched)))

  leaf_shows : (leaf : Leaf) → Shows (leaf_value inst ds leaf)
  leaf_shows (chain tasks) =
      cond_both (are_tasks inst tasks) (option_map Least (chain_end inst ds tasks)) None Shows
      (λ all.
      let met = chain_end_met inst ds (starts sched) (meets_by inst ds sched g a) tasks (within inst tasks all) in
      number (chain_end inst ds tasks) met)
      (λ _. tt)
    where
      number : (o : Option ℕ) → IfSome o (λ end. end ≤ ends inst sched) → Shows (option_map Least o)
      number None h = tt
      number (Some end) h = h
  leaf_shows (ring tasks) =
      cond_both (are_tasks inst tasks && nat_le 2 (length tasks) && is_ring inst ds tasks) (Some Never) None Shows
      (λ t.
      let parts = and_parts (are_tasks inst tasks && nat_le 2 (length tasks)) (is_ring inst ds tasks) t in
      let all = and_parts (are_tasks inst tasks) (nat_le 2 (length tasks)) parts.0 in
      no_ring_met inst ds (starts sched) (meets_by inst ds sched g a) v tasks parts.1 all.0)
      (λ _. tt)
  leaf_shows reach =
      cond_both (is_out_of_reach inst ds) (Some Never) None Shows (λ t. in_reach inst ds sched fits (by_feasible inst.turn inst sched g) a t) (λ _. tt)
  leaf_shows (work end) =
      cond_both (nat_le 1 end && work_over inst ds end) (Some (Least end)) None Shows
      (λ t. closes end (and_parts (nat_le 1 end) (work_over inst ds end) t).1)
      (λ _. tt)
  leaf_shows (packed tasks) = number (packed_end inst ds tasks) (packs tasks)
    where
      number : (o : Option ℕ) → ((end : ℕ) → o ≡ Some end → end ≤ ends inst sched) → Shows (option_map Least o)
      number None h = tt
      number (Some end) h = h end refl

  -- what a leaf shows is at most the end of the schedule: it never shows Never
  pub leaf_value_le : (leaf : Leaf) (bound : Bound) → leaf_value inst ds leaf ≡ Some bound
      → IsAtMost bound (Least (ends inst sched))
  leaf_value_le leaf bound e = subst Shows e (leaf_shows leaf)
