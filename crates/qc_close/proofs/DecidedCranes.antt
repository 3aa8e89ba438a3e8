-- What decisions say of cranes, as it changes by a decision.
use Rattle.std.proofs.Common.{[], ◌≡◌, ℕ, ◌<◌, inl, inr, List, ◌∷◌, length, Option, None, Some, set, ap, sym, ◌∙◌, arith, get_or, get_or-set_other, IsSome, is_some}
use Rattle.std.proofs.lemmas.Bool.{cases_eq}
use Rattle.std.proofs.lemmas.Grind.{get_or-set_at}
use Rattle.std.proofs.lemmas.List.{get_or-replicate, length-replicate, length-set}
use Rattle.std.proofs.lemmas.List.FromFn.{fill_by_all, get_or-map-range_with_len, length-map-range_with_len}
use Rattle.qc_dist.proofs.Assigned.{assigned_here, assigned_other}
use Rattle.qc_close.specs.Crews.{CrewView, IsCrewOf}
use Rattle.qc_close.specs.Model.{Decision, Assign, Order, InstanceView, assigned, crane_in, cranes_of, no_cranes}

module _ (inst : InstanceView) where
  -- no decision gives a task a crane
  pub cranes_none : no_cranes inst ≡ cranes_of inst []
  cranes_none =
      fill_by_all (assigned []) (no_cranes inst) (length inst.tasks) None (length-replicate {A = Option ℕ} (length inst.tasks) None)
      (λ i low. get_or-replicate {A = Option ℕ} (length inst.tasks) i None None low)

  -- the crane that decisions give a task
  pub crane_decided : (ds : List Decision) (j : ℕ) → j < length inst.tasks → crane_in (cranes_of inst ds) j ≡ assigned ds j
  crane_decided ds j low = get_or-map-range_with_len (assigned ds) 0 (length inst.tasks) j j None low (omega arith)

  -- a task has another crane, or none
  changed : (ds es : List Decision) (j : ℕ) (o : Option ℕ) → j < length inst.tasks → o ≡ assigned es j
      → ((i : ℕ) → (j ≡ i → ⊥) → assigned ds i ≡ assigned es i)
      → set (cranes_of inst ds) j o ≡ cranes_of inst es
  changed ds es j o low here others =
      fill_by_all (assigned es) (set (cranes_of inst ds) j o) (length inst.tasks) None
      (length-set (cranes_of inst ds) j o ∙ length-map-range_with_len (assigned ds) 0 (length inst.tasks)) at
    where
      at : (i : ℕ) → i < length inst.tasks → get_or (set (cranes_of inst ds) j o) i None ≡ assigned es i
      at i under = elim (cases_eq j i) [
        | inl same ↦
            get_or-set_at (cranes_of inst ds) j i o None (sym same)
            (omega (arith, length-map-range_with_len (assigned ds) 0 (length inst.tasks)))
            ∙ here ∙ ap (assigned es) same
        | inr differ ↦
            get_or-set_other (cranes_of inst ds) j i o None (λ e. differ (sym e)) ∙ crane_decided ds i under ∙ others i differ
      ]

  pub cranes_put : (ds : List Decision) (j k : ℕ) → j < length inst.tasks
      → set (cranes_of inst ds) j (Some k) ≡ cranes_of inst (Assign j k ∷ ds)
  cranes_put ds j k low =
      changed ds (Assign j k ∷ ds) j (Some k) low (sym (assigned_here ds j k))
      (λ i differ. sym (assigned_other ds j k i differ))

  pub cranes_taken : (ds : List Decision) (j k : ℕ) → j < length inst.tasks → assigned ds j ≡ None
      → set (cranes_of inst (Assign j k ∷ ds)) j None ≡ cranes_of inst ds
  cranes_taken ds j k low none =
      changed (Assign j k ∷ ds) ds j None low (sym none) (λ i differ. assigned_other ds j k i differ)

  -- the crew of decisions, from decision to decision
  pub crew_root : (crew : CrewView) → crew ≡ record { inst = inst; turn = inst.turn; cranes = no_cranes inst }
      → IsCrewOf crew inst []
  crew_root crew e = record {
    same = ap (λ (c : CrewView). c.inst) e;
    turn = ap (λ (c : CrewView). c.turn) e;
    cranes = ap (λ (c : CrewView). c.cranes) e ∙ cranes_none;
  }

  pub crew_put : (ds : List Decision) (crew new : CrewView) (j k : ℕ) → IsCrewOf crew inst ds → j < length inst.tasks
      → new ≡ record crew { cranes = set crew.cranes j (Some k) } → IsCrewOf new inst (Assign j k ∷ ds)
  crew_put ds crew new j k is low e = record {
    same = ap (λ (c : CrewView). c.inst) e ∙ is.same;
    turn = ap (λ (c : CrewView). c.turn) e ∙ is.turn;
    cranes = ap (λ (c : CrewView). c.cranes) e ∙ ap (λ (cs : List (Option ℕ)). set cs j (Some k)) is.cranes
        ∙ cranes_put ds j k low;
  }

  pub crew_taken : (ds : List Decision) (crew new : CrewView) (j k : ℕ) → IsCrewOf crew inst (Assign j k ∷ ds)
      → j < length inst.tasks → assigned ds j ≡ None
      → new ≡ record crew { cranes = set crew.cranes j None } → IsCrewOf new inst ds
  crew_taken ds crew new j k is low none e = record {
    same = ap (λ (c : CrewView). c.inst) e ∙ is.same;
    turn = ap (λ (c : CrewView). c.turn) e ∙ is.turn;
    cranes = ap (λ (c : CrewView). c.cranes) e ∙ ap (λ (cs : List (Option ℕ)). set cs j None) is.cranes
        ∙ cranes_taken ds j k low none;
  }

  -- what the crew says of a task
  pub crew_at : (ds : List Decision) (crew : CrewView) (j : ℕ) → IsCrewOf crew inst ds → j < length inst.tasks
      → crane_in crew.cranes j ≡ assigned ds j
  crew_at ds crew j is low = ap (λ (cs : List (Option ℕ)). crane_in cs j) is.cranes ∙ crane_decided ds j low

  pub crew_some : (ds : List Decision) (crew : CrewView) (j k : ℕ) → IsCrewOf crew inst (Assign j k ∷ ds)
      → j < length inst.tasks → IsSome (crane_in crew.cranes j)
  crew_some ds crew j k is low =
      ap is_some (crew_at (Assign j k ∷ ds) crew j is low ∙ assigned_here ds j k)

  pub crew_ordered : (ds : List Decision) (crew : CrewView) (i j : ℕ) → IsCrewOf crew inst ds
      → IsCrewOf crew inst (Order i j ∷ ds)
  crew_ordered ds crew i j is = record { same = is.same; turn = is.turn; cranes = is.cranes }
