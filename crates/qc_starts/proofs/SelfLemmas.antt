-- Nothing is forced from a task to itself.
use Rattle.std.proofs.Common.{◌≡◌, ℕ, Bool, true, false, ◌&&◌, ◌∙◌, eqb, inl, inr, List, [], ◌∷◌, Option, None, Some, T, ℤ, ◌<ℤ◌, refl, sym, ap₂, subst, arith, int_lt, nat_lt}
use Rattle.std.proofs.lemmas.Bool.{and_parts, or_cases, cond_both, cond-false, eqb-true, ltb-true, false≢true, false_from_ne_true}
use Rattle.std.proofs.lemmas.Int.{ints}
use Rattle.qc_model.specs.declared.decision.Decision.{Decision}
use Rattle.qc_model.specs.declared.decision.Decision.TheVariants.{Assign, Order}
use Rattle.qc_model.specs.declared.turn.Turn.{Turn}
use Rattle.qc_model.specs.declared.turn.Turn.TheVariants.{OneWay, Free}
use Rattle.qc_model.specs.Instance.{InstanceView, Valid, bay_of, ticks_of}
use Rattle.qc_model.specs.Nodes.{Fits, assigned, crane_ticks, forced, greater, is_before, is_ordered, is_sooner, pair_ticks, upward_ticks}
use Rattle.qc_model.proofs.NodeLemmas.{before_found, conflict_differs}

never_ordered : (inst : InstanceView) (ds : List Decision) → Valid inst → Fits inst ds → (i : ℕ)
    → is_ordered ds i i ≡ true → ⊥
never_ordered inst [] v fits i t = false≢true t
never_ordered inst (Assign j k ∷ ds) v fits i t = never_ordered inst ds v fits.3 i t
never_ordered inst (Order g h ∷ ds) v fits i t =
    elim (or_cases (eqb g i && eqb h i) (is_ordered ds i i) t) [
      | inl e ↦
          let parts = and_parts (eqb g i) (eqb h i) e in
          let same : g ≡ i = eqb-true g i parts.0 in
          let same_too : h ≡ i = eqb-true h i parts.1 in
          conflict_differs inst v ds g h fits.0 (same ∙ sym same_too)
      | inr e ↦ never_ordered inst ds v fits.3 i e
    ]

never_sooner : (inst : InstanceView) (ds : List Decision) → Valid inst → Fits inst ds → (i : ℕ)
    → is_sooner inst ds i i ≡ true → ⊥
never_sooner inst ds v fits i t =
    elim (or_cases (is_before inst i i) (is_ordered ds i i) t) [
      | inl e ↦ v.before.no_ring i [] (before_found i i inst.before e)
      | inr e ↦ never_ordered inst ds v fits i e
    ]

never_below : (x : ℤ) → int_lt x x ≡ true → ⊥
never_below x t = let less : x <ℤ x = record { lt = subst T (sym t) tt } in omega (arith, ints)

no_climb : (inst : InstanceView) (i v : ℕ) → upward_ticks inst i v i v ≡ None
no_climb inst i v =
    cond_both (eqb v v) _ _ (λ o. o ≡ None)
    (λ _. cond_both (int_lt (bay_of inst i) (bay_of inst i)) _ _ (λ o. o ≡ None)
    (λ up. absurd (never_below (bay_of inst i) up)) (λ _. refl))
    (λ other. cond_both (nat_lt v v && _) _ _ (λ o. o ≡ None)
    (λ both. let parts = and_parts (nat_lt v v) _ both in absurd (omega (arith, ltb-true v v parts.0)))
    (λ _. refl))

no_pair : (turn : Turn) (inst : InstanceView) (sooner : Bool) (i v : ℕ) → sooner ≡ false
    → pair_ticks turn inst sooner i v i v ≡ None
no_pair OneWay inst sooner i v never = no_climb inst i v
no_pair Free inst sooner i v never = cond-false sooner _ None never

none_asked : (inst : InstanceView) (sooner : Bool) (i : ℕ) (a : Option ℕ) → sooner ≡ false
    → crane_ticks inst sooner i i a a ≡ None
none_asked inst sooner i None never = refl
none_asked inst sooner i (Some v) never = no_pair inst.turn inst sooner i v never

-- nothing is forced from a task to itself
pub self_free : (inst : InstanceView) (ds : List Decision) → Valid inst → Fits inst ds → (i : ℕ)
    → forced inst ds i i ≡ None
self_free inst ds v fits i =
    let never = false_from_ne_true (is_sooner inst ds i i) (never_sooner inst ds v fits i) in
    ap₂ greater
    (cond-false (is_sooner inst ds i i) (Some (ticks_of inst i)) None never)
    (none_asked inst (is_sooner inst ds i i) i (assigned ds i) never)
