-- Marking tasks one after the other, the last by their turns first.
use Rattle.std.proofs.Common.{◌≡◌, ◌≢◌, ℕ, ◌+◌, ◌<◌, ◌≤◌, ◌↔◌, inl, inr, Bool, true, false, List, length, slice_index, slice_set, refl, sym, subst, ◌∙◌, arith}
use Rattle.std.specs.Prelude.{IsTrue}
use Rattle.std.proofs.lemmas.Bool.{cases_eq, false≢true}
use Rattle.std.proofs.lemmas.Grind.{get_or-set_at}
use Rattle.std.proofs.lemmas.List.{get_or-set_other, length-set}
use Rattle.qc_dispatch.specs.Order.{Leads, gap}
use Rattle.qc_model.specs.declared.schedule.Slot.{Slot}
use Rattle.qc_model.specs.Instance.{InstanceView}
use Rattle.qc_odds.specs.Course.{end_in}
use Rattle.qc_odds.specs.Critical.{AreMarked, HoldsUp, Matters, is_marked}
use Rattle.qc_odds.specs.Order.{AreTurns, task_at}
use Rattle.qc_odds.specs.declared.order.PlannedStart.{PlannedStart}

module _ (inst : InstanceView) (plan : List Slot) (lengths starts : List ℕ) where
  -- ---- one pair of tasks
  pub held_by : (marked : List Bool) (j next : ℕ) (same : Bool) → is_marked marked next ≡ true → Leads inst plan j next
      → ((same ≡ true) ↔ (end_in lengths starts j + gap inst plan j next ≡ slice_index starts next)) → IsTrue same ↔ HoldsUp inst plan lengths starts marked j next
  held_by marked j next same is leads tight = (λ yes'. record { leads = leads; tight = tight.0 yes'; is = is }, λ held. tight.1 held.tight)

  module _ (last : ℕ) where
    pub none_matters : (marked : List Bool) (j n : ℕ) → length inst.tasks ≤ n → end_in lengths starts j ≢ last
        → ((k : ℕ) → k < n → HoldsUp inst plan lengths starts marked j k → ⊥) → IsTrue false ↔ Matters inst plan lengths starts last marked j
    none_matters marked j n all early none = (
      λ no'. absurd (false≢true no'),
      λ is. elim is [
        | inl end ↦ absurd (early end)
        | inr held ↦ absurd (none held.0 (omega (arith, held.1.leads.led, all)) held.1)
      ],
    )

    -- the tasks from this place on are marked where they matter
    pub record IsMarkedFrom (turns : List PlannedStart) (left : ℕ) (marked : List Bool) : Type 0 where
      pub count : length marked ≡ length inst.tasks
      pub done : (q : ℕ) → left ≤ q → q < length turns → IsTrue (is_marked marked (task_at turns q)) ↔ Matters inst plan lengths starts last marked (task_at turns q)

    pub none_marked : (turns : List PlannedStart) (left : ℕ) (marked : List Bool) → length turns ≤ left → length marked ≡ length inst.tasks → IsMarkedFrom turns left marked
    none_marked turns left marked all count = record { count = count; done = λ q from within. absurd (omega arith) }

    module _ (turns : List PlannedStart) (are : AreTurns inst plan turns) (p left : ℕ) (is_next : left ≡ p + 1) (low : p < length turns) (marked : List Bool)
        (so_far : IsMarkedFrom turns left marked) (v : Bool) (says : IsTrue v ↔ Matters inst plan lengths starts last marked (task_at turns p)) where
      abbrev after : List Bool
      after = slice_set marked (task_at turns p) v

      inside : task_at turns p < length marked
      inside = omega (arith, are.inside p low, so_far.count)

      here : is_marked after (task_at turns p) ≡ v
      here = get_or-set_at marked (task_at turns p) (task_at turns p) v false refl inside

      other : (k : ℕ) → k ≢ task_at turns p → is_marked after k ≡ is_marked marked k
      other k differ = get_or-set_other marked (task_at turns p) k v false differ

      -- no task from here on leads this one
      not_led : (q : ℕ) → p ≤ q → q < length turns → (k : ℕ) → Leads inst plan (task_at turns q) k → k ≢ task_at turns p
      not_led q from within k leads same =
          let first = are.behind p (task_at turns q) low (subst (λ (i : ℕ). Leads inst plan (task_at turns q) i) same leads) in
          are.once first.place q (omega (arith, first.ahead, from)) within first.is

      there : (q : ℕ) → p ≤ q → q < length turns → Matters inst plan lengths starts last marked (task_at turns q) → Matters inst plan lengths starts last after (task_at turns q)
      there q from within is = elim is [
        | inl end ↦ inl end
        | inr held ↦ inr (held.0, record { leads = held.1.leads; tight = held.1.tight; is = other held.0 (not_led q from within held.0 held.1.leads) ∙ held.1.is })
      ]

      back : (q : ℕ) → p ≤ q → q < length turns → Matters inst plan lengths starts last after (task_at turns q) → Matters inst plan lengths starts last marked (task_at turns q)
      back q from within is = elim is [
        | inl end ↦ inl end
        | inr held ↦ inr (held.0, record { leads = held.1.leads; tight = held.1.tight; is = sym (other held.0 (not_led q from within held.0 held.1.leads)) ∙ held.1.is })
      ]

      done_now : (q : ℕ) → p ≤ q → q < length turns → IsTrue (is_marked after (task_at turns q)) ↔ Matters inst plan lengths starts last after (task_at turns q)
      done_now q from within = elim (cases_eq p q) [
        | inl same ↦
            subst (λ (k : ℕ). IsTrue (is_marked after (task_at turns k)) ↔ Matters inst plan lengths starts last after (task_at turns k)) same
            (λ is. there p (omega arith) low (says.0 (sym here ∙ is)), λ is. here ∙ says.1 (back p (omega arith) low is))
        | inr differ ↦
            let apart : task_at turns q ≢ task_at turns p = λ same. are.once p q (omega arith) within (sym same) in
            let old = so_far.done q (omega (arith, is_next)) within in
            let stays = other (task_at turns q) apart in
            (λ is. there q from within (old.0 (sym stays ∙ is)), λ is. stays ∙ old.1 (back q from within is))
      ]

      pub next_marked : IsMarkedFrom turns p after
      next_marked = record { count = length-set marked (task_at turns p) v ∙ so_far.count; done = done_now }

    pub all_marked : (turns : List PlannedStart) (left : ℕ) (marked : List Bool) → AreTurns inst plan turns → left ≤ 0 → IsMarkedFrom turns left marked → AreMarked inst plan lengths starts last marked
    all_marked turns left marked are none so_far = record {
      count = so_far.count;
      each_one = λ j low.
          let found = are.all_there j low in
          subst (λ (k : ℕ). IsTrue (is_marked marked k) ↔ Matters inst plan lengths starts last marked k) found.is (so_far.done found.place (omega arith) found.ahead);
    }
