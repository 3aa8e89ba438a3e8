-- Of two tasks of a feasible plan that are tied one leads the other.
use Rattle.std.proofs.Common.{◌≡◌, ◌≢◌, ℕ, ◌<◌, ◌≤◌, ◌⊎◌, inl, inr, List, length, sym, subst, arith}
use Rattle.std.proofs.lemmas.Bool.{cases_eq}
use Rattle.qc_dispatch.specs.Order.{AreTied, Leads}
use Rattle.qc_model.specs.declared.schedule.Slot.{Slot}
use Rattle.qc_model.specs.Instance.{InstanceView, Valid, IsBefore, bay_of}
use Rattle.qc_model.specs.Rules.{Feasible, IsClear, crane_of, end_of, slot_distance, start_of}
use Rattle.qc_model.proofs.GoesLemmas.{distance_swapped}

module _ (inst : InstanceView) (plan : List Slot) (valid : Valid inst) (feasible : Feasible inst plan) where
  -- a task that comes before another leads it
  pub before_leads : (i j : ℕ) → IsBefore inst i j → Leads inst plan i j
  before_leads i j is =
      let range = valid.before.range i j is in
      let after : end_of inst plan i ≤ start_of plan j = feasible.before i j range.0 range.1 is in
      record { leader = range.0; led = range.1; sooner = omega (arith, after, valid.tasks.ticks i range.0); tied = inl is }

  abbrev OneLeads : ℕ → ℕ → Type 0
  OneLeads i j = Leads inst plan i j ⊎ Leads inst plan j i

  module _ (i j : ℕ) (first : i < length inst.tasks) (second : j < length inst.tasks) where
    by_clear : (t : ℕ) → AreTied inst plan i j → AreTied inst plan j i → IsClear inst plan t i j → OneLeads i j
    by_clear t one other clear = elim clear [
      | inl after ↦ inl (record { leader = first; led = second; sooner = omega (arith, after, valid.tasks.ticks i first); tied = one })
      | inr after ↦ inr (record { leader = second; led = first; sooner = omega (arith, after, valid.tasks.ticks j second); tied = other })
    ]

    by_crane : i ≢ j → crane_of plan i ≡ crane_of plan j → OneLeads i j
    by_crane differ same =
        by_clear _ (inr (inr (inl same))) (inr (inr (inl (sym same)))) (feasible.travel i j first second differ same)

    pub one_leads : i ≢ j → AreTied inst plan i j → OneLeads i j
    one_leads differ (inl before) = inl (before_leads i j before)
    one_leads differ (inr (inl (inl apart))) =
        by_clear 0 (inr (inl (inl apart))) (inr (inl (inr apart))) (feasible.apart i j first second apart)
    one_leads differ (inr (inl (inr apart))) =
        elim (by_other (feasible.apart j i second first apart)) [ inl l ↦ inl l | inr l ↦ inr l ]
      where
        by_other : IsClear inst plan 0 j i → OneLeads i j
        by_other clear = elim clear [
          | inl after ↦ inr (record { leader = second; led = first; sooner = omega (arith, after, valid.tasks.ticks j second); tied = inr (inl (inl apart)) })
          | inr after ↦ inl (record { leader = first; led = second; sooner = omega (arith, after, valid.tasks.ticks i first); tied = inr (inl (inr apart)) })
        ]
    one_leads differ (inr (inr (inl same))) = by_crane differ same
    one_leads differ (inr (inr (inr far))) = elim (cases_eq (crane_of plan i) (crane_of plan j)) [
      | inl same ↦ by_crane differ same
      | inr others ↦
          let back : 0 < slot_distance inst plan j i =
          subst (λ (d : ℕ). 0 < d) (distance_swapped inst (crane_of plan i) (bay_of inst i) (crane_of plan j) (bay_of inst j)) far in
          by_clear _ (inr (inr (inr far))) (inr (inr (inr back))) (feasible.margin i j first second others far)
    ]
