-- When a task may start for the first so many others.
use Rattle.std.proofs.Common.{◌≡◌, ℕ, ◌+◌, ◌<◌, ◌≤◌, ◌↔◌, max, inl, inr, List, length, subst, arith}
use Rattle.std.proofs.lemmas.Bool.{cases_eq}
use Rattle.qc_dispatch.specs.Order.{Leads, free_of, gap}
use Rattle.qc_model.specs.declared.schedule.Slot.{Slot}
use Rattle.qc_model.specs.Instance.{InstanceView}
use Rattle.qc_odds.specs.Course.{IsStart}

module _ (inst : InstanceView) (plan : List Slot) (ends : ℕ → ℕ) (j : ℕ) where
  -- by this moment task j may start for its crane and for the first n tasks
  pub record MayStartFor (n moment : ℕ) : Type 0 where
    pub free : free_of inst plan j ≤ moment
    pub clear : (i : ℕ) → i < n → Leads inst plan i j → ends i + gap inst plan i j ≤ moment

  abbrev pub IsDue : (n due : ℕ) → Type 0
  IsDue n due = (moment : ℕ) → (due ≤ moment) ↔ MayStartFor n moment

  pub due_first : (due : ℕ) → due ≡ free_of inst plan j → IsDue 0 due
  due_first due is moment =
      (λ le. record { free = omega (arith, is, le); clear = λ i low. absurd (omega arith) }, λ may. omega (arith, is, may.free))

  pub due_next : (n due : ℕ) → Leads inst plan n j → IsDue n due → IsDue (n + 1) (max due (ends n + gap inst plan n j))
  due_next n due leads is moment = (
    λ le. let may : MayStartFor n moment = (is moment).0 (omega (arith, le)) in record {
      free = may.free;
      clear = λ i low ahead. elim (cases_eq i n) [
        | inl same ↦ let e : n ≡ i = omega arith in subst (λ (k : ℕ). ends k + gap inst plan k j ≤ moment) e (omega (arith, le))
        | inr other ↦ may.clear i (omega arith) ahead
      ];
    },
    λ may.
        let old : due ≤ moment = (is moment).1 (record { free = may.free; clear = λ i low ahead. may.clear i (omega arith) ahead }) in
        let last = may.clear n (omega arith) leads in
        omega arith,
  )

  pub due_same : (n due : ℕ) → (Leads inst plan n j → ⊥) → IsDue n due → IsDue (n + 1) due
  due_same n due not_led is moment = (
    λ le. let may : MayStartFor n moment = (is moment).0 le in record {
      free = may.free;
      clear = λ i low ahead. elim (cases_eq i n) [
        | inl same ↦ absurd (not_led (subst (λ (k : ℕ). Leads inst plan k j) same ahead))
        | inr other ↦ may.clear i (omega arith) ahead
      ];
    },
    λ may. (is moment).1 (record { free = may.free; clear = λ i low ahead. may.clear i (omega arith) ahead }),
  )

  pub due_all : (n due : ℕ) → length inst.tasks ≤ n → IsDue n due → IsStart inst plan ends j due
  due_all n due all is moment = (
    λ le. let may : MayStartFor n moment = (is moment).0 le in record { free = may.free; clear = λ i ahead. may.clear i (omega (arith, all, ahead.leader)) ahead },
    λ may. (is moment).1 (record { free = may.free; clear = λ i low ahead. may.clear i ahead }),
  )
