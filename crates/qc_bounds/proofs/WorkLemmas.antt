-- The work of a node: the ends at which its assignment is closed.
use Rattle.std.proofs.Common.{◌≡◌, ℕ, ◌<◌, ◌≤◌, true, false, List, Some, None, inl, inr, refl, sym, subst, ◌∙◌, arith, ◌&&◌, nat_le}
use Rattle.std.proofs.lemmas.Bool.{and_from, cases_lt, cond-true, false≢true, le-leb}
use Rattle.qc_num.specs.Bounds.{IsAtMost}
use Rattle.qc_num.specs.declared.bound.Bound.TheVariants.{Least}
use Rattle.qc_close.specs.Crews.{CrewView, IsCrewOf}
use Rattle.qc_close.specs.Lasts.{IsLatest}
use Rattle.qc_close.proofs.KeptLemmas.{closed_falls}
use Rattle.qc_close.proofs.LimitLemmas.{closed_soon}
use Rattle.qc_close.specs.Model.{Decision, MOST_START, AreInRange, cranes_of, is_closed, IsWorkBound, IsWorkLate, InstanceView, Valid}
use Rattle.qc_bounds.specs.Work.{IsWorkShown}

module _ (crew : CrewView) (inst : InstanceView) (ds : List Decision) (of : IsCrewOf crew inst ds) where
  -- what the crew says of ends is said of the node's
  moved : (P : CrewView → Type 0) → P crew → P (record { inst = inst; turn = inst.turn; cranes = cranes_of inst ds })
  moved P h =
      subst (λ i. P (record { inst = i; turn = inst.turn; cranes = cranes_of inst ds })) of.same
      (subst (λ t. P (record { inst = crew.inst; turn = t; cranes = cranes_of inst ds })) of.turn
      (subst (λ cs. P (record { inst = crew.inst; turn = crew.turn; cranes = cs })) of.cranes h))

  pub bound_of : (bound : ℕ) → IsLatest (is_closed crew.inst crew.turn crew.cranes) bound → IsWorkBound inst ds bound
  bound_of bound latest =
      let here = moved (λ c. IsLatest (is_closed c.inst c.turn c.cranes) bound) latest in
      record {
        holds = here.passes;
        greatest = λ end positive closed. elim (cases_lt bound end) [
          | inl after ↦ absurd (false≢true (sym (here.others end after) ∙ closed))
          | inr before ↦ before
        ];
      }

  -- an end that no closed one comes up to
  pub work_early : (end : ℕ) → Valid crew.inst → AreInRange crew.inst crew.cranes → 0 < end
      → (end ≤ MOST_START → is_closed crew.inst crew.turn crew.cranes end ≡ false) → ¬ IsWorkLate inst ds (Least end)
  work_early end valid range some none late = elim (cases_lt MOST_START end) [
    | inl far ↦ omega (arith, closed_soon inst inst.turn (cranes_of inst ds) late.end home (moved (λ c. AreInRange c.inst c.cranes) range) late.holds, late.late, far)
    | inr soon ↦
        let closed = closed_falls inst inst.turn (cranes_of inst ds) end late.end home late.late late.holds in
        false≢true (sym (moved (λ c. is_closed c.inst c.turn c.cranes end ≡ false) (none soon)) ∙ closed)
  ]
    where
      home : Valid inst
      home = subst Valid of.same valid

  pub work_is : (end : ℕ) → 0 < end → end ≤ MOST_START → is_closed crew.inst crew.turn crew.cranes end ≡ true
      → IsWorkShown inst ds (Least end) end
  work_is end some soon closed =
      let here = moved (λ c. is_closed c.inst c.turn c.cranes end ≡ true) closed in
      record {
        is = refl;
        shows = cond-true (nat_le 1 end && is_closed inst inst.turn (cranes_of inst ds) end) (Some (Least end)) None
            (and_from (nat_le 1 end) (is_closed inst inst.turn (cranes_of inst ds) end) (le-leb 1 end (omega arith)) here);
        soon = soon;
      }

-- a bound that no end 0 comes up to is more than 0
pub some_end : (end : ℕ) → ¬ IsAtMost (Least end) (Least 0) → 0 < end
some_end end later = elim (cases_lt 0 end) [
  | inl some ↦ some
  | inr none ↦ absurd (later none)
]
