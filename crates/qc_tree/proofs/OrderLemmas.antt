-- Which orders may be branched on, and that a feasible schedule has one of them.
use Rattle.std.proofs.Common.{◌≡◌, ℕ, ◌<◌, ◌≤◌, ◌⊎◌, inl, inr, List, Option, Some, IfSome, sym, subst, subst₂, ◌∙◌, arith}
use Rattle.std.proofs.lemmas.Bool.{cases_eq}
use Rattle.qc_close.specs.Model.{Decision, Slot, Turn, OneWay, Free, InstanceView, IsApart, Valid, bay_of, Agrees, Clash, Conflicts, assigned, Feasible, IsClear, crane_of, end_of, slot_distance, start_of, task_distance, travel_between}
use Rattle.qc_model.proofs.NodeLemmas.{assigned_is}
use Rattle.qc_tree.specs.Trees.{MayOrderBy}

-- where their order may be branched on, two tasks conflict
pub may_conflict : (turn : Turn) (inst : InstanceView) (ds : List Decision) (i j : ℕ) → MayOrderBy turn inst ds i j
    → Conflicts inst ds i j
may_conflict OneWay inst ds i j apart = inl (inl apart)
may_conflict Free inst ds i j may = may.1

-- and the lower number comes first
pub may_order_low : (turn : Turn) (inst : InstanceView) → Valid inst → (ds : List Decision) (i j : ℕ)
    → MayOrderBy turn inst ds i j → i < j
may_order_low OneWay inst v ds i j apart = (v.apart.range i j apart).0
may_order_low Free inst v ds i j may = may.0

module _ (inst : InstanceView) (v : Valid inst) (ds : List Decision) (sched : List Slot) (f : Feasible inst sched)
    (a : Agrees inst ds sched) where
  -- one of two tasks is over before the other starts
  abbrev pub IsOver : ℕ → ℕ → Type 0
  IsOver i j = (end_of inst sched i ≤ start_of sched j) ⊎ (end_of inst sched j ≤ start_of sched i)

  over_of : (ticks i j : ℕ) → IsClear inst sched ticks i j → IsOver i j
  over_of ticks i j clear =
      elim clear [ inl sooner ↦ inl (omega (arith, sooner)) | inr later ↦ inr (omega (arith, later)) ]

  over_turned : (i j : ℕ) → IsOver j i → IsOver i j
  over_turned i j over = elim over [ inl sooner ↦ inr sooner | inr later ↦ inl later ]

  apart_over : (i j : ℕ) → IsApart inst i j → IsOver i j
  apart_over i j apart =
      let r = v.apart.range i j apart in
      over_of 0 i j (f.apart i j (omega (arith, r.0, r.1)) r.1 apart)

  crane_is : (j k : ℕ) → assigned ds j ≡ Some k → crane_of sched j ≡ k
  crane_is j k e = subst (λ (o : Option ℕ). IfSome o (λ w. crane_of sched j ≡ w)) e (assigned_is inst sched ds a j)

  same_over : (i j : ℕ) → Clash inst ds i j → crane_of sched i ≡ crane_of sched j → IsOver i j
  same_over i j clash same =
      over_of (travel_between inst (bay_of inst i) (bay_of inst j)) i j
      (f.travel i j clash.first clash.second clash.differ same)

  clash_over : (i j : ℕ) → Clash inst ds i j → IsOver i j
  clash_over i j clash =
      let first = crane_is i clash.first_crane clash.of_first in
      let second = crane_is j clash.second_crane clash.of_second in
      elim clash.near [
        | inl one ↦ same_over i j clash (first ∙ one ∙ sym second)
        | inr near ↦ elim (cases_eq (crane_of sched i) (crane_of sched j)) [
          | inl same ↦ same_over i j clash same
          | inr two ↦
              over_of (slot_distance inst sched i j) i j
              (f.margin i j clash.first clash.second two
              (subst₂ (λ (x y : ℕ). 0 < task_distance inst i x j y) (sym first) (sym second) near))
        ]
      ]

  -- in a feasible schedule, two tasks that conflict are done one after the other
  pub conflict_clear : (i j : ℕ) → Conflicts inst ds i j → IsOver i j
  conflict_clear i j (inl (inl apart)) = apart_over i j apart
  conflict_clear i j (inl (inr apart)) = over_turned i j (apart_over j i apart)
  conflict_clear i j (inr clash) = clash_over i j clash
