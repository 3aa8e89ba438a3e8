-- What was found of the work makes the rest.
use Rattle.std.proofs.Common.{◌≡◌, ℕ, ◌+◌, ◌<◌, ◌≤◌, ℤ, pos, ◌≤ℤ◌, inl, inr, List, length, None, Some, slice_index, refl, sym, subst, arith}
use Rattle.std.proofs.lemmas.Bool.{cases_eq, cases_lt}
use Rattle.std.proofs.lemmas.List.{get_or_past}
use Rattle.qc_dispatch.specs.declared.follow.Followed.{Followed}
use Rattle.qc_dispatch.specs.Course.{Course}
use Rattle.qc_dispatch.specs.Following.{journal_of}
use Rattle.qc_model.specs.declared.schedule.Slot.{Slot}
use Rattle.qc_model.specs.Instance.{InstanceView, IsOnRail, Valid, bay_of}
use Rattle.qc_model.specs.Judge.{IsJudgeable}
use Rattle.qc_model.specs.Numbers.{most_start}
use Rattle.qc_model.specs.Rules.{Feasible, end_of}
use Rattle.qc_model.proofs.Bays.{bays}
use Rattle.qc_model.proofs.LimitsOf.{limits_of}
use Rattle.qc_model.proofs.OnRail.{ticks_bounded}
use Rattle.qc_rest.specs.declared.rest.RestError.{RestError}
use Rattle.qc_rest.specs.declared.rest.RestError.TheVariants as error
use Rattle.qc_rest.specs.declared.stand.Stand.{Stand}
use Rattle.qc_rest.specs.Fit.{IsBerth, IsFit}
use Rattle.qc_rest.specs.Following.{AreEarlySlots}
use Rattle.qc_rest.specs.GoneOn.{AreGoneOn}
use Rattle.qc_rest.specs.Known.{IsKnown}
use Rattle.qc_rest.specs.Limits.{outlook_of}
use Rattle.qc_rest.specs.OldOrder.{IsOldOrder}
use Rattle.qc_rest.specs.Places.{ArePlaces, Outlook}
use Rattle.qc_rest.specs.Progress.{AreOver}
use Rattle.qc_rest.specs.Remaining.{NoneIsDue, over_at}
use Rattle.qc_rest.specs.Rest.{IsExactRest}
use Rattle.qc_rest.specs.RestOf.{rest_of}
use Rattle.qc_rest.specs.Stands.{AreStands, IsStand, no_stand, stand_of}
use Rattle.qc_rest.specs.Unfit.{IsUnfitAt}
use Rattle.qc_rest.specs.Whole.{IsNoRest, IsOutlook, IsUnfit}
use Rattle.qc_rest.proofs.BerthLemmas.{rest_is_valid}
use Rattle.qc_rest.proofs.OldLemmas.{old_feasible}
use Rattle.qc_rest.proofs.PlaceLemmas.{can_be}
use Rattle.qc_rest.proofs.RemainingLemmas.{over_known}
use Rattle.qc_rest.proofs.RestLemmas.{rest_exact}

-- ---- the instance

module _ (f : Followed) (stands : List Stand) (goes : List ℕ) (tops places : ℕ → ℤ) (known : IsKnown (journal_of f)) (none : NoneIsDue (journal_of f))
    (are : AreStands f.dispatch (over_at (journal_of f)) stands) (gone : AreGoneOn f.dispatch (over_at (journal_of f)) (slice_index goes))
    (placed : ArePlaces (outlook_of f stands goes) tops places) where
  abbrev c : Course
  c = f.dispatch

  abbrev over : ℕ → ℕ
  over = over_at (journal_of f)

  over_is : AreOver c over
  over_is = over_known (journal_of f) none

  pub exact : IsExactRest c over stands places (rest_of c over stands places)
  exact = rest_exact c over stands places known.valid known.keeps are
      (λ k low. can_be (outlook_of f stands goes) known.valid known.feasible known.keeps over_is are gone tops places placed k low)

  pub valid_now : ((k : ℕ) → k < length c.inst.cranes → IsFit (outlook_of f stands goes) places k) → Valid (rest_of c over stands places)
  valid_now fit =
      rest_is_valid (outlook_of f stands goes) known.valid known.feasible known.keeps over_is are gone tops places placed (λ k low. (fit k low).ready)
      (λ limits k low. (fit k low).berth)

  pub feasible_now : (rest : InstanceView) → rest ≡ rest_of c over stands places → (order : List Slot) → IsOldOrder c rest order → Feasible rest order
  feasible_now rest same order old =
      let here = subst (λ (r : InstanceView). IsExactRest c over stands places r) (sym same) exact in
      old_feasible c over stands places rest order known.valid known.feasible known.keeps here old

-- it can be judged where no start is late
pub judgeable : (inst : InstanceView) (order : List Slot) → Feasible inst order → AreEarlySlots order → IsJudgeable inst order
judgeable inst order feasible early = record {
  all_tasks = feasible.all_tasks;
  crane_range = feasible.crane_range;
  start_range = λ j low. omega (arith, early.each_one j);
}

-- and its ends have few digits, where it is an instance
pub short_ends : (inst : InstanceView) (order : List Slot) → Valid inst → AreEarlySlots order → (j : ℕ) → j < length inst.tasks
    → end_of inst order j ≤ most_start
short_ends inst order valid early j low = omega (arith, early.each_one j, ticks_bounded inst valid j low)

-- ---- the first crane that isn't fit

module _ (o : Outlook) (places : ℕ → ℤ) (now : ℕ) (at : now ≡ o.course.clock) where
  pub fit_more : (n until : ℕ) (place : ℤ) → until ≡ (stand_of o.stands n).until → place ≡ places n → IsUnfitAt now until place n None
      → ((k : ℕ) → k < n → IsFit o places k) → (k : ℕ) → k < n + 1 → IsFit o places k
  fit_more n until place is there fine before k low = elim (cases_eq k n) [
    | inl same ↦ subst (IsFit o places) (sym same) (record {
      ready = omega (arith, at, fine.0, is);
      berth = subst IsBerth there fine.1;
    })
    | inr other ↦ before k (omega arith)
  ]

  pub unfit_here : (n until : ℕ) (place : ℤ) (why : RestError) → n < length o.course.inst.cranes → until ≡ (stand_of o.stands n).until → place ≡ places n
      → IsUnfitAt now until place n (Some why) → ((k : ℕ) → k < n → IsFit o places k) → IsUnfit o places why
  unfit_here n until place why inside is there (inl late) before =
      subst (IsUnfit o places) (sym late.0) (
        record { inside = inside; lower = before },
        λ soon. late.1 (omega (arith, at, soon, is)),
      )
  unfit_here n until place why inside is there (inr far) before =
      subst (IsUnfit o places) (sym far.0) (
        record { inside = inside; lower = before },
        (omega (arith, at, far.1.0, is), λ berth. far.1.1 (subst IsBerth (sym there) berth)),
      )

-- then there is no rest
pub no_rest : (f : Followed) (stands : List Stand) (goes : List ℕ) (tops places : ℕ → ℤ) → NoneIsDue (journal_of f)
    → AreStands f.dispatch (over_at (journal_of f)) stands → AreGoneOn f.dispatch (over_at (journal_of f)) (slice_index goes)
    → ArePlaces (outlook_of f stands goes) tops places → (why : RestError) → IsUnfit (outlook_of f stands goes) places why → IsNoRest (journal_of f) why
no_rest f stands goes tops places none are gone placed why unfit = by why unfit
  where
    is : IsOutlook (journal_of f) (outlook_of f stands goes) places
    is = record { course = refl; over = refl; stands = are; goes = gone; tops = tops; places_are = placed }

    by : (why : RestError) → IsUnfit (outlook_of f stands goes) places why → IsNoRest (journal_of f) why
    by (error.Over i) unfit = absurd unfit
    by (error.Ready k) unfit = record { known = none; outlook = outlook_of f stands goes; places = places; is = is; unfit = unfit }
    by (error.Bay k) unfit = record { known = none; outlook = outlook_of f stands goes; places = places; is = is; unfit = unfit }
    by error.OutOfMemory unfit = absurd unfit

-- ---- stands are on the rail

rail_of : (n : ℕ) (x : ℤ) → n ≤ 6000 → (pos 1 ≤ℤ x) × (x ≤ℤ pos n) → IsOnRail x
rail_of n x few at =
    let low = at.0 in
    let high = at.1 in
    (omega (arith, bays, low), omega (arith, bays, high))

nought_on_rail : IsOnRail (pos 0)
nought_on_rail = (omega (arith, bays), omega (arith, bays))

pub stands_on_rail : (c : Course) (over : ℕ → ℕ) (stands : List Stand) → Valid c.inst → length stands ≡ length c.inst.cranes → AreStands c over stands
    → (k : ℕ) → IsOnRail (stand_of stands k).bay
stands_on_rail c over stands valid count are k = elim (cases_lt k (length stands)) [
  | inl low ↦ by (omega (arith, low, count)) (are k (omega (arith, low, count)))
  | inr past ↦ subst (λ (p : Stand). IsOnRail p.bay) (sym (get_or_past stands k no_stand past)) nought_on_rail
]
  where
    by : k < length c.inst.cranes → IsStand c over k (stand_of stands k) → IsOnRail (stand_of stands k).bay
    by inside (inl idle) = subst (λ (p : Stand). IsOnRail p.bay) (sym idle.1) ((limits_of c.inst valid).berths k inside).0
    by inside (inr last) =
        subst (λ (p : Stand). IsOnRail p.bay) (sym last.2)
        (rail_of c.inst.bays (bay_of c.inst last.0) (limits_of c.inst valid).bays.1 (valid.tasks.bays last.0 last.1.task))
