-- The rest is an instance where its cranes may be ready so late, and stand so far along the rail.
use Rattle.std.proofs.Common.{◌≡◌, ℕ, ◌+◌, ◌<◌, ◌≤◌, ℤ, inl, inr, length, IsSome, refl, sym, ap, subst, arith}
use Rattle.qc_dispatch.specs.declared.stage.Stage.{Stage}
use Rattle.qc_dispatch.specs.declared.stage.Stage.TheVariants.{Running}
use Rattle.qc_dispatch.specs.Course.{stage_of, start_in}
use Rattle.qc_dispatch.specs.Promises.{Keeps}
use Rattle.qc_model.specs.Instance.{HasPlaceLimits, Valid}
use Rattle.qc_model.specs.Numbers.{most_ready}
use Rattle.qc_model.specs.Rules.{Feasible, crane_of}
use Rattle.qc_rest.specs.declared.stand.Stand.{Stand}
use Rattle.qc_rest.specs.Fit.{IsBerth, IsReadySoon}
use Rattle.qc_rest.specs.GoneOn.{AreGoneOn}
use Rattle.qc_rest.specs.Places.{ArePlaces, Outlook}
use Rattle.qc_rest.specs.Progress.{AreOver, HasBegun}
use Rattle.qc_rest.specs.RestOf.{rest_of}
use Rattle.qc_rest.specs.Stands.{AreStands, IsStand, stand_of}
use Rattle.qc_rest.proofs.LatestLemmas.{runs_low}
use Rattle.qc_rest.proofs.PlaceLemmas.{in_order}
use Rattle.qc_rest.proofs.RangeLemmas.{by_bays, by_places}
use Rattle.qc_rest.proofs.ValidLemmas.{rest_valid}

-- a task that runs is over no later than its crane must stay
pub runs_short : (o : Outlook) → Feasible o.course.inst o.course.plan → Keeps o.course → AreStands o.course o.over o.stands
    → ((k : ℕ) → k < length o.course.inst.cranes → IsReadySoon o k) → (i start : ℕ) → stage_of o.course i ≡ Running start
    → o.over i ≤ o.course.clock + most_ready
runs_short o plan keeps stand ready i start runs = by (stand (crane_of o.course.plan i) inside)
  where
    low : i < length o.course.inst.tasks
    low = runs_low o.course keeps i start runs

    inside : crane_of o.course.plan i < length o.course.inst.cranes
    inside = plan.crane_range i low

    begun : HasBegun o.course i
    begun = subst (λ (s : Stage). IsSome (start_in s)) (sym runs) refl

    by : IsStand o.course o.over (crane_of o.course.plan i) (stand_of o.stands (crane_of o.course.plan i)) → o.over i ≤ o.course.clock + most_ready
    by (inl idle) = absurd (idle.0 i low begun refl)
    by (inr last) =
        let until = ap (λ (p : Stand). p.until) last.2 in
        omega (arith, until, last.1.last i low begun refl, ready (crane_of o.course.plan i) inside)

pub rest_is_valid : (o : Outlook) → Valid o.course.inst → Feasible o.course.inst o.course.plan → Keeps o.course → AreOver o.course o.over
    → AreStands o.course o.over o.stands → AreGoneOn o.course o.over o.goes → (tops places : ℕ → ℤ) → ArePlaces o tops places
    → ((k : ℕ) → k < length o.course.inst.cranes → IsReadySoon o k)
    → (HasPlaceLimits o.course.inst → (k : ℕ) → k < length o.course.inst.cranes → IsBerth (places k))
    → Valid (rest_of o.course o.over o.stands places)
rest_is_valid o valid plan keeps known stand gone tops places are ready berths =
    rest_valid o.course o.over o.stands places valid keeps known stand (runs_short o plan keeps stand ready)
    (in_order o valid plan keeps known stand gone tops places are)
    (by_bays o.course o.over o.stands places valid keeps o refl stand tops are)
    (λ limits. by_places o.course o.over o.stands places valid keeps limits (berths limits))
