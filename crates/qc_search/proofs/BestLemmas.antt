-- The best schedule that was met.
use Rattle.std.proofs.Common.{◌≡◌, ℕ, ◌<◌, ◌≤◌, ◌⊎◌, inl, inr, List, refl, ap₂, subst, arith}
use Rattle.std.proofs.lemmas.Bool.{cases_lt}
use Rattle.qc_num.specs.declared.bound.Bound.{Bound}
use Rattle.qc_num.specs.declared.bound.Bound.TheVariants.{Least, Never}
use Rattle.qc_num.specs.Bounds.{IsAtMost}
use Rattle.qc_bounds.proofs.ClosedLemmas.{one_end}
use Rattle.qc_close.specs.Model.{Decision, Direction, Slot, most_start, InstanceView, Fits, IsComplete, IsInReach, IsNodeEnd, schedule_with, last_end}
use Rattle.qc_search.specs.declared.progress.Progress.{Progress}
use Rattle.qc_search.specs.Progress.{IsPassed, Improves, IsTaken}

pub at_most_of : (n : ℕ) (met : Bound) → Improves n met → IsAtMost (Least n) met
at_most_of n (Least m) h = omega arith
at_most_of n Never h = tt

-- an end that improves on a bound isn't at least that
pub not_late : (n : ℕ) (met : Bound) → Improves n met → ¬ IsAtMost met (Least n)
not_late n (Least m) h = λ k. omega (arith, h, k)
not_late n Never h = λ k. k

late_of : (n : ℕ) (met : Bound) → ¬ Improves n met → IsAtMost met (Least n)
late_of n (Least m) h = by_order (cases_lt n m)
  where
    by_order : (n < m) ⊎ (m ≤ n) → m ≤ n
    by_order (inl less) = absurd (h less)
    by_order (inr more) = more
late_of n Never h = absurd (h tt)

module _ (inst : InstanceView) (way : Direction) (ds : List Decision) (old : Progress) (n : ℕ)
    (end : IsNodeEnd inst ds n) where
  -- a schedule that ends sooner than any before
  pub taken : (sched : List Slot) → Fits inst ds → IsComplete inst ds → IsInReach inst ds → Improves n old.incumbent_end
      → n ≤ most_start → sched ≡ schedule_with inst ds end.starts
      → IsTaken inst way ds old (record old { incumbent_end = Least n; way = way; incumbent = sched })
  taken sched fits complete reach sooner soon is = record {
    begins = end.starts;
    fits = fits;
    complete = complete;
    in_reach = reach;
    least = end.least;
    sooner = subst (λ (k : ℕ). Improves k old.incumbent_end) end.ends sooner;
    soon = omega (arith, end.ends, soon);
    is = ap₂ (λ (k : ℕ) (best : List Slot). record old { incumbent_end = Least k; way = way; incumbent = best }) end.ends is;
  }

  -- one that doesn't
  pub passed : ¬ Improves n old.incumbent_end → IsPassed inst ds old old
  passed late = record {
    same = refl;
    late = λ begins complete reach least.
        subst (λ (k : ℕ). IsAtMost old.incumbent_end (Least k))
        (one_end inst ds n (last_end inst.tasks begins) end (record { starts = begins; least = least; ends = refl }))
        (late_of n old.incumbent_end late);
  }
