-- public: what is told of the rest of a plan by a log, and when there is none.
use Rattle.std.specs.Prelude.{◌≡◌, ℕ, ◌+◌, ◌-◌, ◌<◌, ◌≤◌, ◌↔◌, ℤ, length, ⊤}
use Rattle.qc_dispatch.specs.Journal.{Journal}
use Rattle.qc_model.specs.Instance.{ticks_of}
use Rattle.qc_model.specs.Judge.{IsJudgeable}
use Rattle.qc_model.specs.Numbers.{most_start}
use Rattle.qc_model.specs.Rules.{Feasible, end_of, ends}
use Rattle.qc_rest.specs.declared.rest.Rest.{Rest}
use Rattle.qc_rest.specs.declared.rest.RestError.{RestError}
use Rattle.qc_rest.specs.declared.rest.RestError.TheVariants as error
use Rattle.qc_rest.specs.Fit.{IsBerth, IsFit, IsReadySoon}
use Rattle.qc_rest.specs.GoneOn.{AreGoneOn}
use Rattle.qc_rest.specs.OldOrder.{IsOldOrder}
use Rattle.qc_rest.specs.Places.{ArePlaces, Outlook}
use Rattle.qc_rest.specs.Progress.{IsLeft}
use Rattle.qc_rest.specs.Remaining.{IsFirstDue, NoneIsDue, over_at, running_of}
use Rattle.qc_rest.specs.RestOf.{rest_of}
use Rattle.qc_rest.specs.Stands.{AreStands}

-- by a log: where cranes stand, when the old order goes on, and where the cranes of the rest begin by these
pub record IsOutlook (j : Journal) (o : Outlook) (places : ℕ → ℤ) : Type 0 where
  pub course : o.course ≡ j.course
  pub over : o.over ≡ over_at j
  pub stands : AreStands j.course (over_at j) o.stands
  pub goes : AreGoneOn j.course (over_at j) o.goes
  pub tops : ℕ → ℤ
  pub places_are : ArePlaces o tops places

-- when the old order is over if it goes on, now at the earliest
pub record IsLastGone (o : Outlook) (last : ℕ) : Type 0 where
  pub by : (moment : ℕ) → (last ≤ moment)
      ↔ ((o.course.clock ≤ moment) × ((j : ℕ) → IsLeft o.course j → o.goes j + ticks_of o.course.inst j ≤ moment))

-- the rest by a log: what is left as an instance, the old order of it, and by how much that is late
pub record IsRestBy (j : Journal) (rest : Rest) : Type 0 where
  pub known : NoneIsDue j
  pub outlook : Outlook
  pub places : ℕ → ℤ
  pub is : IsOutlook j outlook places
  pub fit : (k : ℕ) → k < length j.course.inst.cranes → IsFit outlook places k
  pub clock : rest.now ≡ j.course.clock
  pub running : rest.running.items ≡ running_of j
  pub instance : rest.instance ≡ rest_of j.course (over_at j) outlook.stands places
  pub order : IsOldOrder j.course rest.instance rest.order
  pub feasible : Feasible rest.instance rest.order
  pub judgeable : IsJudgeable rest.instance rest.order
  pub short : (j : ℕ) → j < length rest.instance.tasks → end_of rest.instance rest.order j ≤ most_start
  pub end : rest.end ≡ ends rest.instance rest.order
  pub last : ℕ
  pub last_is : IsLastGone outlook last
  pub late : rest.late ≡ (j.course.clock + rest.end) - last

-- crane k is one of them, and each lower one is fit
pub record AreFitBelow (o : Outlook) (places : ℕ → ℤ) (k : ℕ) : Type 0 where
  pub inside : k < length o.course.inst.cranes
  pub lower : (v : ℕ) → v < k → IsFit o places v

-- the lowest crane that isn't fit would have to wait too long, or would begin too far away
abbrev pub IsUnfit : Outlook → (ℕ → ℤ) → RestError → Type 0
IsUnfit o places (error.Over i) = ⊥
IsUnfit o places (error.Ready k) = AreFitBelow o places k × ¬ IsReadySoon o k
IsUnfit o places (error.Bay k) = AreFitBelow o places k × (IsReadySoon o k × ¬ IsBerth (places k))
IsUnfit o places error.OutOfMemory = ⊥

-- a crane isn't fit, and no task is due
pub record HasUnfit (j : Journal) (why : RestError) : Type 0 where
  pub known : NoneIsDue j
  pub outlook : Outlook
  pub places : ℕ → ℤ
  pub is : IsOutlook j outlook places
  pub unfit : IsUnfit outlook places why

-- why there is no rest: the lowest task that is due; else the lowest crane that isn't fit
abbrev pub IsNoRest : Journal → RestError → Type 0
IsNoRest j (error.Over i) = IsFirstDue j i
IsNoRest j (error.Ready k) = HasUnfit j (error.Ready k)
IsNoRest j (error.Bay k) = HasUnfit j (error.Bay k)
IsNoRest j error.OutOfMemory = ⊤
