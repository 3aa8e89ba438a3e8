-- public: where the cranes of the rest begin. A crane that nothing calls away begins at its last place; one whose next
-- task of the old order is near in time has gone towards it, and one in the way of another has moved aside.
use Rattle.std.specs.Prelude.{◌≡◌, ℕ, ◌+◌, ◌-◌, ◌*◌, ◌/◌, ◌<◌, ◌≤◌, ◌⊎◌, ◌↔◌, ℤ, pos, ◌+ℤ◌, ◌≤ℤ◌, List, length}
use Rattle.std.specs.Int.{div_ceil}
use Rattle.qc_dispatch.specs.Course.{Course}
use Rattle.qc_model.specs.Instance.{bay_of}
use Rattle.qc_model.specs.Rules.{crane_of}
use Rattle.qc_rest.specs.declared.stand.Stand.{Stand}
use Rattle.qc_rest.specs.Progress.{IsLeft}
use Rattle.qc_rest.specs.Stands.{stand_of}

-- what is known of the work: the course, when tasks are over, where cranes stand, and when the old order goes on
pub record Outlook : Type 0 where
  pub course : Course
  pub over : ℕ → ℕ
  pub stands : List Stand
  pub goes : ℕ → ℕ

-- crane k need not stay where it stands
abbrev pub IsLoose : Outlook → ℕ → Type 0
IsLoose o k = (stand_of o.stands k).until ≤ o.course.clock

-- how many bays it can have gone by now; none where it must stay
abbrev pub far_of : Outlook → ℕ → ℕ
far_of o k = (o.course.clock - (stand_of o.stands k).until) / o.course.inst.travel

-- how many bays there are still to go from now until task j starts, rounded up
abbrev pub off_of : Outlook → ℕ → ℕ
off_of o j = div_ceil (o.goes j - o.course.clock) o.course.inst.travel

-- task j is left to crane k, which need not stay
pub record IsNextOf (o : Outlook) (k j : ℕ) : Type 0 where
  pub left : IsLeft o.course j
  pub by : crane_of o.course.plan j ≡ k
  pub loose : IsLoose o k

-- crane k at place z leaves crane w, which is the same or a higher one, room to be where it can be by now, and near
-- enough to each of its tasks
pub record LeavesRoom (o : Outlook) (k w : ℕ) (z : ℤ) : Type 0 where
  pub stand : (z +ℤ pos (o.course.inst.gap * (w - k))) ≤ℤ ((stand_of o.stands w).bay +ℤ pos (far_of o w))
  pub tasks : (j : ℕ) → IsNextOf o w j
      → (z +ℤ pos (o.course.inst.gap * (w - k))) ≤ℤ (bay_of o.course.inst j +ℤ pos (off_of o j))

-- the highest place at which crane k leaves itself and all higher cranes room
abbrev pub IsTop : Outlook → ℕ → ℤ → Type 0
IsTop o k top =
    (z : ℤ) → (z ≤ℤ top) ↔ ((w : ℕ) → k ≤ w → w < length o.course.inst.cranes → LeavesRoom o k w z)

-- crane k at place z is as high as it must be: it hasn't gone down but to leave room, it is near enough to its own tasks,
-- and the gap above the next lower crane
pub record IsHighEnough (o : Outlook) (tops places : ℕ → ℤ) (k : ℕ) (z : ℤ) : Type 0 where
  pub stand : ((stand_of o.stands k).bay ≤ℤ z) ⊎ (tops k ≤ℤ z)
  pub tasks : (j : ℕ) → IsNextOf o k j → bay_of o.course.inst j ≤ℤ (z +ℤ pos (off_of o j))
  pub next : (v : ℕ) → v + 1 ≡ k → (places v +ℤ pos o.course.inst.gap) ≤ℤ z

-- each crane stands at the lowest place that is high enough
pub record ArePlaces (o : Outlook) (tops places : ℕ → ℤ) : Type 0 where
  pub highest : (k : ℕ) → k < length o.course.inst.cranes → IsTop o k (tops k)
  pub each_one : (k : ℕ) → k < length o.course.inst.cranes → (z : ℤ) → (places k ≤ℤ z) ↔ IsHighEnough o tops places k z
