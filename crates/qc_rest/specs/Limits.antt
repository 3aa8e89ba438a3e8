-- inner: the highest and the lowest places that a crane's own stand and tasks leave it.
use Rattle.std.specs.Prelude.{◌≡◌, ℕ, ◌+◌, ◌*◌, ◌<◌, ◌≤◌, ◌⊎◌, ◌↔◌, ℤ, pos, negsuc, ◌+ℤ◌, ◌≤ℤ◌, List, length, Option, None, Some, slice_index, slice_index_or}
use Rattle.qc_dispatch.specs.declared.follow.Followed.{Followed}
use Rattle.qc_dispatch.specs.Following.{journal_of}
use Rattle.qc_model.specs.Instance.{IsOnRail, bay_of}
use Rattle.qc_rest.specs.declared.places.Outlook as code
use Rattle.qc_rest.specs.declared.stand.Stand.{Stand}
use Rattle.qc_rest.specs.Known.{AreKnown}
use Rattle.qc_rest.specs.Passed.{most_base}
use Rattle.qc_rest.specs.Places.{IsHighEnough, IsNextOf, IsTop, Outlook, far_of, off_of}
use Rattle.qc_rest.specs.Remaining.{over_at}
use Rattle.qc_rest.specs.Stands.{stand_of}

-- what is known of the work by a log, with these stands and starts
abbrev pub outlook_of : Followed → List Stand → List ℕ → Outlook
outlook_of f stands goes =
    record { course = f.dispatch; over = over_at (journal_of f); stands = stands; goes = slice_index goes }

-- stands are on the rail, and no start is late
pub record AreLimited (stands : List Stand) (goes : List ℕ) : Type 0 where
  pub rail : (k : ℕ) → IsOnRail (stand_of stands k).bay
  pub soon : (j : ℕ) → slice_index goes j ≤ most_base

-- the same, as the code holds it
abbrev pub view_of : code.Outlook → Outlook
view_of o = outlook_of o.journal.now o.stands.now o.goes.now

-- places can be found: a log was followed by this plan, there is a stand for each crane and a start for each task, and
-- they are within limits
pub record IsReady (o : code.Outlook) : Type 0 where
  pub known : AreKnown o.journal.now
  pub plan : o.slots.now ≡ o.journal.now.dispatch.plan
  pub cranes : length o.stands.now ≡ length o.journal.now.dispatch.inst.cranes
  pub goes : length o.goes.now ≡ length o.journal.now.dispatch.inst.tasks
  pub limited : AreLimited o.stands.now o.goes.now

-- at place z crane w is where it can be by now, and near enough to each of its tasks
pub record HasOwnRoom (o : Outlook) (w : ℕ) (z : ℤ) : Type 0 where
  pub stand : z ≤ℤ ((stand_of o.stands w).bay +ℤ pos (far_of o w))
  pub tasks : (j : ℕ) → IsNextOf o w j → z ≤ℤ (bay_of o.course.inst j +ℤ pos (off_of o j))

abbrev pub IsUpper : Outlook → ℕ → ℤ → Type 0
IsUpper o w upper = (z : ℤ) → (z ≤ℤ upper) ↔ HasOwnRoom o w z

-- crane k at place z hasn't gone down but to leave room, and is near enough to each of its tasks
pub record IsFromOn (o : Outlook) (tops : ℕ → ℤ) (k : ℕ) (z : ℤ) : Type 0 where
  pub stand : ((stand_of o.stands k).bay ≤ℤ z) ⊎ (tops k ≤ℤ z)
  pub tasks : (j : ℕ) → IsNextOf o k j → bay_of o.course.inst j ≤ℤ (z +ℤ pos (off_of o j))

abbrev pub IsLower : Outlook → (ℕ → ℤ) → ℕ → ℤ → Type 0
IsLower o tops k lower = (z : ℤ) → (lower ≤ℤ z) ↔ IsFromOn o tops k z

-- how many bays task j is off, where it is left to crane k, which need not stay
abbrev pub IsOff : Outlook → ℕ → ℕ → Option ℕ → Type 0
IsOff o k j None = ¬ IsNextOf o k j
IsOff o k j (Some off) = IsNextOf o k j × (off ≡ off_of o j)

abbrev pub place_at : List ℤ → ℕ → ℤ
place_at places k = slice_index_or places k (pos 0)

-- the tops of all cranes from one on
pub record AreTops (o : Outlook) (from : ℕ) (tops : List ℤ) : Type 0 where
  pub count : length tops ≡ 8
  pub each_one : (k : ℕ) → from ≤ k → k < length o.course.inst.cranes → IsTop o k (place_at tops k)

-- so far along the rail a crane can be sent at all
pub record IsPlace (k : ℕ) (x : ℤ) : Type 0 where
  pub low : negsuc 99999 ≤ℤ x
  pub high : x ≤ℤ pos (17000 + 2000 * k)

-- x is the lowest place that is high enough for crane k, and it can be sent there
pub record IsPlaced (o : Outlook) (tops places : ℕ → ℤ) (k : ℕ) (x : ℤ) : Type 0 where
  pub lowest : (z : ℤ) → (x ≤ℤ z) ↔ IsHighEnough o tops places k z
  pub near : IsPlace k x
