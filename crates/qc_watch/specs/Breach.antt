-- public: when two cranes are too near to each other, and the first report at which any two are.
use Rattle.std.specs.Prelude.{◌≡◌, ℕ, ◌-◌, ◌*◌, ◌<◌, ◌≤◌, ◌⊎◌, pos, ◌+ℤ◌, ◌*ℤ◌, ◌<ℤ◌, ◌≤ℤ◌, ℤ, List, length, Any}
use Rattle.qc_ship.specs.Ship.{ShipView}
use Rattle.qc_watch.specs.declared.breach.Breach.{Breach}
use Rattle.qc_watch.specs.declared.place.Place.{Place}
use Rattle.qc_watch.specs.declared.report.Report.{Report}
use Rattle.qc_watch.specs.Moments.{IsAt, IsKnown}
use Rattle.qc_watch.specs.Reports.{reports_of}

-- how far ahead of one place another is, and how far it must be for so many bays, both over the same denominator
abbrev pub reached : Place → Place → ℤ
reached p q = q.above *ℤ pos p.below

abbrev pub wanted : ℕ → ℕ → Place → Place → ℤ
wanted d bays p q = (p.above *ℤ pos q.below) +ℤ pos (d * bays * (p.below * q.below))

-- the second place lies at least so many bays ahead of the first, or fewer
abbrev pub IsAhead : ℕ → ℕ → Place → Place → Type 0
IsAhead d bays p q = wanted d bays p q ≤ℤ reached p q

abbrev pub IsShort : ℕ → ℕ → Place → Place → Type 0
IsShort d bays p q = reached p q <ℤ wanted d bays p q

-- the bays that crane w must be ahead of a lower crane v: the gap for each crane from v to w
abbrev pub room_between : ShipView → ℕ → ℕ → ℕ
room_between ship v w = ship.gap * (w - v)

-- both cranes of the pair are known at the moment
pub record AreKnown (ship : ShipView) (lists : List (List Report)) (v w m d : ℕ) : Type 0 where
  pub order : v < w
  pub range : w < length ship.cranes
  pub lower : IsKnown (reports_of lists v) m d
  pub higher : IsKnown (reports_of lists w) m d

-- the two cranes have places at the moment, which are related so for the bays that they must keep
pub record Stand (how : ℕ → Place → Place → Type 0) (ship : ShipView) (lists : List (List Report)) (v w m d : ℕ)
    : Type 0 where
  pub lower : Place
  pub higher : Place
  pub lower_at : IsAt (reports_of lists v) m d lower
  pub higher_at : IsAt (reports_of lists w) m d higher
  pub related : how (room_between ship v w) lower higher

-- they keep their margin, or they are too near
abbrev pub StandClear : ShipView → List (List Report) → (v w m d : ℕ) → Type 0
StandClear ship lists v w m d = Stand (IsAhead d) ship lists v w m d

abbrev pub StandTooNear : ShipView → List (List Report) → (v w m d : ℕ) → Type 0
StandTooNear ship lists v w m d = Stand (IsShort d) ship lists v w m d

-- every two cranes that are known at the moment keep their margin
abbrev pub IsClearAt : ShipView → List (List Report) → (m d : ℕ) → Type 0
IsClearAt ship lists m d = (v w : ℕ) → AreKnown ship lists v w m d → StandClear ship lists v w m d

-- and that at every moment, however finely ticks are divided
abbrev pub IsSafe : ShipView → List (List Report) → Type 0
IsSafe ship lists = (m d : ℕ) → 1 ≤ d → IsClearAt ship lists m d

-- a crane, whichever, has a report at this time
abbrev pub IsReportTime : List (List Report) → ℕ → Type 0
IsReportTime lists t = Any (λ list. Any (λ r. r.at ≡ t) list) lists

-- the pair stands before another one: its lower crane is lower, or its higher one where that is the same
abbrev pub IsPairBefore : (v w first second : ℕ) → Type 0
IsPairBefore v w first second = (v < first) ⊎ ((v ≡ first) × (w < second))

-- the first time of a report at which two cranes are too near, with the first such pair; every moment up to the report
-- before it is clear, however finely ticks are divided
pub record IsFirstBreach (ship : ShipView) (lists : List (List Report)) (told : Breach) : Type 0 where
  pub time : IsReportTime lists told.at
  pub known : AreKnown ship lists told.first told.second told.at 1
  pub near : StandTooNear ship lists told.first told.second told.at 1
  pub clear_before : (t m d : ℕ) → IsReportTime lists t → t < told.at → 1 ≤ d → m ≤ d * t → IsClearAt ship lists m d
  pub first_pair : (v w : ℕ) → AreKnown ship lists v w told.at 1 → IsPairBefore v w told.first told.second
      → StandClear ship lists v w told.at 1
