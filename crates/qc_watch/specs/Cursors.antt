-- inner: how far the reports of every crane are passed, and where the cranes stand at a tick.
use Rattle.std.specs.Prelude.{ℕ, ◌<◌, ◌≤◌, unsigned_abs, List, length, slice_index, slice_index_or, Option, None, Some, IfSome}
use Rattle.qc_ship.specs.Ship.{ShipView}
use Rattle.qc_watch.specs.declared.place.Place.{Place}
use Rattle.qc_watch.specs.declared.report.Report.{Report}
use Rattle.qc_watch.specs.Breach.{IsAhead, IsReportTime, IsShort, room_between}
use Rattle.qc_watch.specs.Moments.{IsAt, IsKnown, report}
use Rattle.qc_watch.specs.Numbers.{past_times}
use Rattle.qc_watch.specs.Reports.{reports_of}

-- the first reports are those before this tick
pub record IsCut (list : List Report) (next tick : ℕ) : Type 0 where
  pub inside : next ≤ length list
  pub passed : (i : ℕ) → i < next → (report list i).at < tick
  pub left : (i : ℕ) → next ≤ i → i < length list → tick ≤ (report list i).at

-- and that for each crane
abbrev pub AreCut : List (List Report) → List ℕ → ℕ → Type 0
AreCut lists next tick = (k : ℕ) → k < length lists → IsCut (reports_of lists k) (slice_index next k) tick

-- every report is before the tick
abbrev pub IsOver : List (List Report) → ℕ → Type 0
IsOver lists tick = (t : ℕ) → IsReportTime lists t → t < tick

-- the first time of a report at this tick or later
pub record IsNextTime (lists : List (List Report)) (tick at : ℕ) : Type 0 where
  pub is : IsReportTime lists at
  pub later : tick ≤ at
  pub digits : at < past_times
  pub first : (t : ℕ) → IsReportTime lists t → tick ≤ t → at ≤ t

-- a place that was computed from one or two reports
pub record IsSmall (p : Place) : Type 0 where
  pub above : unsigned_abs p.above ≤ 4000000000000000000
  pub below : p.below < past_times

-- where a crane stands at a tick, and nowhere where it isn't known
abbrev pub IsPlaceAt : List Report → ℕ → Option Place → Type 0
IsPlaceAt list tick None = ¬ IsKnown list tick 1
IsPlaceAt list tick (Some p) = IsAt list tick 1 p × IsSmall p

abbrev pub place : List (Option Place) → ℕ → Option Place
place places k = slice_index_or places k None

-- each crane stands so
abbrev pub ArePlaces : List (List Report) → ℕ → List (Option Place) → Type 0
ArePlaces lists tick places = (k : ℕ) → k < length lists → IsPlaceAt (reports_of lists k) tick (place places k)

abbrev pub AreSmall : List (Option Place) → Type 0
AreSmall places = (k : ℕ) → IfSome (place places k) IsSmall

-- two cranes that have places are too near, or keep the bays between them
abbrev pub AreNear : ℕ → Option Place → Option Place → Type 0
AreNear bays (Some p) (Some q) = IsShort 1 bays p q
AreNear bays _ _ = ⊥

abbrev pub AreClear : ℕ → Option Place → Option Place → Type 0
AreClear bays (Some p) (Some q) = IsAhead 1 bays p q
AreClear bays _ _ = Unit {0}

abbrev pub IsClearOf : ShipView → List (Option Place) → (v w : ℕ) → Type 0
IsClearOf ship places v w = AreClear (room_between ship v w) (place places v) (place places w)

-- crane v keeps the bays to every higher crane
abbrev pub AreClearFrom : ShipView → List (Option Place) → ℕ → Type 0
AreClearFrom ship places v = (w : ℕ) → v < w → w < length ship.cranes → IsClearOf ship places v w

-- crane w is the first above v that is too near to it
pub record IsNearTo (ship : ShipView) (places : List (Option Place)) (v w : ℕ) : Type 0 where
  pub order : v < w
  pub range : w < length ship.cranes
  pub near : AreNear (room_between ship v w) (place places v) (place places w)
  pub first : (x : ℕ) → v < x → x < w → IsClearOf ship places v x

-- and no lower crane than v is too near to a higher one
pub record IsNearPair (ship : ShipView) (places : List (Option Place)) (v w : ℕ) : Type 0 where
  pub pair : IsNearTo ship places v w
  pub first : (x : ℕ) → x < v → AreClearFrom ship places x
