-- What follows from the places of the cranes at the time of a report.
use Rattle.std.proofs.Common.{◌≡◌, ℕ, ◌+◌, ◌*◌, ◌<◌, ◌≤◌, List, length, Option, None, Some, subst, inl, inr, arith}
use Rattle.std.proofs.lemmas.Bool.{cases_lt}
use Rattle.std.proofs.lemmas.Int.{ints}
use Rattle.qc_ship.specs.Ship.{ShipView}
use Rattle.qc_watch.specs.declared.breach.Breach.{Breach}
use Rattle.qc_watch.specs.declared.place.Place.{Place}
use Rattle.qc_watch.specs.declared.report.Report.{Report}
use Rattle.qc_watch.specs.Breach.{AreKnown, IsAhead, IsClearAt, IsFirstBreach, IsReportTime, IsSafe, IsShort, StandClear, StandTooNear, room_between}
use Rattle.qc_watch.specs.Cursors.{AreClear, AreClearFrom, AreNear, ArePlaces, IsNearPair, IsNextTime, IsOver, IsPlaceAt, place}
use Rattle.qc_watch.specs.Moments.{IsAt, IsKnown, between, reported}
use Rattle.qc_watch.specs.Reports.{AreReports, reports_of}
use Rattle.qc_watch.proofs.Safety.{clear_to, safe_from}
use Rattle.qc_watch.proofs.Soonest.{one_list}
use Rattle.qc_watch.proofs.Standing.{one_place, some_report}

-- a crane that has a place is known
known_at : (list : List Report) (m d : ℕ) (p : Place) → IsAt list m d p → IsKnown list m d
known_at list m d p (reported i h e) =
    (some_report list (λ r. d * r.at ≤ m) i h (omega (arith, e)), some_report list (λ r. m ≤ d * r.at) i h (omega (arith, e)))
known_at list m d p (between i h low high) =
    (some_report list (λ r. d * r.at ≤ m) i (omega arith) (omega (arith, low)), some_report list (λ r. m ≤ d * r.at) (i + 1) h (omega (arith, high)))

module _ (ship : ShipView) (lists : List (List Report)) (tick : ℕ) where
  clear_by : (v w : ℕ) (o p : Option Place) → IsPlaceAt (reports_of lists v) tick o → IsPlaceAt (reports_of lists w) tick p
      → AreKnown ship lists v w tick 1 → AreClear (room_between ship v w) o p → StandClear ship lists v w tick 1
  clear_by v w None p h k known clear = absurd (h known.lower)
  clear_by v w (Some x) None h k known clear = absurd (k known.higher)
  clear_by v w (Some x) (Some y) h k known clear = record { lower = x; higher = y; lower_at = h.0; higher_at = k.0; related = clear }

  record IsNear (v w : ℕ) : Type 0 where
    known : AreKnown ship lists v w tick 1
    near : StandTooNear ship lists v w tick 1

  near_by : (v w : ℕ) (o p : Option Place) → v < w → w < length ship.cranes
      → IsPlaceAt (reports_of lists v) tick o → IsPlaceAt (reports_of lists w) tick p → AreNear (room_between ship v w) o p → IsNear v w
  near_by v w None p order range h k near = absurd near
  near_by v w (Some x) None order range h k near = absurd near
  near_by v w (Some x) (Some y) order range h k near = record {
    known = record {
      order = order;
      range = range;
      lower = known_at (reports_of lists v) tick 1 x h.0;
      higher = known_at (reports_of lists w) tick 1 y k.0;
    };
    near = record { lower = x; higher = y; lower_at = h.0; higher_at = k.0; related = near };
  }

  module _ (places : List (Option Place)) (size : length lists ≡ length ship.cranes) (stand : ArePlaces lists tick places) where
    clear_of : (v w : ℕ) → AreKnown ship lists v w tick 1 → AreClear (room_between ship v w) (place places v) (place places w)
        → StandClear ship lists v w tick 1
    clear_of v w known clear =
        clear_by v w (place places v) (place places w) (stand v (omega (arith, known.order, known.range))) (stand w (omega (arith, known.range))) known clear

    pub clear_all : ((v : ℕ) → v < length ship.cranes → AreClearFrom ship places v) → IsClearAt ship lists tick 1
    clear_all all v w known = clear_of v w known (all v (omega (arith, known.order, known.range)) w known.order known.range)

    near_of : (v w : ℕ) → IsNearPair ship places v w → IsNear v w
    near_of v w pair =
        near_by v w (place places v) (place places w) pair.pair.order pair.pair.range
        (stand v (omega (arith, pair.pair.order, pair.pair.range))) (stand w (omega (arith, pair.pair.range))) pair.pair.near

    pub breach_of : AreReports lists → (now v w : ℕ) → IsNextTime lists now tick
        → ((t : ℕ) → IsReportTime lists t → t < now → IsClearAt ship lists t 1) → IsNearPair ship places v w
        → IsFirstBreach ship lists (record { at = tick; first = v; second = w })
    breach_of reports now v w next earlier pair = record {
      time = next.is;
      known = (near_of v w pair).known;
      near = (near_of v w pair).near;
      clear_before = λ t m d time before some soon. clear_to ship lists (one_list lists reports) size t time
          (λ s is early. elim (cases_lt s now) [
            | inl l ↦ earlier s is l
            | inr l ↦ absurd (omega (arith, next.first s is l, early, before))
          ])
          m d some soon;
      first_pair = λ x y known before. elim before [
        | inl lower ↦ clear_of x y known (pair.first x lower y known.order known.range)
        | inr same ↦ clear_of x y known (rw same.0 (pair.pair.first y (omega (arith, same.0, known.order)) same.1))
      ];
    }

    -- the times up to this one
    pub clear_till : (now : ℕ) → IsNextTime lists now tick
        → ((t : ℕ) → IsReportTime lists t → t < now → IsClearAt ship lists t 1)
        → ((v : ℕ) → v < length ship.cranes → AreClearFrom ship places v)
        → (t : ℕ) → IsReportTime lists t → t < tick + 1 → IsClearAt ship lists t 1
    clear_till now next earlier all t time before = elim (cases_lt t now) [
      | inl l ↦ earlier t time l
      | inr l ↦
          let e : tick ≡ t = omega (arith, next.first t time l, before) in
          subst (λ n. IsClearAt ship lists n 1) e (clear_all all)
    ]

-- two cranes that keep their margin aren't too near
pub not_safe : (ship : ShipView) (lists : List (List Report)) → AreReports lists → length lists ≡ length ship.cranes
    → (told : Breach) → IsFirstBreach ship lists told → ¬ IsSafe ship lists
not_safe ship lists reports size told breach safe =
    let near = breach.near in
    let known = breach.known in
    let clear = safe told.at 1 (omega arith) told.first told.second known in
    let low = one_list lists reports told.first (omega (arith, known.order, known.range)) in
    let high = one_list lists reports told.second (omega (arith, known.range)) in
    let same_lower = one_place (reports_of lists told.first) low.rising told.at 1 near.lower clear.lower (omega arith) near.lower_at clear.lower_at in
    let same_higher = one_place (reports_of lists told.second) high.rising told.at 1 near.higher clear.higher (omega arith) near.higher_at clear.higher_at in
    never (room_between ship told.first told.second) near.lower near.higher near.related (rw (same_lower, same_higher) clear.related)
  where
    never : (bays : ℕ) (p q : Place) → IsShort 1 bays p q → IsAhead 1 bays p q → ⊥
    never bays p q short ahead = omega (arith, ints, short, ahead)

-- where all reports are over, all is safe
pub safe_over : (ship : ShipView) (lists : List (List Report)) → AreReports lists → length lists ≡ length ship.cranes
    → (now : ℕ) → IsOver lists now → ((t : ℕ) → IsReportTime lists t → t < now → IsClearAt ship lists t 1) → IsSafe ship lists
safe_over ship lists reports size now over earlier =
    safe_from ship lists (one_list lists reports) size (λ t time. earlier t time (over t time))
