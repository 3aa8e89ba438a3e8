-- Where every two cranes keep their margin at each time of a report up to one, they keep it at every moment up to that.
use Rattle.std.proofs.Common.{◌≡◌, ℕ, ◌*◌, ◌<◌, ◌≤◌, ◌⊎◌, List, [], length, refl, inl, inr, arith, Any}
use Rattle.std.proofs.lemmas.Bool.{cases_lt}
use Rattle.std.proofs.lemmas.List.{get_or_default}
use Rattle.qc_ship.specs.Ship.{ShipView}
use Rattle.qc_watch.specs.declared.place.Place.{Place}
use Rattle.qc_watch.specs.declared.report.Report.{Report}
use Rattle.qc_watch.specs.Breach.{IsAhead, IsClearAt, IsReportTime, IsSafe, StandClear, room_between}
use Rattle.qc_watch.specs.Moments.{IsAt, IsKnown}
use Rattle.qc_watch.specs.Reports.{AreOfOne, reports_of}
use Rattle.qc_watch.proofs.Even.{ahead_between, ahead_times, along}
use Rattle.qc_watch.proofs.Standing.{IsWay, at_most, place_there, way_of}

-- the later of two ticks, and the earlier
record IsLater (a b : ℕ) : Type 0 where
  tick : ℕ
  first : a ≤ tick
  second : b ≤ tick
  one : (tick ≡ a) ⊎ (tick ≡ b)

later_of : (a b : ℕ) → IsLater a b
later_of a b = elim (cases_lt a b) [
  | inl l ↦ record { tick = b; first = omega arith; second = omega arith; one = inr refl }
  | inr l ↦ record { tick = a; first = omega arith; second = omega arith; one = inl refl }
]

record IsEarlier (a b : ℕ) : Type 0 where
  tick : ℕ
  first : tick ≤ a
  second : tick ≤ b
  one : (tick ≡ a) ⊎ (tick ≡ b)

earlier_of : (a b : ℕ) → IsEarlier a b
earlier_of a b = elim (cases_lt a b) [
  | inl l ↦ record { tick = a; first = omega arith; second = omega arith; one = inl refl }
  | inr l ↦ record { tick = b; first = omega arith; second = omega arith; one = inr refl }
]

begun : (d m a b t : ℕ) → d * a ≤ m → d * b ≤ m → (t ≡ a) ⊎ (t ≡ b) → d * t ≤ m
begun d m a b t h k o = elim o [ inl e ↦ rw e h | inr e ↦ rw e k ]

ended : (d m a b t : ℕ) → m ≤ d * a → m ≤ d * b → (t ≡ a) ⊎ (t ≡ b) → m ≤ d * t
ended d m a b t h k o = elim o [ inl e ↦ rw e h | inr e ↦ rw e k ]

-- the time of a report of one crane is one of a report
pub time_of : (lists : List (List Report)) (k t : ℕ) → k < length lists → Any (λ r. r.at ≡ t) (reports_of lists k) → IsReportTime lists t
time_of lists k t low h = (k, reports_of lists k, low, get_or_default lists k (reports_of lists k) [] low, h)

module _ (ship : ShipView) (lists : List (List Report)) (each : (k : ℕ) → k < length lists → AreOfOne (reports_of lists k)) (size : length lists ≡ length ship.cranes) where
  module _ (stop : ℕ) (last : IsReportTime lists stop) (times : (t : ℕ) → IsReportTime lists t → t ≤ stop → IsClearAt ship lists t 1) (v w : ℕ) (order : v < w) (range : w < length ship.cranes) where
    abbrev lower : List Report
    lower = reports_of lists v

    abbrev higher : List Report
    higher = reports_of lists w

    lower_there : v < length lists
    lower_there = omega arith

    higher_there : w < length lists
    higher_there = omega arith

    -- the two ways at a tick of a report in both
    at_tick : (m n d e : ℕ) (p q : Place)
        (a : IsWay lower (each v lower_there).rising m d p) (b : IsWay higher (each w higher_there).rising n e q)
        (t : ℕ) → IsReportTime lists t → t ≤ stop → a.from ≤ t → t ≤ a.till → b.from ≤ t → t ≤ b.till
        → IsAhead 1 (room_between ship v w) (along a.line t 1) (along b.line t 1)
    at_tick m n d e p q a b t time early a_from a_till b_from b_till =
        let clear = times t time early v w (record { order = order; range = range; lower = a.known t a_from a_till; higher = b.known t b_from b_till }) in
        ahead_times 1 (room_between ship v w) clear.lower clear.higher (along a.line t 1) (along b.line t 1)
        (a.there t clear.lower a_from a_till clear.lower_at) (b.there t clear.higher b_from b_till clear.higher_at) clear.related

    one_time : (t a b : ℕ) → Any (λ r. r.at ≡ a) lower → Any (λ r. r.at ≡ b) higher → (t ≡ a) ⊎ (t ≡ b) → IsReportTime lists t
    one_time t a b h k o = elim o [
      | inl e ↦ rw e (time_of lists v a lower_there h)
      | inr e ↦ rw e (time_of lists w b higher_there k)
    ]

    till_time : (t till : ℕ) → IsReportTime lists till → (t ≡ till) ⊎ (t ≡ stop) → IsReportTime lists t
    till_time t till time o = elim o [ inl e ↦ rw e time | inr e ↦ rw e last ]

    clear_within : (m d : ℕ) (p q : Place) → 1 ≤ d → m ≤ d * stop → IsAt lower m d p → IsAt higher m d q
        → IsWay lower (each v lower_there).rising m d p → IsWay higher (each w higher_there).rising m d q
        → StandClear ship lists v w m d
    clear_within m d p q some soon p_at q_at a b =
        let low = later_of a.from b.from in
        let both = earlier_of a.till b.till in
        let high = earlier_of both.tick stop in
        let from = begun d m a.from b.from low.tick a.begun b.begun low.one in
        let to = ended d m both.tick stop high.tick (ended d m a.till b.till both.tick a.ended b.ended both.one) soon high.one in
        let order : low.tick ≤ high.tick = at_most d low.tick high.tick some (omega (arith, from, to)) in
        let first =
        at_tick m m d d p q a b low.tick (one_time low.tick a.from b.from a.from_is b.from_is low.one)
        (omega (arith, order, high.second)) low.first (omega (arith, order, high.first, both.first)) low.second
        (omega (arith, order, high.first, both.second)) in
        let second =
        at_tick m m d d p q a b high.tick (till_time high.tick both.tick (one_time both.tick a.till b.till a.till_is b.till_is both.one) high.one)
        high.second (omega (arith, order, low.first)) (omega (arith, high.first, both.first)) (omega (arith, order, low.second))
        (omega (arith, high.first, both.second)) in
        let here =
        ahead_between (room_between ship v w) a.line b.line low.tick high.tick m d
        (omega (arith, a.starts, low.first)) (omega (arith, b.starts, low.second)) order from to first second in
        record {
          lower = p;
          higher = q;
          lower_at = p_at;
          higher_at = q_at;
          related = rw (a.is, b.is) here;
        }

    clear_at : (m d : ℕ) → 1 ≤ d → m ≤ d * stop → IsKnown lower m d → IsKnown higher m d → StandClear ship lists v w m d
    clear_at m d some soon first second =
        let p = place_there lower (each v lower_there).rising m d first in
        let q = place_there higher (each w higher_there).rising m d second in
        clear_within m d p.0 q.0 some soon p.1 q.1
        (way_of lower (each v lower_there).rising m d p.0 p.1) (way_of higher (each w higher_there).rising m d q.0 q.1)

  -- all is clear up to a report where it is at the times of all reports up to it
  pub clear_to : (stop : ℕ) → IsReportTime lists stop → ((t : ℕ) → IsReportTime lists t → t ≤ stop → IsClearAt ship lists t 1)
      → (m d : ℕ) → 1 ≤ d → m ≤ d * stop → IsClearAt ship lists m d
  clear_to stop last times m d some soon v w known =
      clear_at stop last times v w known.order known.range m d some soon known.lower known.higher

  pub safe_from : ((t : ℕ) → IsReportTime lists t → IsClearAt ship lists t 1) → IsSafe ship lists
  safe_from times m d some v w known =
      let low : v < length lists = omega (arith, known.order, known.range, size) in
      let there = place_there (reports_of lists v) (each v low).rising m d known.lower in
      let way = way_of (reports_of lists v) (each v low).rising m d there.0 there.1 in
      clear_to way.till (time_of lists v way.till low way.till_is) (λ t time _. times t time) m d some way.ended v w known
