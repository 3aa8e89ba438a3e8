-- The points up to a half tick, one change at a time.
use Rattle.std.proofs.Common.{◌≡◌, ℕ, ◌+◌, ◌-◌, ◌*◌, ◌<◌, ◌≤◌, ℤ, pos, negsuc, ◌+ℤ◌, ◌-ℤ◌, ◌≤ℤ◌, ◌<ℤ◌, ◌⊎◌, inl, inr, List, [], ◌∷◌, ◌++◌, length, map, get_or, refl, sym, ap₂, subst, ◌∙◌, arith, All, AllPairs, Contains}
use Rattle.std.proofs.lemmas.Bool.{cases_lt}
use Rattle.std.proofs.lemmas.Int.{by_lt_z, ints}
use Rattle.std.proofs.lemmas.List.{get_or_append_left, get_or_push, length-append, map-append}
use Rattle.std.proofs.lemmas.List.Elements.{All-contains, All-map, All-nil, All-push, All-weaker, Contains-append_cases, Contains-append_left, Contains-append_right}
use Rattle.qc_model.specs.Rules.{ends}
use Rattle.qc_freemove.specs.declared.track.HalfPoint.{HalfPoint}
use Rattle.qc_freemove.specs.FreeMotion.{IsFreePlace}
use Rattle.qc_freemove.specs.FreeSweep.{FreeSwept, IsBend, IsEven, IsFreeSound, IsKept, floor_place, hold_count, hold_of, place_at}
use Rattle.qc_freemove.specs.HalfPoints.{AreHalfPoints, IsHalfTurn, IsNamed}
use Rattle.qc_freemove.proofs.Even.{drop_of, speed}
use Rattle.qc_motion.proofs.Extrema.{greatest_unique}
use Rattle.qc_freemove.proofs.Left.{left, left_falls, left_le, left_less}
use Rattle.qc_freemove.proofs.SweptHolds.{lasting, place_is}

-- ---- what turns have cost

module _ (it : FreeSwept) where
  abbrev count : ℕ
  count = hold_count it

  -- the starts and ends of holds that are still to come at a half tick
  abbrev pub to_come : ℕ → ℕ
  to_come m = left (λ i. (hold_of it i).from) count m + left (λ i. (hold_of it i).until) count m

  abbrev pub step_at : ℕ → ℤ
  step_at m = place_at it (m + 1) -ℤ place_at it m

  abbrev pub step_before : ℕ → ℤ
  step_before m = place_at it m -ℤ place_at it (m - 1)

  -- each turn so far either fell by one, as a hold started or ended, or rose
  pub record HasSpent (n at : ℕ) : Type 0 where
    pub first : at ≡ 0 → n ≡ 0
    pub later : 0 < at → pos (n + 2 * to_come at) ≤ℤ (step_before at +ℤ pos (4 * count + 2))

  -- the same, when the half tick itself is done
  pub HasDone : ℕ → ℕ → Type 0
  HasDone n at = pos (n + 2 * to_come (at + 1)) ≤ℤ (step_at at +ℤ pos (4 * count + 2))

  few_left : (m : ℕ) → to_come m ≤ 2 * count
  few_left m =
      omega (arith, left_le (λ i. (hold_of it i).from) count m, left_le (λ i. (hold_of it i).until) count m)

  falls_left : (m k : ℕ) → m ≤ k → to_come k ≤ to_come m
  falls_left m k low =
      omega (
        arith,
        left_falls (λ i. (hold_of it i).from) count m k low,
        left_falls (λ i. (hold_of it i).until) count m k low,
      )

  less_left : (m i : ℕ) → i < count → ((hold_of it i).from ≡ m) ⊎ ((hold_of it i).until ≡ m)
      → to_come (m + 1) + 1 ≤ to_come m
  less_left m i low (inl e) =
      omega (
        arith,
        left_less (λ j. (hold_of it j).from) count m i low e,
        left_falls (λ j. (hold_of it j).until) count m (m + 1) (omega arith),
      )
  less_left m i low (inr e) =
      omega (
        arith,
        left_less (λ j. (hold_of it j).until) count m i low e,
        left_falls (λ j. (hold_of it j).from) count m (m + 1) (omega arith),
      )

  one_step : (m : ℕ) → ((negsuc 0) ≤ℤ step_at m) × (step_at m ≤ℤ pos 1)
  one_step m =
      let s = speed (hold_of it) (floor_place it) count m in
      (omega (arith, ints, s.0), omega (arith, ints, s.1))

  module _ (s : IsFreeSound it) where
    -- a turn that falls
    dropped : (m : ℕ) → 0 < m → step_at m <ℤ step_before m
        → (step_before m ≡ (step_at m +ℤ pos 1)) × (to_come (m + 1) + 1 ≤ to_come m)
    dropped m some falls =
        let d = drop_of (hold_of it) (floor_place it) count (lasting it s) m some falls in
        (d.by_one, less_left m d.hold d.range d.corner)

    step_here : (m k : ℕ) → k + 1 ≡ m → step_before m ≡ step_at k
    step_here m k e =
        let back : m - 1 ≡ k = omega arith in
        ap₂ (λ (a b : ℕ). place_at it a -ℤ place_at it b) (sym e) back

    before_small : (m : ℕ) → 0 < m → step_before m ≤ℤ pos 1
    before_small m some =
        let e = step_here m (m - 1) (omega arith) in
        let o = one_step (m - 1) in omega (arith, ints, e, o.1)

    -- there is room for one more point at a turn, and at the end
    pub room_at : (n at : ℕ) → HasSpent n at → n < 4 * count + 4
    room_at n at h = elim (cases_lt 0 at) [
      | inl l ↦ let most = h.later l in let small = before_small at l in omega (arith, ints, most, small)
      | inr l ↦ let none = h.first (omega arith) in omega (arith, none)
    ]

    pub done_kept : (n at : ℕ) → HasSpent n at → IsKept it at → HasDone (n + 1) at
    unfolding HasDone
    done_kept n at h (inl e) =
        let none = h.first e in
        let o = one_step at in
        let few = few_left (at + 1) in
        omega (arith, ints, none, o.0, few)
    done_kept n at h (inr (some, bends)) = by_lt_z (step_at at) (step_before at)
        (λ falls.
        let d = dropped at some falls in
        let most = h.later some in
        omega (arith, ints, d.0, d.1, most))
        (λ rises.
        let most = h.later some in
        let less = falls_left at (at + 1) (omega arith) in
        let more : step_before at <ℤ step_at at = by_lt_z (step_before at) (step_at at) (λ l. l)
        (λ l. absurd (bends (omega (arith, ints, rises, l)))) in
        omega (arith, ints, most, less, more))

    pub done_other : (n at : ℕ) → HasSpent n at → ¬ IsKept it at → HasDone n at
    unfolding HasDone
    done_other n at h other = elim (cases_lt 0 at) [
      | inr l ↦ absurd (other (inl (omega arith)))
      | inl l ↦
          let most = h.later l in
          let less = falls_left at (at + 1) (omega arith) in
          let same : step_at at ≡ step_before at =
          by_lt_z (step_at at) (step_before at)
          (λ k. absurd (other (inr (l, λ e. omega (arith, ints, k, e)))))
          (λ k. by_lt_z (step_before at) (step_at at)
          (λ j. absurd (other (inr (l, λ e. omega (arith, ints, j, e)))))
          (λ j. omega (arith, ints, k, j))) in
          omega (arith, ints, most, less, same)
    ]

    pub spent_next : (n at e end : ℕ) → HasDone n at → IsEven it at e end → HasSpent n e
    unfolding HasDone
    spent_next n at e end done even = record {
      first = λ none. absurd (omega (arith, even.onward));
      later = λ some.
          let far = even.onward in
          let less = falls_left (at + 1) e (omega arith) in
          let last = even.steps (e - 1) (omega arith) (omega arith) in
          let here = step_here e (e - 1) (omega arith) in
          omega (arith, ints, done, less, last, here);
    }

-- ---- the points

abbrev pub tick_of : HalfPoint → ℕ
tick_of w = w.at

abbrev pub point_at : FreeSwept → ℕ → HalfPoint
point_at it m = record { at = m; place = place_at it m }

-- the points of a crane up to a half tick
pub record AreSoFar (it : FreeSwept) (points : List HalfPoint) (at : ℕ) : Type 0 where
  pub rising : AllPairs (λ (u : HalfPoint) (v : HalfPoint). u.at < v.at) points
  pub early : All (λ (w : HalfPoint). w.at < at) points
  pub kept : All (λ (w : HalfPoint). IsKept it w.at) points
  pub places : All (λ (w : HalfPoint). w.place ≡ place_at it w.at) points
  pub all : (m : ℕ) → m < at → IsKept it m → Contains (map tick_of points) m

pub rising_push : (points : List HalfPoint) (w : HalfPoint)
    → AllPairs (λ (u : HalfPoint) (v : HalfPoint). u.at < v.at) points
    → All (λ (u : HalfPoint). u.at < w.at) points
    → AllPairs (λ (u : HalfPoint) (v : HalfPoint). u.at < v.at) (points ++ w ∷ [])
rising_push points w rising early i j d low high =
    let longer = length-append points (w ∷ []) in
    elim (cases_lt j (length points)) [
      | inl l ↦
          let one = get_or_append_left points (w ∷ []) d i (omega arith) in
          let other = get_or_append_left points (w ∷ []) d j l in
          rw (one, other) (rising i j d low l)
      | inr l ↦
          let one = get_or_append_left points (w ∷ []) d i (omega (arith, longer)) in
          let other = get_or_push points w d j (omega (arith, longer)) in
          rw (one, other) (early i d (omega (arith, longer)))
    ]

contains_old : (points : List HalfPoint) (w : HalfPoint) (m : ℕ)
    → Contains (map tick_of points) m → Contains (map tick_of (points ++ w ∷ [])) m
contains_old points w m c =
    subst (λ (ms : List ℕ). Contains ms m) (sym (map-append tick_of points (w ∷ [])))
    (Contains-append_left (map tick_of points) (w.at ∷ []) m c)

contains_new : (points : List HalfPoint) (w : HalfPoint) (m : ℕ) → w.at ≡ m
    → Contains (map tick_of (points ++ w ∷ [])) m
contains_new points w m e =
    subst (λ (ms : List ℕ). Contains ms m) (sym (map-append tick_of points (w ∷ [])))
    (Contains-append_right (map tick_of points) (w.at ∷ []) m (0, omega arith, e))

contains_cases : (points : List HalfPoint) (w : HalfPoint) (m : ℕ)
    → Contains (map tick_of (points ++ w ∷ [])) m → Contains (map tick_of points) m ⊎ (w.at ≡ m)
contains_cases points w m c =
    elim (Contains-append_cases (map tick_of points) (w.at ∷ []) m
    (subst (λ (ms : List ℕ). Contains ms m) (map-append tick_of points (w ∷ [])) c)) [
      | inl h ↦ inl h
      | inr h ↦ inr (only h)
    ]
  where
    only : Contains (w.at ∷ []) m → w.at ≡ m
    only (k, low, e) = let none : k ≡ 0 = omega arith in subst (λ (i : ℕ). get_or (w.at ∷ []) i m ≡ m) none e

module _ (it : FreeSwept) where
  pub none_yet : AreSoFar it [] 0
  none_yet = record {
    rising = λ i j d low high. absurd (omega arith);
    early = All-nil (λ (w : HalfPoint). w.at < 0);
    kept = All-nil (λ (w : HalfPoint). IsKept it w.at);
    places = All-nil (λ (w : HalfPoint). w.place ≡ place_at it w.at);
    all = λ m low. absurd (omega arith);
  }

  -- where all steps are the same there is no turn
  straight : (at e end m : ℕ) → IsEven it at e end → at < m → m < e → ¬ IsKept it m
  straight at e end m even k low (inl none) = absurd (omega arith)
  straight at e end m even k low (inr (some, bends)) =
      let after = even.steps m (omega arith) low in
      let before = even.steps (m - 1) (omega arith) (omega arith) in
      let back : (m - 1) + 1 ≡ m = omega arith in
      let there =
      subst (λ (n : ℕ). (place_at it n -ℤ place_at it (m - 1)) ≡ (place_at it (at + 1) -ℤ place_at it at))
      back before in
      bends (after ∙ sym there)

  later : (points : List HalfPoint) (at e : ℕ) → at < e
      → All (λ (w : HalfPoint). w.at < at) points → All (λ (w : HalfPoint). w.at < e) points
  later points at e on early =
      All-weaker (λ (w : HalfPoint). w.at < at) (λ (w : HalfPoint). w.at < e) (λ w l. omega arith) points early

  pub next_other : (points : List HalfPoint) (at e end : ℕ) → AreSoFar it points at → IsEven it at e end
      → ¬ IsKept it at → AreSoFar it points e
  next_other points at e end h even other = record {
    rising = h.rising;
    early = later points at e even.onward h.early;
    kept = h.kept;
    places = h.places;
    all = λ m low is. elim (cases_lt m at) [
      | inl l ↦ h.all m l is
      | inr l ↦ elim (cases_lt at m) [
        | inl k ↦ absurd (straight at e end m even k low is)
        | inr k ↦ let same : m ≡ at = omega arith in absurd (other (subst (IsKept it) same is))
      ]
    ];
  }

  pub next_kept : (points : List HalfPoint) (at e end : ℕ) → AreSoFar it points at → IsEven it at e end
      → IsKept it at → AreSoFar it (points ++ point_at it at ∷ []) e
  next_kept points at e end h even is = record {
    rising = rising_push points (point_at it at) h.rising h.early;
    early = All-push (λ (w : HalfPoint). w.at < e) points (point_at it at)
        (later points at e even.onward h.early) even.onward;
    kept = All-push (λ (w : HalfPoint). IsKept it w.at) points (point_at it at) h.kept is;
    places = All-push (λ (w : HalfPoint). w.place ≡ place_at it w.at) points (point_at it at) h.places refl;
    all = λ m low kept. elim (cases_lt m at) [
      | inl l ↦ contains_old points (point_at it at) m (h.all m l kept)
      | inr l ↦ elim (cases_lt at m) [
        | inl k ↦ absurd (straight at e end m even k low kept)
        | inr k ↦ contains_new points (point_at it at) m (omega arith)
      ]
    ];
  }

  -- ---- up to the end

  module _ (s : IsFreeSound it) where
    abbrev IsThere : ℕ → ℤ → Type 0
    IsThere m p = IsFreePlace it.inst it.sched it.crane m 2 p

    pub turn_of : (m : ℕ) → IsBend it m → IsHalfTurn it.inst it.sched it.crane m
    turn_of m bends = record {
      before = place_at it (m - 1);
      there = place_at it m;
      after = place_at it (m + 1);
      before_is = place_is it s (m - 1);
      there_is = place_is it s m;
      after_is = place_is it s (m + 1);
      differs = bends;
    }

    bend_of : (m : ℕ) → IsHalfTurn it.inst it.sched it.crane m → IsBend it m
    bend_of m t e =
        let before = greatest_unique _ t.before _ t.before_is (place_is it s (m - 1)) in
        let there = greatest_unique _ t.there _ t.there_is (place_is it s m) in
        let after = greatest_unique _ t.after _ t.after_is (place_is it s (m + 1)) in
        t.differs (ap₂ (λ (a b : ℤ). a -ℤ b) after there ∙ e ∙ sym (ap₂ (λ (a b : ℤ). a -ℤ b) there before))

    module _ (points : List HalfPoint) (end : ℕ) (h : AreSoFar it points end)
        (is : end ≡ 2 * ends it.inst it.sched) where
      abbrev whole : List HalfPoint
      whole = points ++ point_at it end ∷ []

      named : (m : ℕ) → Contains (map tick_of whole) m → IsNamed it.inst it.sched it.crane m
      named m c = elim (contains_cases points (point_at it end) m c) [
        | inl old ↦
            let early =
            All-contains (λ (n : ℕ). n < end) (map tick_of points) m
            (All-map (λ (n : ℕ). n < end) tick_of points h.early) old in
            by early (All-contains (IsKept it) (map tick_of points) m
            (All-map (IsKept it) tick_of points h.kept) old)
        | inr last ↦ inr (inl (sym last ∙ is))
      ]
        where
          by : m < end → IsKept it m → IsNamed it.inst it.sched it.crane m
          by early (inl none) = inl none
          by early (inr (some, bends)) = inr (inr (some, omega arith, turn_of m bends))

      found : (m : ℕ) → IsNamed it.inst it.sched it.crane m → Contains (map tick_of whole) m
      found m (inl none) = elim (cases_lt 0 end) [
        | inl l ↦ contains_old points (point_at it end) m (h.all m (omega arith) (inl none))
        | inr l ↦ contains_new points (point_at it end) m (omega arith)
      ]
      found m (inr (inl last)) = contains_new points (point_at it end) m (omega arith)
      found m (inr (inr (some, low, turn))) =
          contains_old points (point_at it end) m (h.all m (omega arith) (inr (some, bend_of m turn)))

      pub are_half_points : AreHalfPoints it.inst it.sched it.crane whole
      are_half_points = record {
        rising = rising_push points (point_at it end) h.rising h.early;
        ticks = λ m. (named m, found m);
        places = All-push (λ (w : HalfPoint). IsThere w.at w.place) points (point_at it end)
            (All-weaker (λ (w : HalfPoint). w.place ≡ place_at it w.at) (λ (w : HalfPoint). IsThere w.at w.place)
            (λ w e. subst (IsThere w.at) (sym e) (place_is it s w.at)) points h.places) (place_is it s end);
      }
