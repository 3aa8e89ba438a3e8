-- The waypoints up to a tick, one run at a time.
use Rattle.std.proofs.Common.{◌≡◌, ℕ, ◌+◌, ◌-◌, ◌*◌, ◌<◌, ◌≤◌, ℤ, pos, ◌-ℤ◌, ◌⊎◌, inl, inr, List, [], ◌∷◌, ◌++◌, length, refl, sym, ap, subst, ◌∙◌, arith}
use Rattle.std.proofs.lemmas.Bool.{cases_lt}
use Rattle.std.proofs.lemmas.Int.{ints}
use Rattle.std.proofs.lemmas.List.{get_or_append_left, get_or_push, length-append}
use Rattle.std.specs.declared.cmp.Ordering.{Ordering}
use Rattle.std.specs.declared.cmp.Ordering.TheVariants.{Less, Equal, Greater}
use Rattle.qc_model.specs.declared.crane.Crane.{Crane}
use Rattle.qc_model.specs.declared.direction.Direction.{Direction}
use Rattle.qc_model.specs.declared.direction.Direction.TheVariants.{Up, Down}
use Rattle.qc_model.specs.declared.schedule.Slot.{Slot}
use Rattle.qc_model.specs.Instance.{InstanceView, no_crane}
use Rattle.qc_model.specs.Motion.{IsPlace, seen_place}
use Rattle.qc_model.specs.Rules.{ends, no_slot}
use Rattle.qc_model.proofs.Places.{place_exists}
use Rattle.qc_motion.specs.declared.track.Waypoint.{Waypoint}
use Rattle.qc_motion.specs.Sweep.{IsAt, IsRun, IsSound, Swept, moved, ready_of}
use Rattle.qc_motion.specs.Waypoints.{IsTurn, no_waypoint, waypoint}
use Rattle.qc_motion.proofs.Extrema.{greatest_unique}
use Rattle.qc_motion.proofs.Later.{later, later_falls, later_le, later_less}
use Rattle.qc_motion.proofs.Legs.{IsLeg, Sees, at_of_place, place_of_at, place_once, seen_moved, seen_twice, seen_way}
use Rattle.qc_motion.proofs.Named.{IsWhole}
use Rattle.qc_motion.proofs.Rises.{no_faster}
use Rattle.qc_motion.proofs.Terms.{berth_at, berth_le}

abbrev pub spot : ℕ → ℤ → Waypoint
spot m p = record { at = m; place = p }

-- three places of one motion
straight : (o : Ordering) (p z : ℤ) (x : ℕ)
    → (z -ℤ moved o p (x + 1)) ≡ (moved o p (x + 1) -ℤ moved o p x) → z ≡ moved o p (x + 2)
straight Less p z x e = omega (arith, ints)
straight Equal p z x e = omega (arith, ints)
straight Greater p z x e = omega (arith, ints)

seen_straight : (inst : InstanceView) (way : Direction) (x y z : ℤ) → (x -ℤ y) ≡ (y -ℤ z)
    → (seen_place inst way 1 x -ℤ seen_place inst way 1 y) ≡ (seen_place inst way 1 y -ℤ seen_place inst way 1 z)
seen_straight inst Up x y z e = e
seen_straight inst Down x y z e = omega (arith, ints)

module _ (inst : InstanceView) (sched : List Slot) (way : Direction) (k end : ℕ) (it : Swept) where
  -- the tasks that start later than a tick, and the berths that still stand at it
  abbrev pub left : ℕ → ℕ
  left m = 2 * later (λ (slot : Slot). slot.start) m it.sched + 2 * later
      (λ (c : Crane). c.ready + 1) m it.inst.cranes

  pub record IsTraced (points : List Waypoint) (m : ℕ) (p : ℤ) : Type 0 where
    pub some : 0 < length points
    pub first : (waypoint points 0).at ≡ 0
    pub last : waypoint points (length points - 1) ≡ spot m (seen_place inst way 1 p)
    pub there : IsAt it m p
    pub low : m ≤ end
    pub legs : (i : ℕ) → i + 1 < length points → IsLeg inst sched way k (waypoint points i)
        (waypoint points (i + 1))
    pub turns : (i : ℕ) → 0 < i → i < length points
        → IsTurn inst sched way k (waypoint points i).at ⊎ ((waypoint points i).at ≡ end)
    -- each turn was bought by a task that has started or a berth that was left
    pub room : m < end → length points + left m ≤ 2 * length it.inst.tasks + 18
    pub rest : m < end → IsAt it (m + 1) p → length points + left m ≤ 2 * length it.inst.tasks + 17

  module _ (s : IsSound it) (sees : Sees inst sched way k it) (low : k < length inst.cranes) where
    -- the first waypoint
    pub traced_first : (p : ℤ) → IsAt it 0 p → IsTraced (spot 0 (seen_place inst way 1 p) ∷ []) 0 p
    traced_first p a = record {
      some = omega arith;
      first = refl;
      last = refl;
      there = a;
      low = omega arith;
      legs = λ i h. absurd (omega arith);
      turns = λ i h l. absurd (omega arith);
      room = λ _. omega (arith, few);
      rest = λ _ _. few;
    }
      where
        few : 1 + left 0 ≤ 2 * length it.inst.tasks + 17
        few = omega (
          arith,
          later_le (λ (slot : Slot). slot.start) 0 it.sched,
          later_le
              (λ (c : Crane). c.ready + 1) 0 it.inst.cranes,
          s.goes.feasible.all_tasks,
          s.valid.cranes.count,
        )

    module _ (points : List Waypoint) (m : ℕ) (p : ℤ) (h : IsTraced points m p) (early : m < end)
        (n : ℕ) (r : IsRun it m p end n) (q : ℤ) (b : IsAt it n q) where
      -- the place at the end of the run
      moved_to : q ≡ moved r.way p (n - m)
      moved_to =
          let l = r.onward in
          let same : m + (n - m) ≡ n = omega arith in
          greatest_unique _ q (moved r.way p (n - m)) b
          (subst (λ (t : ℕ). IsAt it t (moved r.way p (n - m))) same (r.along (n - m) (omega arith)))

      along : (x : ℕ) → m + x ≤ n
          → IsPlace inst sched way k (m + x) 1 (moved (seen_way way r.way) (seen_place inst way 1 p) x)
      along x l =
          subst (λ (y : ℤ). IsPlace inst sched way k (m + x) 1 y) (seen_moved inst way r.way p x)
          (place_of_at inst sched way k it sees (m + x) (moved r.way p x) (r.along x l))

      leg : IsLeg inst sched way k (spot m (seen_place inst way 1 p)) (spot n (seen_place inst way 1 q))
      leg = record {
        way_on = seen_way way r.way;
        rising = r.onward;
        along = along;
        ends_at = ap (seen_place inst way 1) moved_to ∙ seen_moved inst way r.way p (n - m);
      }

      -- the crane turns where the run ends
      turn : n < end → IsTurn inst sched way k n
      turn inside = record {
        before = moved o there (n - 1 - m);
        there = moved o there (n - m);
        after = next.0;
        before_is = subst (λ (t : ℕ). IsPlace inst sched way k t 1 (moved o there (n - 1 - m))) back
            (along (n - 1 - m) (omega (arith, r.onward)));
        there_is = subst (λ (t : ℕ). IsPlace inst sched way k t 1 (moved o there (n - m))) here
            (along (n - m) (omega (arith, r.onward)));
        after_is = next.1;
        differs = λ e. r.stops inside (subst (λ (y : ℤ). IsAt it (n + 1) y) (as_seen e)
            (at_of_place inst sched way k it sees (n + 1) next.0 next.1));
      }
        where
          o : Ordering
          o = seen_way way r.way

          there : ℤ
          there = seen_place inst way 1 p

          here : m + (n - m) ≡ n
          here = omega (arith, r.onward)

          back : m + (n - 1 - m) ≡ n - 1
          back = omega (arith, r.onward)

          next : (y : ℤ) × IsPlace inst sched way k (n + 1) 1 y
          next = place_exists inst sched way k (n + 1) 1 low

          as_seen : (next.0 -ℤ moved o there (n - m)) ≡ (moved o there (n - m) -ℤ moved o there (n - 1 - m))
              → seen_place inst way 1 next.0 ≡ moved r.way p (n + 1 - m)
          as_seen e =
              let x : ℕ = n - 1 - m in
              let one : n - m ≡ x + 1 = omega (arith, r.onward) in
              let two : n + 1 - m ≡ x + 2 = omega (arith, r.onward) in
              let f = subst (λ (t : ℕ). (next.0 -ℤ moved o there t) ≡ (moved o there t -ℤ moved o there x)) one e in
              ap (seen_place inst way 1) (straight o there next.0 x f ∙ sym (seen_moved inst way r.way p (x + 2)))
              ∙ seen_twice inst way (moved r.way p (x + 2)) ∙ ap (moved r.way p) (sym two)

      -- a fall begins just as a berth is left
      falls_now : (v : ℕ) → v ≤ it.crane → ready_of it v ≤ m → p ≡ berth_at it v m
          → IsAt it (m + 1) (p -ℤ pos 1) → ready_of it v ≡ m
      falls_now v order by has next = elim (cases_lt 0 (length points - 1)) [
        | inl l ↦ turned (h.turns (length points - 1) l (omega arith))
        | inr l ↦
            let only : length points - 1 ≡ 0 = omega arith in
            let zero_at = subst (λ (i : ℕ). waypoint points i ≡ spot m (seen_place inst way 1 p)) only h.last in
            omega (arith, h.first, ap (λ (w : Waypoint). w.at) zero_at)
      ]
        where
          at_m : (waypoint points (length points - 1)).at ≡ m
          at_m = ap (λ (w : Waypoint). w.at) h.last

          sooner : IsTurn inst sched way k m → ready_of it v < m → ⊥
          sooner t l =
              let x = seen_place inst way 1 t.before in
              let before = at_of_place inst sched way k it sees (m - 1) t.before t.before_is in
              let g = berth_le it s (m - 1) x before v order in
              let one : (m - 1) + 1 ≡ m = omega arith in
              let here = subst (λ (i : ℕ). IsAt it i p) (sym one) h.there in
              let f = (no_faster it s (m - 1) x before p here).0 in
              let even : ((p -ℤ pos 1) -ℤ p) ≡ (p -ℤ x) = omega (arith, ints, g, f, has, l) in
              let on = seen_straight inst way (p -ℤ pos 1) p x even in
              let there_is =
              place_once inst sched way k m 1 _ _ t.there_is (place_of_at inst sched way k it sees m p h.there) in
              let after_is =
              place_once inst sched way k (m + 1) 1 _ _ t.after_is
              (place_of_at inst sched way k it sees (m + 1) (p -ℤ pos 1) next) in
              let before_is = seen_twice inst way t.before in
              t.differs (omega (arith, ints, on, there_is, after_is, before_is))

          turned : IsTurn inst sched way k (waypoint points (length points - 1)).at ⊎
              ((waypoint points (length points - 1)).at ≡ end)
              → ready_of it v ≡ m
          turned (inl t) = elim (cases_lt (ready_of it v) m) [
            | inl l ↦ absurd (sooner (subst (IsTurn inst sched way k) at_m t) l)
            | inr l ↦ omega arith
          ]
          turned (inr e) = absurd (omega (arith, at_m, e))

      -- what a run leaves to come
      spent : (o : Ordering) → r.way ≡ o → n < end
          → (length points + 1 + left n ≤ 2 * length it.inst.tasks + 18)
          × (IsAt it (n + 1) q → length points + 1 + left n ≤ 2 * length it.inst.tasks + 17)
      spent Greater e inside =
          let t = r.risen e inside in
          let task =
          later_less (λ (slot : Slot). slot.start) m n it.sched t.0 no_slot (omega (arith, r.onward))
          (omega (arith, t.1, s.goes.feasible.all_tasks)) (omega (arith, t.2, r.onward)) (omega (arith, t.2)) in
          let berth = later_falls (λ (c : Crane). c.ready + 1) m n it.inst.cranes (omega (arith, r.onward)) in
          let room = h.room early in
          (omega (arith, task, berth, room), λ _. omega (arith, task, berth, room))
      spent Equal e inside =
          let task = later_falls (λ (slot : Slot). slot.start) m n it.sched (omega (arith, r.onward)) in
          let berth = later_falls (λ (c : Crane). c.ready + 1) m n it.inst.cranes (omega (arith, r.onward)) in
          let still : IsAt it (m + 1) p =
          subst (λ (w : Ordering). IsAt it (m + 1) (moved w p 1)) e (r.along 1 (omega (arith, r.onward))) in
          let rest = h.rest early still in
          let same : q ≡ moved r.way p (n + 1 - m) =
          moved_to ∙ ap (λ (w : Ordering). moved w p (n - m)) e ∙ sym
          (ap (λ (w : Ordering). moved w p (n + 1 - m)) e) in
          (omega (arith, task, berth, rest), λ on. absurd (r.stops inside (subst (IsAt it (n + 1)) same on)))
      spent Less e inside =
          let f = r.fallen e in
          let next : IsAt it (m + 1) (p -ℤ pos 1) =
          subst (λ (w : Ordering). IsAt it (m + 1) (moved w p 1)) e (r.along 1 (omega (arith, r.onward))) in
          let now = falls_now f.0 f.1 f.2 f.3 next in
          let task = later_falls (λ (slot : Slot). slot.start) m n it.sched (omega (arith, r.onward)) in
          let berth =
          later_less (λ (c : Crane). c.ready + 1) m n it.inst.cranes f.0 no_crane (omega (arith, r.onward))
          (omega (arith, f.1, s.range)) (omega (arith, now)) (omega (arith, now, r.onward)) in
          let room = h.room early in
          (omega (arith, task, berth, room), λ _. omega (arith, task, berth, room))

      pub traced_next : IsTraced (points ++ spot n (seen_place inst way 1 q) ∷ []) n q
      traced_next = record {
        some = omega (arith, longer);
        first = ap (λ (u : Waypoint). u.at) (old 0 h.some) ∙ h.first;
        last = subst (λ (i : ℕ). waypoint more i ≡ w) (omega (arith, longer)) new;
        there = b;
        low = r.within;
        legs = legs;
        turns = turns;
        room = λ inside. let e = (spent r.way refl inside).0 in omega (arith, longer, e);
        rest = λ inside on. let e = (spent r.way refl inside).1 on in omega (arith, longer, e);
      }
        where
          w : Waypoint
          w = spot n (seen_place inst way 1 q)

          more : List Waypoint
          more = points ++ w ∷ []

          longer : length more ≡ length points + 1
          longer = length-append points (w ∷ [])

          old : (i : ℕ) → i < length points → waypoint more i ≡ waypoint points i
          old i l = get_or_append_left points (w ∷ []) no_waypoint i l

          new : waypoint more (length points) ≡ w
          new = get_or_push points w no_waypoint (length points) refl

          legs : (i : ℕ) → i + 1 < length more → IsLeg inst sched way k (waypoint more i) (waypoint more (i + 1))
          legs i l = elim (cases_lt (i + 1) (length points)) [
            | inl g ↦
                subst (λ (u : Waypoint). IsLeg inst sched way k u (waypoint more (i + 1)))
                (sym (old i (omega arith)))
                (subst (IsLeg inst sched way k (waypoint points i)) (sym (old (i + 1) g)) (h.legs i g))
            | inr g ↦
                let place : i + 1 ≡ length points = omega (arith, longer) in
                let at : i ≡ length points - 1 = omega arith in
                let from = old i (omega arith) ∙ ap (waypoint points) at ∙ h.last in
                let to = ap (waypoint more) place ∙ new in
                subst (λ (u : Waypoint). IsLeg inst sched way k u (waypoint more (i + 1))) (sym from)
                (subst (IsLeg inst sched way k (spot m (seen_place inst way 1 p))) (sym to) leg)
          ]

          turns : (i : ℕ) → 0 < i → i < length more
              → IsTurn inst sched way k (waypoint more i).at ⊎ ((waypoint more i).at ≡ end)
          turns i low_i l = elim (cases_lt i (length points)) [
            | inl g ↦ subst (λ (u : Waypoint). IsTurn inst sched way k u.at ⊎ (u.at ≡ end)) (sym (old i g))
                (h.turns i low_i g)
            | inr g ↦
                let place : i ≡ length points = omega (arith, longer) in
                let to = ap (waypoint more) place ∙ new in
                subst (λ (u : Waypoint). IsTurn inst sched way k u.at ⊎ (u.at ≡ end)) (sym to)
                (elim (cases_lt n end) [
                  | inl inside ↦ inl (turn inside)
                  | inr late ↦ inr (omega (arith, r.within))
                ])
          ]

-- traced to the end, they are whole
pub traced_whole : (inst : InstanceView) (sched : List Slot) (way : Direction) (k end : ℕ) (it : Swept)
    (sees : Sees inst sched way k it)
    → (points : List Waypoint) (m : ℕ) (p : ℤ) → IsTraced inst sched way k end it points m p → end ≤ m
    → end ≡ ends inst sched
    → IsWhole inst sched way k points
traced_whole inst sched way k end it sees points m p h late is = record {
  some = h.some;
  first = h.first;
  last = omega (arith, ap (λ (w : Waypoint). w.at) h.last, h.low);
  there = subst (λ (w : Waypoint). IsPlace inst sched way k w.at 1 w.place) (sym h.last)
      (place_of_at inst sched way k it sees m p h.there);
  legs = h.legs;
  turns = λ i low l. subst (λ (e : ℕ). IsTurn inst sched way k (waypoint points i).at ⊎
      ((waypoint points i).at ≡ e)) is (h.turns i low l);
}
