-- What a sweep sees of a crane, said of the instance and the schedule themselves.
use Rattle.std.proofs.Common.{◌≡◌, ℕ, ◌+◌, ◌-◌, ◌<◌, ◌≤◌, ℤ, pos, ◌+ℤ◌, ◌-ℤ◌, List, refl, sym, subst, arith}
use Rattle.std.proofs.lemmas.Int.{ints}
use Rattle.std.specs.declared.cmp.Ordering.{Ordering}
use Rattle.std.specs.declared.cmp.Ordering.TheVariants.{Less, Equal, Greater}
use Rattle.qc_model.specs.declared.direction.Direction.{Direction}
use Rattle.qc_model.specs.declared.direction.Direction.TheVariants.{Up, Down}
use Rattle.qc_model.specs.declared.schedule.Slot.{Slot}
use Rattle.qc_model.specs.Instance.{InstanceView}
use Rattle.qc_model.specs.Motion.{IsGreatest, IsPlace, LowPlace, scaled, seen_place}
use Rattle.qc_model.specs.Seen.{seen, seen_number, seen_schedule}
use Rattle.qc_motion.specs.declared.track.Waypoint.{Waypoint}
use Rattle.qc_motion.specs.Sweep.{IsAt, Swept, moved}
use Rattle.qc_motion.proofs.Extrema.{greatest_unique}

-- the sweep is of crane k as it is seen
pub record Sees (inst : InstanceView) (sched : List Slot) (way : Direction) (k : ℕ) (it : Swept) : Type 0 where
  pub inst_is : it.inst ≡ seen inst way
  pub sched_is : it.sched ≡ seen_schedule inst sched way
  pub crane_is : it.crane ≡ seen_number inst way k

-- a place seen twice is the place
pub seen_twice : (inst : InstanceView) (way : Direction) (p : ℤ) → seen_place inst way 1
    (seen_place inst way 1 p) ≡ p
seen_twice inst Up p = refl
seen_twice inst Down p = twice (scaled inst 1 (pos (inst.bays + 1))) p
  where
    twice : (h x : ℤ) → (h -ℤ (h -ℤ x)) ≡ x
    twice h x = omega (arith, ints)

-- a way as it is seen
pub seen_way : Direction → Ordering → Ordering
seen_way Up o = o
seen_way Down Less = Greater
seen_way Down Equal = Equal
seen_way Down Greater = Less

pub seen_moved : (inst : InstanceView) (way : Direction) (o : Ordering) (p : ℤ) (x : ℕ)
    → seen_place inst way 1 (moved o p x) ≡ moved (seen_way way o) (seen_place inst way 1 p) x
unfolding seen_way
seen_moved inst Up o p x = refl
seen_moved inst Down Less p x = less (scaled inst 1 (pos (inst.bays + 1))) p (pos x)
  where
    less : (h y n : ℤ) → (h -ℤ (y -ℤ n)) ≡ ((h -ℤ y) +ℤ n)
    less h y n = omega (arith, ints)
seen_moved inst Down Equal p x = refl
seen_moved inst Down Greater p x = more (scaled inst 1 (pos (inst.bays + 1))) p (pos x)
  where
    more : (h y n : ℤ) → (h -ℤ (y +ℤ n)) ≡ ((h -ℤ y) -ℤ n)
    more h y n = omega (arith, ints)

module _ (inst : InstanceView) (sched : List Slot) (way : Direction) (k : ℕ) where
  -- a crane goes one way between two waypoints
  pub record IsLeg (u v : Waypoint) : Type 0 where
    pub way_on : Ordering
    pub rising : u.at < v.at
    pub along : (x : ℕ) → u.at + x ≤ v.at → IsPlace inst sched way k (u.at + x) 1 (moved way_on u.place x)
    pub ends_at : v.place ≡ moved way_on u.place (v.at - u.at)

  pub place_once : (m d : ℕ) (p q : ℤ) → IsPlace inst sched way k m d p → IsPlace inst sched way k m d q → p ≡ q
  place_once m d p q g h = same way (greatest_unique _ _ _ g h)
    where
      same : (w : Direction) → seen_place inst w d p ≡ seen_place inst w d q → p ≡ q
      same Up e = e
      same Down e = omega (arith, ints)

  module _ (it : Swept) (s : Sees inst sched way k it) where
    pub place_of_at : (m : ℕ) (p : ℤ) → IsAt it m p → IsPlace inst sched way k m 1 (seen_place inst way 1 p)
    place_of_at m p a =
        subst (λ (i : InstanceView). IsGreatest
        (LowPlace i (seen_schedule inst sched way) (seen_number inst way k) m 1) back) s.inst_is
        (subst (λ (t : List Slot). IsGreatest (LowPlace it.inst t (seen_number inst way k) m 1) back) s.sched_is
        (subst (λ (n : ℕ). IsGreatest (LowPlace it.inst it.sched n m 1) back) s.crane_is
        (subst (λ (y : ℤ). IsAt it m y) (sym (seen_twice inst way p)) a)))
      where
        back : ℤ
        back = seen_place inst way 1 (seen_place inst way 1 p)

    pub at_of_place : (m : ℕ) (p : ℤ) → IsPlace inst sched way k m 1 p → IsAt it m (seen_place inst way 1 p)
    at_of_place m p a =
        subst (λ (n : ℕ). IsGreatest (LowPlace it.inst it.sched n m 1) there) (sym s.crane_is)
        (subst (λ (t : List Slot). IsGreatest (LowPlace it.inst t (seen_number inst way k) m 1) there)
        (sym s.sched_is)
        (subst (λ (i : InstanceView). IsGreatest
        (LowPlace i (seen_schedule inst sched way) (seen_number inst way k) m 1) there) (sym s.inst_is) a))
      where
        there : ℤ
        there = seen_place inst way 1 p
