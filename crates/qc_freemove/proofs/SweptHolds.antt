-- What holds a crane: the tasks and berths of which its place is the greatest.
use Rattle.std.proofs.Common.{◌≡◌, ℕ, ◌+◌, ◌-◌, ◌*◌, ◌<◌, ◌≤◌, max, ℤ, pos, ◌-ℤ◌, ◌≤ℤ◌, inl, inr, true, length, nat_lt, nat_le, refl, sym, ap, subst, arith}
use Rattle.std.proofs.lemmas.Bool.{and_from, and_parts, cases_Bool, le-leb, leb-true, le-ltb, lt-ltb, ltb-true}
use Rattle.std.proofs.lemmas.Int.{ints}
use Rattle.qc_model.specs.Instance.{crane}
use Rattle.qc_model.specs.Motion.{scaled}
use Rattle.qc_model.specs.Rules.{crane_of}
use Rattle.qc_model.proofs.Places.{floor_unique}
use Rattle.qc_freemove.specs.declared.hold.Hold.{Hold}
use Rattle.qc_freemove.specs.FreeMotion.{FreeLowPlace, IsFreePlace}
use Rattle.qc_freemove.specs.FreeMotion.FreeLowPlace.{of_berth, of_floor, of_task}
use Rattle.qc_freemove.specs.FreeSweep.{FreeSwept, IsFreeSound, berth_hold, floor_place, held, hold_count, hold_of, is_felt, place_at, task_hold}
use Rattle.qc_freemove.proofs.Tops.{IsTaken, highest_first, highest_most, taken}
use Rattle.qc_freemove.proofs.Tops.IsTaken.{by_floor, by_hold}
use Rattle.qc_freemove.proofs.Ways.{IsLasting}

-- whose hold a number is
pub data HoldIs (it : FreeSwept) (n : ℕ) : Type 0 where
  of_one : n < length it.inst.tasks → crane_of it.sched n ≤ it.crane → hold_of it n ≡ task_hold it n → HoldIs it n
  of_post : n - length it.inst.tasks ≤ it.crane → hold_of it n ≡ berth_hold it (n - length it.inst.tasks)
      → HoldIs it n

pub hold_is : (it : FreeSwept) (n : ℕ) → n < hold_count it → HoldIs it n
hold_is it n low = elim (cases_Bool (is_felt it n)) [
  | inl felt ↦
      let parts = and_parts (nat_lt n (length it.inst.tasks)) (nat_le (crane_of it.sched n) it.crane) felt in
      of_one (ltb-true n (length it.inst.tasks) parts.0) (leb-true (crane_of it.sched n) it.crane parts.1)
      (rw felt refl)
  | inr other ↦ of_post (omega arith) (rw other refl)
]

pub felt_is : (it : FreeSwept) (i : ℕ) → i < length it.inst.tasks → crane_of it.sched i ≤ it.crane
    → hold_of it i ≡ task_hold it i
felt_is it i low below =
    let felt : is_felt it i ≡ true =
    and_from (nat_lt i (length it.inst.tasks)) (nat_le (crane_of it.sched i) it.crane)
    (lt-ltb i (length it.inst.tasks) low) (le-leb (crane_of it.sched i) it.crane below) in
    rw felt refl

pub post_is : (it : FreeSwept) (v : ℕ) → hold_of it (length it.inst.tasks + v) ≡ berth_hold it v
post_is it v =
    let other = le-ltb (length it.inst.tasks + v) (length it.inst.tasks) (omega arith) in
    let number : (length it.inst.tasks + v) - length it.inst.tasks ≡ v = omega arith in
    rw other (ap (berth_hold it) number)

berth_is : (x : ℤ) (m r : ℕ) → (x -ℤ pos (max (0 - m) (m - r))) ≡ (x -ℤ pos (m - r))
berth_is x m r = omega (arith, ints)

module _ (it : FreeSwept) (s : IsFreeSound it) where
  -- the place of the sweep is the crane's
  module _ (m : ℕ) where
    abbrev Low : ℤ → Type 0
    Low = FreeLowPlace it.inst it.sched it.crane m 2

    hold_low : (i : ℕ) → i < hold_count it → Low (held (hold_of it i) m)
    hold_low i low = by (hold_is it i low)
      where
        by : HoldIs it i → Low (held (hold_of it i) m)
        by (of_one there below e) =
            subst (λ (h : Hold). Low (held h m)) (sym e) (of_task i there below)
        by (of_post below e) =
            let v : ℕ = i - length it.inst.tasks in
            subst (λ (h : Hold). Low (held h m)) (sym e)
            (subst Low (sym (berth_is _ m (2 * (crane it.inst v).ready))) (of_berth v below))

    place_low : IsTaken (hold_of it) (floor_place it) m (hold_count it) → Low (place_at it m)
    place_low (by_floor f) = subst Low (sym f) (of_floor it.floor s.floor)
    place_low (by_hold i low f) = subst Low (sym f) (hold_low i low)

    most : (y : ℤ) → Low y → y ≤ℤ place_at it m
    most _ (of_task i low below) =
        subst (λ (h : Hold). held h m ≤ℤ place_at it m) (felt_is it i low below)
        (highest_most (hold_of it) (floor_place it) m (hold_count it) i (omega arith))
    most _ (of_berth v below) =
        let n : ℕ = length it.inst.tasks + v in
        subst (λ (y : ℤ). y ≤ℤ place_at it m) (berth_is _ m (2 * (crane it.inst v).ready))
        (subst (λ (h : Hold). held h m ≤ℤ place_at it m) (post_is it v)
        (highest_most (hold_of it) (floor_place it) m (hold_count it) n (omega arith)))
    most _ (of_floor x f) =
        subst (λ (y : ℤ). scaled it.inst 2 y ≤ℤ place_at it m)
        (floor_unique it.inst it.sched it.crane it.floor x s.floor f)
        (highest_first (hold_of it) (floor_place it) m (hold_count it))

    pub place_is : IsFreePlace it.inst it.sched it.crane m 2 (place_at it m)
    place_is = record {
      is = place_low (taken (hold_of it) (floor_place it) m (hold_count it));
      most = most;
    }

  lasting_task : (i : ℕ) → i < length it.inst.tasks → IsLasting (task_hold it i)
  lasting_task i low =
      let some = s.valid.tasks.ticks i low in
      record { order = omega arith; some = λ _. omega arith }

  lasting_berth : (v : ℕ) → IsLasting (berth_hold it v)
  lasting_berth v = record { order = omega arith; some = λ l. absurd (omega arith) }

  pub lasting : (i : ℕ) → i < hold_count it → IsLasting (hold_of it i)
  lasting i low = by (hold_is it i low)
    where
      by : HoldIs it i → IsLasting (hold_of it i)
      by (of_one there below e) = subst IsLasting (sym e) (lasting_task i there)
      by (of_post below e) = subst IsLasting (sym e) (lasting_berth (i - length it.inst.tasks))
