-- What a sweep takes for granted, and its place hold by hold.
use Rattle.std.proofs.Common.{◌≡◌, ℕ, suc, ◌+◌, ◌*◌, ◌<◌, ℤ, pos, ◌*ℤ◌, List, length, sym, ap, subst, arith}
use Rattle.std.proofs.lemmas.Int.{ints}
use Rattle.std.specs.Int.{int_max}
use borrow.Author.Differences.{product_is}
use Rattle.qc_model.specs.declared.schedule.Slot.{Slot}
use Rattle.qc_model.specs.Instance.{InstanceView, Valid}
use Rattle.qc_model.specs.Judged.{Judged}
use Rattle.qc_model.specs.Motion.{IsFloor, scaled}
use Rattle.qc_freemove.specs.declared.hold.Hold.{Hold}
use Rattle.qc_freemove.specs.FreeSweep.{IsFreeSound, held, highest}

pub sound_of : (inst : InstanceView) (sched : List Slot) (it : Judged) (k : ℕ) (x : ℤ)
    → Valid inst → it ≡ record { inst = inst; sched = sched }
    → k < length inst.cranes → IsFloor it.inst it.sched k x
    → IsFreeSound (record { inst = it.inst; sched = it.sched; crane = k; floor = x })
sound_of inst sched it k x v e low floor = record {
  valid = subst (λ (j : Judged). Valid j.inst) (sym e) v;
  range = subst (λ (j : Judged). k < length j.inst.cranes) (sym e) low;
  floor = floor;
}

-- twice a place is that of half ticks
pub twice_scaled : (inst : InstanceView) (x : ℤ) → (pos 2 *ℤ scaled inst 1 x) ≡ scaled inst 2 x
twice_scaled inst x =
    let t = inst.travel in
    let inner = product_is (pos (1 * t)) x in
    let outer = product_is (pos (2 * t)) x in
    let ups = ap (λ n. 2 * n) inner.0 in
    let downs = ap (λ n. 2 * n) inner.1 in
    omega (arith, ints, ups, downs, outer.0, outer.1)

-- the highest of one hold more
pub highest_more : (h : ℕ → Hold) (z : ℤ) (m n : ℕ) (x y r : ℤ) → x ≡ highest h z m n → y ≡ held (h n) m
    → r ≡ int_max x y → r ≡ highest h z m (n + 1)
highest_more h z m n x y r e f g =
    let next : suc n ≡ n + 1 = omega arith in
    subst (λ (k : ℕ). r ≡ highest h z m k) next (rw (← e, ← f) g)
