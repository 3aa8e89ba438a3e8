-- By how many ticks two tasks are clear of each other at the most.
use Rattle.std.proofs.Common.{ℕ, ◌+◌, ◌-◌, ◌*◌, ◌<◌, ◌≤◌, eqb, length, ℤ, pos, ◌+ℤ◌, arith, mul-le-mul_left, nat_lt}
use Rattle.std.proofs.lemmas.Bool.{cond_both}
use Rattle.qc_model.specs.Bays.{bays_between, bays_up}
use Rattle.qc_model.specs.Instance.{InstanceView, IsFrom, Valid, bay_of}
use Rattle.qc_model.proofs.Bays.{bays}
use Rattle.qc_starts.specs.Overlapping.{IsWide}

-- two bays of the ship are no further apart than it is long
along : (x y : ℤ) (n : ℕ) → IsFrom (pos 1) (pos n) x → IsFrom (pos 1) (pos n) y → bays_between x y ≤ n
along x y n h k = omega (arith, bays, h.0, h.1, k.0, k.1)

over : (x y : ℤ) (n g : ℕ) → IsFrom (pos 1) (pos n) x → IsFrom (pos 1) (pos n) y → bays_up y (x +ℤ pos g) ≤ n + g
over x y n g h k = omega (arith, bays, h.0, h.1, k.0, k.1)

module _ (inst : InstanceView) (valid : Valid inst) where
  gaps : (v w : ℕ) → w < length inst.cranes → inst.gap * (w - v) ≤ inst.gap * 8
  gaps v w low = mul-le-mul_left inst.gap (omega (arith, low, valid.cranes.count.1))

  pub wide : IsWide inst (inst.travel * (inst.bays + inst.gap * 8))
  wide i v j w low_i low_v low_j low_w =
      let x = bay_of inst i in
      let y = bay_of inst j in
      let at_x = valid.tasks.bays i low_i in
      let at_y = valid.tasks.bays j low_j in
      let most = inst.bays + inst.gap * 8 in
      cond_both (eqb v w) _ _ (λ n. n ≤ inst.travel * most)
      (λ _. mul-le-mul_left inst.travel (omega (arith, along x y inst.bays at_x at_y)))
      (λ _. mul-le-mul_left inst.travel
      (cond_both (nat_lt v w) _ _ (λ n. n ≤ most)
      (λ _. omega (arith, over x y inst.bays (inst.gap * (w - v)) at_x at_y, gaps v w low_w))
      (λ _. cond_both (nat_lt w v) _ _ (λ n. n ≤ most)
      (λ _. omega (arith, over y x inst.bays (inst.gap * (v - w)) at_y at_x, gaps w v low_v))
      (λ _. omega arith))))
