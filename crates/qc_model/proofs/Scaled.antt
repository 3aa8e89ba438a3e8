-- Bays as places: times the parts of a tick and the travel.
use Rattle.std.proofs.Common.{◌≡◌, ℕ, ◌+◌, ◌-◌, ◌*◌, ◌<◌, ◌≤◌, ℤ, pos, ◌+ℤ◌, ◌-ℤ◌, ◌*ℤ◌, ◌≤ℤ◌, inl, inr, refl, ap, arith, mul-le-mul_left}
use Rattle.std.proofs.lemmas.Bool.{cases_lt}
use Rattle.std.proofs.lemmas.Int.{ints}
use borrow.Author.Differences.{up, down}
use Rattle.qc_model.specs.Bays.{bays_up}
use Rattle.qc_model.proofs.Bays.{bays}

pub scaled_sum : (n : ℕ) (x y z : ℤ) → x ≡ (y +ℤ z) → (pos n *ℤ x) ≡ ((pos n *ℤ y) +ℤ (pos n *ℤ z))
scaled_sum n x y z e =
    let parts : up x + down y + down z ≡ down x + up y + up z = omega (arith, ints) in
    omega (arith, ints, ap (λ m. n * m) parts)

pub scaled_le : (n : ℕ) (x y : ℤ) → x ≤ℤ y → (pos n *ℤ x) ≤ℤ (pos n *ℤ y)
scaled_le n x y h =
    let parts : up x + down y ≤ up y + down x = omega (arith, ints) in
    omega (arith, ints, mul-le-mul_left n parts)

-- where the way from x up over b bays to y is done between the ticks n and s, a crane that comes up to y by s
-- is no higher than x at n
late : (d t b : ℕ) (x y : ℤ) (n s : ℕ) → y ≤ℤ (x +ℤ pos b) → (0 < t * b → n + t * b ≤ s)
    → ((pos (d * t) *ℤ y) -ℤ pos (d * s - d * n)) ≤ℤ (pos (d * t) *ℤ x)
late d t b x y n s most in_time =
    let raised = scaled_le (d * t) y (x +ℤ pos b) most in
    let parts = scaled_sum (d * t) (x +ℤ pos b) x (pos b) refl in
    elim (cases_lt 0 (t * b)) [
      | inl l ↦ let time = mul-le-mul_left d (in_time l) in omega (arith, ints)
      | inr l ↦ let none = mul-le-mul_left d l in omega (arith, ints)
    ]

pub scaled_late : (d t : ℕ) (x y : ℤ) (n s : ℕ) → (0 < t * bays_up x y → n + t * bays_up x y ≤ s)
    → ((pos (d * t) *ℤ y) -ℤ pos (d * s - d * n)) ≤ℤ (pos (d * t) *ℤ x)
scaled_late d t x y n s = late d t (bays_up x y) x y n s (omega (arith, bays))
