-- A crane that goes from one bay to another gives way by no more than it travels.
use Rattle.std.proofs.Common.{◌≡◌, ℕ, ◌+◌, ◌-◌, ◌*◌, ◌≤◌, ℤ, pos, ◌+ℤ◌, inl, inr, ap, ◌∙◌, arith}
use Rattle.std.proofs.lemmas.Bool.{cases_order, lt-ltb, le-ltb}
use Rattle.std.proofs.Math.Nat.{mul-le-mul_left}
use Rattle.std.specs.Prelude.{nat_lt, if◌then◌else◌}
use Rattle.qc_model.specs.Bays.{bays_between, bays_up}
use Rattle.qc_model.specs.Instance.{InstanceView}
use Rattle.qc_model.specs.Ticks.{distance, travel_between}
use Rattle.qc_model.proofs.Bays.{bays}

times : (t a b c : ℕ) → a ≤ b + c → t * a ≤ t * b + t * c
times t a b c less = omega (arith, mul-le-mul_left t less)

up_below : (g : ℕ) (x z y : ℤ) → bays_up y (x +ℤ pos g) ≤ bays_between x z + bays_up y (z +ℤ pos g)
up_below g x z y = omega (arith, bays)

up_above : (g : ℕ) (x z y : ℤ) → bays_up x (y +ℤ pos g) ≤ bays_between x z + bays_up z (y +ℤ pos g)
up_above g x z y = omega (arith, bays)

pub travel_swapped : (inst : InstanceView) (x y : ℤ) → travel_between inst x y ≡ travel_between inst y x
travel_swapped inst x y =
    let e : bays_between x y ≡ bays_between y x = omega (arith, bays) in
    ap (λ (n : ℕ). inst.travel * n) e

pub travel_over : (inst : InstanceView) (x z y : ℤ) → travel_between inst x y ≤ travel_between inst x z + travel_between inst z y
travel_over inst x z y =
    let e : bays_between x y ≤ bays_between x z + bays_between z y = omega (arith, bays) in
    times inst.travel (bays_between x y) (bays_between x z) (bays_between z y) e

pub distance_over : (inst : InstanceView) (v : ℕ) (x z : ℤ) (w : ℕ) (y : ℤ)
    → distance inst v x w y ≤ travel_between inst x z + distance inst v z w y
distance_over inst v x z w y = elim (cases_order v w) [
  | inl e ↦
      let p : w ≤ v = omega arith in
      let q : v ≤ w = omega arith in
      rw (le-ltb v w p, le-ltb w v q) (omega arith)
  | inr u ↦ elim u [
    | inl h ↦
        rw (lt-ltb v w h) (times inst.travel (bays_up y (x +ℤ pos (inst.gap * (w - v)))) (bays_between x z)
        (bays_up y (z +ℤ pos (inst.gap * (w - v)))) (up_below (inst.gap * (w - v)) x z y))
    | inr h ↦
        let p : w ≤ v = omega arith in
        rw (le-ltb v w p, lt-ltb w v h) (times inst.travel (bays_up x (y +ℤ pos (inst.gap * (v - w)))) (bays_between x z)
        (bays_up z (y +ℤ pos (inst.gap * (v - w)))) (up_above (inst.gap * (v - w)) x z y))
  ]
]

-- distances and travel are those of the travel and the gap alone
distance_by : (travel gap : ℕ) → InstanceView → InstanceView
distance_by travel gap inst = record inst { travel = travel; gap = gap }

pub distance_same : (one other : InstanceView) → one.travel ≡ other.travel → one.gap ≡ other.gap → (v : ℕ) (x : ℤ) (w : ℕ) (y : ℤ)
    → distance one v x w y ≡ distance other v x w y
distance_same one other travel gap v x w y =
    let by : ℕ → ℕ → ℕ = λ t g. t * (
    if nat_lt v w then bays_up y (x +ℤ pos (g * (w - v))) else (if nat_lt w v then bays_up x (y +ℤ pos (g * (v - w))) else 0)) in
    ap (λ (t : ℕ). by t one.gap) travel ∙ ap (by other.travel) gap
