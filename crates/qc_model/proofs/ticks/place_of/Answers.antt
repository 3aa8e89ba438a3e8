use Rattle.std.proofs.Common.{◌≡◌, ℕ, ◌*◌, ◌≤◌, ℤ, pos, negsuc, ◌*ℤ◌, FitsSigned, to_z, of_z, w32, w64, refl, ap, arith}
use Rattle.std.proofs.lemmas.Int.{ints, to_z-of_z, unsigned_abs-mul}
use Rattle.std.proofs.lemmas.Nat.{mul-le}
use Rattle.std.specs.Int.RustNames.{unsigned_abs}
use Rattle.qc_model.specs.Instance.{InstanceView, Valid}
use Rattle.qc_model.specs.Limits.{IsNearRail, IsPlaceNear}
use Rattle.qc_model.proofs.LimitsOf.{limits_of}
use Rattle.qc_model.proofs.ticks.place_of.Goals as goal

bounds : (z : ℤ) → unsigned_abs z ≤ 330000000 → IsPlaceNear z
bounds (pos n) h = (omega (arith, ints), omega (arith, ints))
bounds (negsuc n) h = (omega (arith, ints), omega (arith, ints))

rail : (x : ℤ) → IsNearRail x → unsigned_abs x ≤ 33000
rail (pos n) h = omega (arith, ints, h.0, h.1)
rail (negsuc n) h = omega (arith, ints, h.0, h.1)

near : (t : ℕ) (x : ℤ) → t ≤ 10000 → IsNearRail x → IsPlaceNear (pos t *ℤ x)
near t x h r = bounds _ (omega (arith, unsigned_abs-mul (pos t) x, mul-le t (unsigned_abs x) 10000 33000 h (rail x r)))

fits : (z : ℤ) → IsPlaceNear z → FitsSigned w64 z
fits z h = omega (arith, ints, h.0, h.1)

-- the product as the code computes it
product_is : (t : ℕ) (b x : ℤ) → t ≤ 10000 → b ≡ to_z w32 (of_z w32 x) → IsNearRail x
    → (to_z w64 t *ℤ to_z w64 (of_z w64 b)) ≡ (pos t *ℤ x)
product_is t b x h e r =
    let p : to_z w64 t ≡ pos t = omega (arith, ints) in
    let q : to_z w64 (of_z w64 b) ≡ x = rw e (omega (arith, ints, r.0, r.1)) in
    rw (p, q) refl

travel_bound : (inst : InstanceView) → Valid inst → (t : ℕ) → t ≡ inst.travel → t ≤ 10000
travel_bound inst v t e = omega (arith, (limits_of inst v).travel)

pub overflow_cast-result : goal.overflow_cast-result
overflow_cast-result c =
    let b = travel_bound _ c.travel.ensures.valid _ c.travel.ensures.travel in
    omega (arith, ints, b)

pub overflow_mul-result : goal.overflow_mul-result
overflow_mul-result c =
    let b = travel_bound _ c.travel.ensures.valid _ c.travel.ensures.travel in
    rw (product_is _ _ _ b c.from.ensures c.requires) (fits _ (near _ _ b c.requires))

pub returns-clause-place : goal.returns-clause-place
returns-clause-place c =
    let same : c.travel.result ≡ 1 * c.args.inst.now.travel = omega (arith, c.travel.ensures.travel) in
    let b = travel_bound _ c.travel.ensures.valid _ c.travel.ensures.travel in
    rw (product_is _ _ _ b c.from.ensures c.requires, to_z-of_z w64 _ (fits _ (near _ _ b c.requires)))
    (ap (λ n. pos n *ℤ c.args.bay) same)

pub returns-clause-near : goal.returns-clause-near
returns-clause-near c =
    let b = travel_bound _ c.travel.ensures.valid _ c.travel.ensures.travel in
    rw (product_is _ _ _ b c.from.ensures c.requires, to_z-of_z w64 _ (fits _ (near _ _ b c.requires)))
    (near _ _ b c.requires)
