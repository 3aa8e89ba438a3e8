use Rattle.std.proofs.Common.{◌≡◌, ◌*◌, ◌<◌, ◌≤◌, length, pos, ℕ, ℤ, ◌*ℤ◌, FitsSigned, to_z, of_z, w32, refl, arith, lit<}
use Rattle.std.proofs.lemmas.Int.{ints, to_z-of_z, fits_signed_mul}
use Rattle.std.proofs.lemmas.Nat.{mul-le}
use Rattle.qc_model.specs.Instance.{InstanceView, Valid}
use Rattle.qc_model.proofs.LimitsOf.{limits_of}
use Rattle.qc_model.proofs.ticks.gap_over.Goals as goal

-- the product as the code computes it
product_fits : (g c : ℤ) (m n : ℕ) → g ≡ pos m → c ≡ pos n → m ≤ 2000 → n ≤ 8 → FitsSigned w32 (to_z w32 (of_z w32 g) *ℤ to_z w32 (of_z w32 c))
product_fits g c m n p q low few =
    let k = mul-le m n 2000 8 low few in
    let f : FitsSigned w32 (pos m) = omega (arith, ints) in
    let h : FitsSigned w32 (pos n) = omega (arith, ints) in
    rw (p, q, to_z-of_z w32 (pos m) f, to_z-of_z w32 (pos n) h) (fits_signed_mul w32 (pos m) (pos n) 2000 8 low few (lit< tt))

product_is : (g c : ℤ) (m n : ℕ) → g ≡ pos m → c ≡ pos n → m ≤ 2000 → n ≤ 8 → to_z w32 (of_z w32 (to_z w32 (of_z w32 g) *ℤ to_z w32 (of_z w32 c))) ≡ pos (m * n)
product_is g c m n p q low few =
    let f : FitsSigned w32 (pos m) = omega (arith, ints) in
    let h : FitsSigned w32 (pos n) = omega (arith, ints) in
    let r : FitsSigned w32 (pos (m * n)) = fits_signed_mul w32 (pos m) (pos n) 2000 8 low few (lit< tt) in
    rw (p, q, to_z-of_z w32 (pos m) f, to_z-of_z w32 (pos n) h, to_z-of_z w32 (pos (m * n)) r) refl

-- the gap and the number of cranes that are between
sizes : (inst : InstanceView) → Valid inst → (n : ℕ) → n < length inst.cranes → (inst.gap ≤ 2000) × (n ≤ 8)
sizes inst v n h = let l = limits_of inst v in (l.gap.1, omega (arith, l.cranes))

pub overflow_mul-result : goal.overflow_mul-result
overflow_mul-result c =
    let s = sizes _ c.gap.ensures.valid _ c.requires in
    product_fits _ _ _ _ c.gap.ensures.gap c.from.ensures s.0 s.1

pub returns-clause-bays : goal.returns-clause-bays
returns-clause-bays c =
    let s = sizes _ c.gap.ensures.valid _ c.requires in
    product_is _ _ _ _ c.gap.ensures.gap c.from.ensures s.0 s.1

pub returns-clause-bound : goal.returns-clause-bound
returns-clause-bound c =
    let s = sizes _ c.gap.ensures.valid _ c.requires in
    let k = mul-le _ _ 2000 8 s.0 s.1 in
    let e = product_is _ _ _ _ c.gap.ensures.gap c.from.ensures s.0 s.1 in
    rw e (omega (arith, ints, k))
