-- Every instance keeps the limits.
use Rattle.std.proofs.Common.{◌≡◌, refl, ◌≤◌, ℤ, pos, negsuc, arith, ◌⊎◌, inl, inr}
use Rattle.std.proofs.lemmas.Int.{ints}
use mathlib.Core.Logic.{∥∥₁_elim}
use denote.Struct.Props.{props}
use Rattle.qc_model.specs.Bays.{at_least_zero}
use Rattle.qc_model.specs.Instance.{InstanceView, Valid, HasBerths, HasBayLimits, HasPlaceLimits, IsFrom, IsOnRail}
use Rattle.qc_model.specs.Limits.{HasLimits}

-- the part of the limits that the two kinds of ship give
record HasSizes (inst : InstanceView) : Type 0 where
  bays : (1 ≤ inst.bays) × (inst.bays ≤ 6000)
  travel : (1 ≤ inst.travel) × (inst.travel ≤ 10000)
  gap : (1 ≤ inst.gap) × (inst.gap ≤ 2000)
  berths : HasBerths inst IsOnRail

wider : (x : ℤ) → IsFrom (negsuc 299) (pos 300) x → IsOnRail x
wider x h = (omega (arith, ints), omega (arith, ints))

sizes_of : (inst : InstanceView) → HasBayLimits inst ⊎ HasPlaceLimits inst → HasSizes inst
sizes_of inst (inl h) = record {
  bays = (h.bays.0, omega (arith, h.bays.1));
  travel = h.travel;
  gap = (h.gap.0, omega (arith, h.gap.1));
  berths = λ k p. (wider _ (h.berths k p).0, wider _ (h.berths k p).1);
}
sizes_of inst (inr h) = record {
  bays = h.bays;
  travel = (h.travel.0, omega (arith, h.travel.1));
  gap = h.gap;
  berths = h.berths;
}

pub limits_of : (inst : InstanceView) → Valid inst → HasLimits inst
limits_of inst v =
    let s = ∥∥₁_elim v.limits (hlevel props) (sizes_of inst) in
    record { bays = s.bays; travel = s.travel.1; gap = s.gap; cranes = v.cranes.count.1; berths = s.berths }

-- a bay takes some ticks, and not too many
pub travel_of : (inst : InstanceView) → Valid inst → (1 ≤ inst.travel) × (inst.travel ≤ 10000)
travel_of inst v = (∥∥₁_elim v.limits (hlevel props) (sizes_of inst)).travel

-- a whole number that counts as at least 1 is that number
pub counted : (z : ℤ) → 1 ≤ at_least_zero z → z ≡ pos (at_least_zero z)
counted (pos n) h = refl
counted (negsuc n) h = absurd (omega arith)
