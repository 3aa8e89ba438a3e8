-- public: limits that hold of every instance, whether its hatches stand a crane bay apart or its places are
-- given in decimetres.
use Rattle.std.specs.Prelude.{◌≤◌, ℤ, pos, negsuc, length}
use Rattle.qc_model.specs.Numbers.{most_cranes, most_gap_by_places, most_place, most_travel}
use Rattle.qc_model.specs.Instance.{InstanceView, HasBerths, IsFrom, IsOnRail}

pub record HasLimits (inst : InstanceView) : Type 0 where
  pub bays : (1 ≤ inst.bays) × (inst.bays ≤ most_place)
  pub travel : inst.travel ≤ most_travel
  pub gap : (1 ≤ inst.gap) × (inst.gap ≤ most_gap_by_places)
  pub cranes : length inst.cranes ≤ most_cranes
  pub berths : HasBerths inst IsOnRail

-- a place on the rail, or no farther from one than all cranes side by side need
abbrev pub IsNearRail : ℤ → Type 0
IsNearRail x = IsFrom (negsuc 32999) (pos 33000) x

-- a place that a crane may have, in bays times travel
abbrev pub IsPlaceNear : ℤ → Type 0
IsPlaceNear x = IsFrom (negsuc 399999999) (pos 400000000) x
