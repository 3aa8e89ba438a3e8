use Rattle.std.proofs.Common.{arith}
use Rattle.qc_model.proofs.LimitsOf.{travel_of}
use Rattle.qc_rest.proofs.places.Outlook.off.Goals as goal

pub bays_until-requires : goal.bays_until-requires
bays_until-requires c = omega (arith, c.travel-travel.ensures.travel, (travel_of _ c.travel-travel.ensures.valid).0)
