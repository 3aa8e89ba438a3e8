-- Decisions are few.
use Rattle.std.proofs.Common.{◌<◌, List, length, arith}
use Rattle.qc_dist.proofs.Room.{few_orders, fits_room}
use Rattle.qc_model.specs.declared.decision.Decision.{Decision}
use Rattle.qc_model.specs.Instance.{InstanceView, Valid}
use Rattle.qc_model.specs.Nodes.{Fits}

-- ---- decisions

-- decisions are few enough to be counted
pub few_made : (inst : InstanceView) (ds : List Decision) → Valid inst → Fits inst ds → length ds < 65536
few_made inst ds v fits = omega (arith, fits_room inst v ds fits, v.tasks.count, few_orders inst v)
