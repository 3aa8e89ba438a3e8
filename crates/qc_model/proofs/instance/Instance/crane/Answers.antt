use Rattle.std.proofs.Common.{refl}
use Rattle.qc_model.proofs.OnRail.{read_crane}
use Rattle.qc_model.proofs.instance.Instance.crane.Goals as goal

pub returns-clause-crane : goal.returns-clause-crane
returns-clause-crane c =
    read_crane c.args.self.now _ _ _ _ c.cranes.ensures.cranes refl c.requires c.index-cranes-number.is
