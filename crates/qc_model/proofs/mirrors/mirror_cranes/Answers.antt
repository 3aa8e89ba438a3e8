use Rattle.std.proofs.Common.{refl, ap}
use Rattle.qc_model.specs.declared.direction.Direction.TheVariants.{Up}
use Rattle.qc_model.proofs.OnRail.{berth_on_rail, reach_on_rail, read_crane}
use Rattle.qc_model.proofs.mirrors.mirror_cranes.Goals as goal

pub mirror_crane-requires : goal.mirror_crane-requires
mirror_crane-requires c =
    let s = c.cranes-crane-items.ensures in
    let r = rw s.cranes at c.loop-crane-test.true in
    let e = read_crane c.args.inst.now _ _ c.loop-crane.crane-index _ s.cranes refl r c.crane-item.is in
    let reach = reach_on_rail c.args.inst.now s.valid _ r in
    record {
      bay = rw (ap (λ k. k.bay) e) (berth_on_rail c.args.inst.now s.valid Up _ r);
      from = rw (ap (λ k. k.from) e) reach.0;
      to = rw (ap (λ k. k.to) e) reach.1;
    }
