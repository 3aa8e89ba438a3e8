use Rattle.std.proofs.Common.{ap, ◌∙◌}
use Rattle.qc_model.specs.declared.crane.Crane.{Crane}
use Rattle.qc_model.specs.declared.direction.Direction.TheVariants.{Up}
use Rattle.qc_model.proofs.OnRail.{berth_on_rail, reach_on_rail}
use Rattle.qc_model.proofs.instance.Instance.post.Goals as goal

pub seen_post-requires : goal.seen_post-requires
seen_post-requires c =
    let inst = c.args.self.now in
    let valid = c.crane.ensures.valid in
    let is = c.crane.ensures.crane in
    let reach = reach_on_rail inst valid c.args.number c.requires in
    record {
      bay = rw (ap (λ (k : Crane). k.bay) is) (berth_on_rail inst valid Up c.args.number c.requires);
      from = rw (ap (λ (k : Crane). k.from) is) reach.0;
      to = rw (ap (λ (k : Crane). k.to) is) reach.1;
    }

pub returns-clause-on_rail : goal.returns-clause-on_rail
returns-clause-on_rail c =
    rw (c.seen_post.ensures.bay ∙ ap (λ (k : Crane). k.bay) c.crane.ensures.crane)
    (berth_on_rail c.args.self.now c.crane.ensures.valid Up c.args.number c.requires)
