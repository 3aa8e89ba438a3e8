use Rattle.std.proofs.Common.{◌<◌, length, arith}
use Rattle.qc_bayplan.specs.Plan.{most_containers}
use Rattle.qc_bayplan.proofs.ContainerLemmas.{known-free}
use Rattle.qc_bayplan.proofs.TakenLemmas.{more-apart}
use Rattle.qc_bayplan.proofs.container.next_container.Goals as goal

pub returns-clause-kept : goal.returns-clause-kept
returns-clause-kept c =
    let few : length c.args.earlier.now < most_containers = omega (arith, c.requires.apart.count) in
    let (new, free) = known-free c.args.earlier.now c.in_ok-found.found.container c.in_ok-claim.ensures.free in
    record {
      apart = more-apart c.args.earlier.now c.in_ok-found.found.container c.requires.apart c.in_ok-found.ensures.valid few new free;
      same = c.in_ok-claim.ensures.taken;
    }
