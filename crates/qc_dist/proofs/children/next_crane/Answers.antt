use Rattle.std.proofs.Common.{◌+◌, ◌<◌, ◌≤◌, length}
use Rattle.qc_dist.proofs.ChildLemmas.{last_crane, next_crane}
use Rattle.qc_dist.proofs.children.next_crane.Goals as goal

pub returns-then-crane-cranes : goal.returns-then-crane-cranes
returns-then-crane-cranes c = λ ds is_open.
    let low : c.args.crane + 1 < length c.args.inst.now.cranes = rw (← c.cranes.ensures.cranes) c.if-crane-cranes.true in
    next_crane c.args.inst.now ds c.args.task c.args.crane low is_open

pub returns-else-crane-cranes : goal.returns-else-crane-cranes
returns-else-crane-cranes c = λ ds is_open.
    let high : length c.args.inst.now.cranes ≤ c.args.crane + 1 = rw (← c.cranes.ensures.cranes) c.if-crane-cranes.false in
    last_crane c.args.inst.now ds c.args.task c.args.crane high
