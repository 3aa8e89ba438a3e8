use Rattle.std.proofs.Common.{length}
use Rattle.qc_plan_command.proofs.RoomLemmas.{free_moves, one_way_goes, one_way_moves}
use Rattle.qc_plan_command.proofs.room.motion_of.Goals as goal

pub direction_as-direction-requires-clause-goes : goal.direction_as-direction-requires-clause-goes
direction_as-direction-requires-clause-goes c =
    let inst = c.args.inst.now in
    one_way_goes inst c.args.sched.now (length inst.tasks) inst.turn c.args.way c.in-OneWay.track c.requires.goes
    (rw c.in-OneWay.is at c.requires.room)

pub returns-in-OneWay-clause-safe : goal.returns-in-OneWay-clause-safe
returns-in-OneWay-clause-safe c =
    let inst = c.args.inst.now in
    one_way_moves inst c.args.sched.now (length inst.tasks) inst.turn c.direction_as-direction.result c.in-OneWay.track
    c.requires.valid c.direction_as-direction.ensures (rw c.in-OneWay.is at c.requires.room)

pub returns-in-Free-clause-safe : goal.returns-in-Free-clause-safe
returns-in-Free-clause-safe c =
    let inst = c.args.inst.now in
    free_moves inst c.args.sched.now (length inst.tasks) inst.turn c.args.way c.in-Free.track c.requires.valid
    c.requires.goes (rw c.in-Free.is at c.requires.room)
