use Rattle.std.proofs.Common.{◌*◌, pos, ◌*ℤ◌}
use Rattle.qc_watch.proofs.Computed.{passed_on, short_is}
use Rattle.qc_watch.proofs.place.is_short.Goals as goal

pub returns : goal.returns
returns c =
    let first = c.args.first in
    let second = c.args.second in
    let ahead = rw (passed_on second.above c.requires.second.above) at c.across-reached.ensures.product in
    let behind = rw (passed_on first.above c.requires.first.above) at c.across.ensures.product in
    short_is c.across-reached.result c.across.result (second.above *ℤ pos first.below) (first.above *ℤ pos second.below)
    c.room_over-room.result (1 * c.args.bays * (first.below * second.below))
    c.across-reached.ensures.small c.across.ensures.small c.room_over-room.ensures.small
    ahead behind c.room_over-room.ensures.product
