use Rattle.qc_close.specs.Tried.{tried}
use Rattle.qc_close.proofs.ShortLemmas.{both_stop, no_high}
use Rattle.qc_close.proofs.count.Count.has_room.Goals as goal

pub returns-in-None-last : goal.returns-in-None-last
returns-in-None-last c =
    no_high (tried c.args.self.now c.args.tick) c.args.up c.args.down c.requires.up c.requires.down c.in-None-last.is

pub returns-in-Some-last : goal.returns-in-Some-last
returns-in-Some-last c =
    both_stop (tried c.args.self.now c.args.tick) c.args.up c.args.down c.requires.up c.requires.down c.in-Some.low
    c.in-Some-last.high c.all_rooms.result c.in-Some.is c.in-Some-last.is c.all_rooms.ensures
