use Rattle.std.proofs.Common.{sym}
use Rattle.qc_close.specs.Tried.{tried}
use Rattle.qc_close.proofs.ShortLemmas.{none_down, none_up}
use Rattle.qc_close.proofs.count.Count.is_served.Goals as goal

pub returns-in-None : goal.returns-in-None
returns-in-None c = sym (none_up (tried c.args.self.now c.args.tick) c.in-None.ensures.found)

pub returns-in-None-walk_along : goal.returns-in-None-walk_along
returns-in-None-walk_along c = sym (none_down (tried c.args.self.now c.args.tick) c.in-None-walk_along.ensures.found)
