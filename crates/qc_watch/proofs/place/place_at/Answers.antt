use Rattle.std.proofs.Common.{arith}
use Rattle.qc_watch.proofs.AtTick.{at_next, before_next, none_after, none_before}
use Rattle.qc_watch.proofs.place.place_at.Goals as goal

pub returns-then-next-list : goal.returns-then-next-list
returns-then-next-list c = none_after _ c.requires.list _ _ c.requires.cut c.if-next-list.true

pub returns-then-to-tick : goal.returns-then-to-tick
returns-then-to-tick c = (rw c.at_report.ensures.place (at_next _ c.requires.list _ _ c.requires.cut (omega (arith, c.requires.cut.inside)) c.if-to-tick.true), c.at_report.ensures.small)

pub returns-then-next-eq0 : goal.returns-then-next-eq0
returns-then-next-eq0 c = none_before _ c.requires.list _ _ c.requires.cut c.if-next-eq0.true (omega (arith, c.requires.cut.inside)) c.if-to-tick.false

pub returns : goal.returns
returns c = (rw c.on_line.ensures.place (before_next _ c.requires.list _ _ c.requires.cut (omega (arith, c.requires.cut.inside)) c.if-next-eq0.false c.if-to-tick.false), c.on_line.ensures.small)
