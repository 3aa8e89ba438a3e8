use Rattle.qc_dispatch.proofs.TableLemmas.{waits_more}
use Rattle.qc_dispatch.proofs.WaitLemmas.{first_wait}
use Rattle.qc_dispatch.proofs.waits.Waits.new.Goals as goal

pub loop-j-preserved : goal.loop-j-preserved
loop-j-preserved c =
    rw c.in_ok-push.ensures.items (waits_more c.args.inst.now c.args.slots.now c.args.marks.now c.loop-j.j c.loop-j.items.items _ c.loop-j.invariant
    (first_wait c.args.inst.now c.args.slots.now c.args.marks.now c.loop-j.j c.leaders_of.result c.head.result c.leaders_of.ensures c.head.ensures.ticks))
