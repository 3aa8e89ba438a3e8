use Rattle.qc_search.proofs.OrderLemmas.{order_else, order_then}
use Rattle.qc_search.proofs.given.order_of.Goals as goal

pub returns-then-end-slots : goal.returns-then-end-slots
returns-then-end-slots c =
    order_then c.args.inst.now c.args.sched.now c.args.pair
    (rw (c.slots.ensures, c.slots-2.ensures, c.task.ensures.task) at c.if-end-slots.true)

pub returns-else-end-slots : goal.returns-else-end-slots
returns-else-end-slots c =
    order_else c.args.inst.now c.args.sched.now c.args.pair
    (rw (c.slots.ensures, c.slots-2.ensures, c.task.ensures.task) at c.if-end-slots.false)
