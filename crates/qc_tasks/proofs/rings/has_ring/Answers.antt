use Rattle.std.proofs.Common.{◌∙◌, refl, sym}
use Rattle.qc_tasks.specs.Rings.{leads}
use Rattle.qc_tasks.proofs.RingLemmas.{none_more, ring_at}
use Rattle.qc_tasks.proofs.rings.has_ring.Goals as goal

pub loop-task-preserved : goal.loop-task-preserved
loop-task-preserved c =
    none_more (λ i. leads c.args.pairs.now i i) c.loop-task.task _ refl c.loop-task.invariant (sym c.comes_back.ensures ∙ c.if-comes_back.false)

pub returns-then-comes_back : goal.returns-then-comes_back
returns-then-comes_back c =
    sym (ring_at (λ i. leads c.args.pairs.now i i) c.args.count c.loop-task.task c.loop-task-test.true (sym c.comes_back.ensures ∙ c.if-comes_back.true))
