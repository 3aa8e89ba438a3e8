use Rattle.std.proofs.Common.{length, refl}
use Rattle.qc_tasks.specs.InstanceOf.{is_apart}
use Rattle.qc_tasks.proofs.Loops.{pairs_row}
use Rattle.qc_tasks.proofs.apart.pairs_apart.Goals as goal

pub loop-first-preserved : goal.loop-first-preserved
loop-first-preserved c = pairs_row (is_apart c.args.entries.now c.args.tasks.now) (length c.args.tasks.now) c.loop-first.first _ c.loop-first.pairs.items _ refl c.loop-first.invariant c.in_ok-push_apart.ensures
