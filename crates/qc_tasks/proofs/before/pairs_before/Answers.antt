use Rattle.std.proofs.Common.{length, refl}
use Rattle.qc_tasks.specs.InstanceOf.{is_before}
use Rattle.qc_tasks.specs.Restows.{is_in}
use Rattle.qc_tasks.proofs.Loops.{pairs_row}
use Rattle.qc_tasks.proofs.before.pairs_before.Goals as goal

pub loop-first-preserved : goal.loop-first-preserved
loop-first-preserved c = pairs_row (is_before (is_in c.args.restows.now) c.args.tasks.now) (length c.args.tasks.now) c.loop-first.first _ c.loop-first.pairs.items _ refl c.loop-first.invariant c.in_ok-push_before.ensures
