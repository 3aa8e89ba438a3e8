use Rattle.std.proofs.Common.{refl, sym, ◌∙◌}
use Rattle.qc_tasks.specs.InstanceOf.{is_before}
use Rattle.qc_tasks.specs.Restows.{is_in}
use Rattle.qc_tasks.proofs.Loops.{pairs_yes, pairs_no}
use Rattle.qc_tasks.proofs.before.push_before.Goals as goal
use Rattle.qc_tasks.proofs.before.push_before.Goals.{then-is_before+in_ok-push, else-is_before}

pub loop-second-preserved : goal.loop-second-preserved
loop-second-preserved c =
    elim c.if-is_before.branch [
      | then-is_before+in_ok-push w ↦ pairs_yes (is_before (is_in c.args.restows.now) c.args.tasks.now) c.args.first c.loop-second.second _ c.args.pairs.now.items c.loop-second.pairs.items _ refl (sym c.is_before.ensures ∙ w.if-is_before.true) c.loop-second.invariant (rw w.pairs-is w.in_ok-push.ensures.items)
      | else-is_before w ↦ rw w.pairs-is (pairs_no (is_before (is_in c.args.restows.now) c.args.tasks.now) c.args.first c.loop-second.second _ c.args.pairs.now.items c.loop-second.pairs.items refl (sym c.is_before.ensures ∙ w.if-is_before.false) c.loop-second.invariant)
    ]
