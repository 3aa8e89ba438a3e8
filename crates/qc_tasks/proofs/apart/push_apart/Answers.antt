use Rattle.std.proofs.Common.{refl, sym, ◌∙◌}
use Rattle.qc_tasks.specs.InstanceOf.{is_apart}
use Rattle.qc_tasks.proofs.Loops.{pairs_yes, pairs_no}
use Rattle.qc_tasks.proofs.apart.push_apart.Goals as goal
use Rattle.qc_tasks.proofs.apart.push_apart.Goals.{then-is_apart+in_ok-push, else-is_apart}

pub loop-second-preserved : goal.loop-second-preserved
loop-second-preserved c =
    elim c.if-is_apart.branch [
      | then-is_apart+in_ok-push w ↦ pairs_yes (is_apart c.args.entries.now c.args.tasks.now) c.args.first c.loop-second.second _ c.args.pairs.now.items c.loop-second.pairs.items _ refl (sym c.is_apart.ensures ∙ w.if-is_apart.true) c.loop-second.invariant (rw w.pairs-is w.in_ok-push.ensures.items)
      | else-is_apart w ↦ rw w.pairs-is (pairs_no (is_apart c.args.entries.now c.args.tasks.now) c.args.first c.loop-second.second _ c.args.pairs.now.items c.loop-second.pairs.items refl (sym c.is_apart.ensures ∙ w.if-is_apart.false) c.loop-second.invariant)
    ]
