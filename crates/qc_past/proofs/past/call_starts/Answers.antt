use Rattle.std.proofs.Common.{arith}
use Rattle.std.proofs.lemmas.Grind.{common_steps}
use Rattle.qc_past.proofs.StartLemmas.{filter_more}
use Rattle.qc_past.specs.Past.{begins}
use Rattle.qc_past.proofs.past.call_starts.Goals as goal
use Rattle.qc_past.proofs.past.call_starts.Goals.{then-begins+in_ok-push, else-begins}

pub loop-at-preserved : goal.loop-at-preserved
loop-at-preserved c =
    let more = filter_more (begins c.args.tasks.now) c.loop-at.at in
    elim c.if-begins.branch [ then-begins+in_ok-push w ↦ grind (arith, common_steps, more) | else-begins w ↦ grind (arith, common_steps, more) ]
