use Rattle.qc_dispatch.specs.Following.{journal_of}
use Rattle.qc_rest.specs.Going.{first_end}
use Rattle.qc_rest.specs.Passed.{most_first}
use Rattle.qc_rest.proofs.KeptLemmas.{end_push, made_step}
use Rattle.qc_rest.proofs.gone.first_ends.Goals as goal

pub loop-task-preserved : goal.loop-task-preserved
loop-task-preserved c = record {
  items = made_step (first_end (journal_of c.args.journal.now)) c.loop-task.task c.first_end.result c.loop-task.ends.items _ c.first_end.ensures.end
      c.loop-task.invariant.items c.in_ok-push.ensures.items;
  soon = end_push most_first c.loop-task.ends.items _ c.first_end.result c.loop-task.invariant.soon c.first_end.ensures.soon c.in_ok-push.ensures.items;
}
