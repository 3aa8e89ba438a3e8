use Rattle.std.proofs.Common.{◌+◌}
use Rattle.qc_model.specs.Numbers.{most_distance, most_ready}
use Rattle.qc_rest.specs.Following.{first_start}
use Rattle.qc_rest.proofs.KeptLemmas.{made_step, start_push}
use Rattle.qc_rest.proofs.order.first_starts.Goals as goal

pub loop-task-preserved : goal.loop-task-preserved
loop-task-preserved c = record {
  items = made_step (first_start c.args.journal.now.dispatch c.args.rest.now) c.loop-task.task c.first_start.result c.loop-task.firsts.items _ c.first_start.ensures.start
      c.loop-task.invariant.items c.in_ok-push.ensures.items;
  soon = start_push (most_ready + most_distance) c.loop-task.firsts.items _ c.first_start.result c.loop-task.invariant.soon c.first_start.ensures.soon
      c.in_ok-push.ensures.items;
}
