use Rattle.std.proofs.Common.{min, ap, arith, ◌∙◌}
use Rattle.std.specs.Option.{option_map_or}
use Rattle.qc_model.specs.Nodes.{head}
use Rattle.qc_model.proofs.Extremes.{least_more}
use Rattle.qc_replay.proofs.earliest.least_lead.Goals as goal

pub loop-task-preserved : goal.loop-task-preserved
loop-task-preserved c =
    let f = head c.args.node.now.inst c.args.node.now.decisions in
    record {
      so_far =
          least_more f c.args.tasks.now c.loop-task.task-index c.loop-task.least c.lesser.result (omega arith)
          c.loop-task.invariant.so_far
          (c.lesser.ensures.least ∙ ap (λ t. option_map_or (λ n. min n t) c.loop-task.least t) c.lead.ensures.ticks);
      bound = omega (arith, c.lesser.ensures.bound, c.lead.ensures.bound);
    }
