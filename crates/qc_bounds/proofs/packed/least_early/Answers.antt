use Rattle.std.proofs.Common.{ℕ, ◌<◌, length, min, ap, ◌∙◌, arith}
use Rattle.std.specs.Option.{option_map_or}
use Rattle.qc_bounds.specs.Packed.{early_at}
use Rattle.qc_model.proofs.Extremes.{least_more}
use Rattle.qc_bounds.proofs.packed.least_early.Goals as goal

pub loop-task-preserved : goal.loop-task-preserved
loop-task-preserved c =
    let f = early_at c.args.node.now.inst c.args.node.now.decisions in
    let before = c.loop-task.least in
    let low : c.loop-task.task-index < length c.args.tasks.now = omega arith in
    let is = c.lesser.ensures.least ∙ ap (λ (t : ℕ). option_map_or (λ m. min m t) before t) c.early.ensures.tick in
    record {
      so_far = least_more f c.args.tasks.now c.loop-task.task-index before c.lesser.result low c.loop-task.invariant.so_far is;
      soon = omega (arith, c.lesser.ensures.bound, c.early.ensures.soon);
    }
