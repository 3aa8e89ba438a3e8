use Rattle.std.proofs.Common.{None, replicate, rules, ap, ◌∙◌}
use Rattle.qc_dist.proofs.Opened.{kept_open}
use Rattle.qc_dist.proofs.decisions.Decisions.new.Goals as goal

pub invariant_of-result : goal.invariant_of-result
invariant_of-result c =
    kept_open _ _ _ c.args.inst.now c.in_ok-copy.ensures c.task_count-tasks.ensures.valid c.in_ok-with_capacity.ensures.items
    (rw (c.task_count-tasks.ensures.count, c.order_pairs.ensures.count) at c.in_ok-with_capacity.ensures.capacity)
    (c.in_ok-vec.ensures.items_if_clones_equal (search rules) ∙ ap (λ n. replicate n None) c.task_count-tasks.ensures.count)
    c.in_ok-before_marks.ensures (rw c.task_count-tasks.ensures.count at c.in_ok-no_marks.ensures) c.in_ok-head_table.ensures
