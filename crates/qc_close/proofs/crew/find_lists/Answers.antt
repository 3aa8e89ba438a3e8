use Rattle.std.proofs.Common.{None, replicate, ap, ◌∙◌}
use Rattle.qc_close.proofs.crew.find_lists.Goals as goal

pub returns : goal.returns
returns c =
    record {
      cranes = c.in_ok-lists.ensures ∙ ap (λ n. replicate n None) c.task_count-tasks.ensures.count;
      left = c.in_ok-lists-2.ensures;
      spots = c.in_ok-lists-3.ensures;
      soonest = c.in_ok-lists-4.ensures ∙ c.task_count-tasks.ensures.count;
      table = c.in_ok-lists-5.ensures;
      trips = c.in_ok-lists-6.ensures;
    }
