use Rattle.std.proofs.Common.{◌++◌, ◌∷◌, ◌∙◌, List, [], ap, sym, arith}
use Rattle.std.proofs.lemmas.List.FromFn.{map-range_with_len_more}
use Rattle.qc_odds.specs.Order.{turn_of}
use Rattle.qc_odds.specs.declared.order.PlannedStart.{PlannedStart}
use Rattle.qc_odds.proofs.order.turns_by_number.Goals as goal

pub loop-task-preserved : goal.loop-task-preserved
loop-task-preserved c =
    let plan = c.args.slots.now in
    let task = c.loop-task.task in
    c.in_ok-push.ensures.items ∙ ap (λ (turns : List PlannedStart). turns ++ turn_of plan task ∷ []) c.loop-task.invariant
    ∙ sym (map-range_with_len_more (turn_of plan) 0 task task (omega arith))
