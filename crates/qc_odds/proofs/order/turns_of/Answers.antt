use Rattle.std.proofs.Common.{List, subst}
use Rattle.std.specs.List.Sorted.{IsPermutation}
use Rattle.qc_odds.specs.declared.order.PlannedStart.{PlannedStart}
use Rattle.qc_odds.proofs.OrderLemmas.{sorted_turns}
use Rattle.qc_odds.proofs.order.turns_of.Goals as goal

pub returns : goal.returns
returns c =
    sorted_turns c.args.inst.now c.args.slots.now c.sort.new.turns.items
    (subst (λ (ts : List PlannedStart). IsPermutation ts c.sort.new.turns.items) c.in_ok-turns.ensures c.in_ok-sort.ensures.permutation)
    c.in_ok-sort.ensures.sorted
