use Rattle.std.proofs.lemmas.List.Sorted.{IsNonDecreasingBy-from_sort, answers_always}
use Rattle.std.proofs.Common.{rules}
use Rattle.qc_ship.specs.Cells.{CellView}
use Rattle.qc_changes.proofs.lift.sort.Goals as goal

pub returns-clause-rises : goal.returns-clause-rises
returns-clause-rises c =
    IsNonDecreasingBy-from_sort (λ (cell : CellView). cell.tier) _
    (c.sort_unstable_by_key.ensures.sorted (λ (cell : CellView). cell.tier) (answers_always _ _ _ (λ f a r g h. search rules)))
