use Rattle.std.proofs.Common.{rules}
use Rattle.std.specs.Ordering.{is_lt}
use Rattle.std.proofs.lemmas.List.MinMax.{ranks_by}
use Rattle.std.proofs.lemmas.List.Sorted.{answers_always}
use Rattle.qc_stow.specs.declared.row.Row.{Row}
use Rattle.qc_changes.specs.MoveList.{on_cmp}
use Rattle.qc_changes.proofs.LeadLemmas.{on_total_order}
use Rattle.qc_changes.proofs.rows.sort_on.Goals as goal

pub returns-clause-sorted : goal.returns-clause-sorted
returns-clause-sorted c = c.sort_unstable_by.ensures.sorted (λ (a b : Row). is_lt (on_cmp a b)) (ranks_by on_total_order (λ (r : Row). r))
    (answers_always _ _ _ (λ f a r g h. first_of (search rules, cc h)))
