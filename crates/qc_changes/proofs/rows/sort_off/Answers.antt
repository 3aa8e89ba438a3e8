use Rattle.std.proofs.Common.{rules}
use Rattle.std.specs.Ordering.{is_lt}
use Rattle.std.proofs.lemmas.List.MinMax.{ranks_by}
use Rattle.std.proofs.lemmas.List.Sorted.{answers_always}
use Rattle.qc_stow.specs.declared.row.Row.{Row}
use Rattle.qc_changes.specs.MoveList.{off_cmp}
use Rattle.qc_changes.proofs.LeadLemmas.{off_total}
use Rattle.qc_changes.proofs.rows.sort_off.Goals as goal

pub returns-clause-sorted : goal.returns-clause-sorted
returns-clause-sorted c = c.sort_unstable_by.ensures.sorted (λ (a b : Row). is_lt (off_cmp a b)) (ranks_by off_total (λ (r : Row). r))
    (answers_always _ _ _ (λ f a r g h. first_of (search rules, cc h)))
