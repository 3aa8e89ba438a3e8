use Rattle.std.proofs.Common.{◌≡◌, ◌<◌, ℕ, length}
use Rattle.qc_dispatch.specs.Following.{journal_of}
use Rattle.qc_rest.specs.Remaining.{over_at}
use Rattle.qc_rest.specs.Stands.{IsStand, stand_of}
use Rattle.qc_rest.proofs.stands.stands_of.Given as goal

abbrev pub invariant-loop-crane : goal.invariant-loop-crane
invariant-loop-crane l = record {
  count : length l.stands.items ≡ l.crane;
  each_one : (k : ℕ) → k < l.crane → IsStand l.journal.dispatch (over_at (journal_of l.journal)) k (stand_of l.stands.items k);
}
