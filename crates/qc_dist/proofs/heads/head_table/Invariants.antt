use Rattle.std.proofs.Common.{◌≡◌, ℕ, ◌<◌, vec_len, slice_index_or}
use Rattle.qc_dist.specs.declared.heads.Heads.{Heads}
use Rattle.qc_dist.specs.Heads.{IsHeads}
use Rattle.qc_dist.proofs.heads.head_table.Given as goal

abbrev pub invariant-loop-j : goal.invariant-loop-j
invariant-loop-j l = record {
  count : vec_len l.table ≡ l.j;
  heads : (i : ℕ) (d : Heads) → i < l.j → IsHeads l.inst i (slice_index_or l.table.items i d);
}
