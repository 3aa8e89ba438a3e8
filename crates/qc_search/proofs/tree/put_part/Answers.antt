use Rattle.std.proofs.Common.{[], ◌∷◌}
use Rattle.qc_search.proofs.NodesLemmas.{behind_front, front_cut, on_fault_whole}
use Rattle.qc_search.proofs.tree.put_part.Goals as goal

pub returns-in_err-put_way-clause-writes : goal.returns-in_err-put_way-clause-writes
returns-in_err-put_way-clause-writes g c =
    on_fault_whole _ c.from_residual.result c.from_residual.ensures.0
    (front_cut ([] ∷ []) c.args.progress.now c.args.progress.now (record {}) c.in_err-put_way.ensures)

pub returns-clause-writes : goal.returns-clause-writes
returns-clause-writes g c = behind_front c.in_ok-put_way.ensures c.search_part.ensures.writes
