use Rattle.std.proofs.Common.{[], arith}
use Rattle.qc_search.proofs.TreeLemmas.{by_fault, free_end_written, free_part_cut, free_title_cut, up_part}
use Rattle.qc_search.proofs.tree.write_one.Goals as goal

pub put_end-requires-clause-few : goal.put_end-requires-clause-few
put_end-requires-clause-few g c =
    let home = c.args.up.now.inst in
    let up = c.in_ok-search_part.ensures.writes in
    let told = up.comes.earned home c.requires.begun.0 [] (up_part home) c.requires.begun.1 in
    omega (arith, told.1.few, up.comes.along.limit, c.requires.few)

pub returns-in_err-write_line-clause-writes : goal.returns-in_err-write_line-clause-writes
returns-in_err-write_line-clause-writes g c = λ first begun.
    by_fault _ c.from_residual.result c.from_residual.ensures.0
    (free_title_cut c.args.up.now.inst first _ c.args.progress.now c.args.progress.now begun c.requires.few c.requires.free
    (record {}) c.in_err-write_line.ensures.writes)

pub returns-in_err-search_part-clause-writes : goal.returns-in_err-search_part-clause-writes
returns-in_err-search_part-clause-writes g c = λ first begun.
    by_fault _ c.from_residual-in_err-search_part.result c.from_residual-in_err-search_part.ensures.0
    (free_part_cut c.args.up.now.inst first _ c.args.progress.now c.args.progress.now begun c.requires.few c.requires.free
    c.in_ok-write_line.ensures.writes _ (record {}) c.in_err-search_part.ensures.writes)

pub returns-clause-writes : goal.returns-clause-writes
returns-clause-writes g c = λ first begun.
    free_end_written c.args.up.now.inst first _ c.args.progress.now c.search_part.new.progress begun c.requires.few
    c.requires.free c.in_ok-write_line.ensures.writes c.in_ok-search_part.ensures.writes c.put_end.result c.put_end.ensures
