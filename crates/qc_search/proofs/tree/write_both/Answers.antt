use Rattle.std.proofs.Common.{◌∙◌, [], ap, arith, length, sym}
use Rattle.std.proofs.lemmas.List.{length-map}
use Rattle.qc_close.specs.Model.{Up, InstanceView, mirror_task}
use Rattle.qc_search.specs.Earned.{part_nodes}
use Rattle.qc_search.proofs.TreeLemmas.{by_fault, down_cut, down_part, end_written, title_cut, up_cut, up_part}
use Rattle.qc_search.proofs.tree.write_both.Goals as goal

pub put_part-requires-2-clause-few : goal.put_part-requires-2-clause-few
put_part-requires-2-clause-few g c =
    (c.in_ok-put_part.ensures.writes.comes.earned c.args.up.now.inst c.requires.begun.0 [] (up_part c.args.up.now.inst) c.requires.begun.1).1.few

pub put_end-requires-clause-few : goal.put_end-requires-clause-few
put_end-requires-clause-few g c =
    let home = c.args.up.now.inst in
    let first = c.requires.begun.0 in
    let up = c.in_ok-put_part.ensures.writes in
    let down = rw c.requires.turned at c.in_ok-put_part-2.ensures.writes in
    let told = up.comes.earned home first [] (up_part home) c.requires.begun.1 in
    let end = down.comes.earned home first (part_nodes Up up.nodes) (down_part home c.requires.one_way) told.1 in
    omega (arith, end.1.few, down.comes.along.limit, up.comes.along.limit, c.requires.few)

pub returns-in_err-write_line-clause-writes : goal.returns-in_err-write_line-clause-writes
returns-in_err-write_line-clause-writes g c = λ first begun.
    by_fault _ c.from_residual.result c.from_residual.ensures.0
    (title_cut c.args.up.now.inst first _ c.args.progress.now c.args.progress.now begun c.requires.few c.requires.one_way (record {})
    c.in_err-write_line.ensures.writes)

pub returns-in_err-put_part-clause-writes : goal.returns-in_err-put_part-clause-writes
returns-in_err-put_part-clause-writes g c = λ first begun.
    by_fault _ c.from_residual-in_err-put_part.result c.from_residual-in_err-put_part.ensures.0
    (up_cut c.args.up.now.inst first _ c.args.progress.now c.args.progress.now begun c.requires.few c.requires.one_way
    c.in_ok-write_line.ensures.writes _ (record {}) c.in_err-put_part.ensures.writes)

pub returns-in_err-put_part-2-clause-writes : goal.returns-in_err-put_part-2-clause-writes
returns-in_err-put_part-2-clause-writes g c = λ first begun.
    by_fault _ c.from_residual-in_err-put_part-2.result c.from_residual-in_err-put_part-2.ensures.0
    (down_cut c.args.up.now.inst first _ c.args.progress.now c.args.progress.now begun c.requires.few c.requires.one_way
    c.in_ok-write_line.ensures.writes _ c.in_ok-put_part.ensures.writes _ (record {})
    (rw c.requires.turned at c.in_err-put_part-2.ensures.writes))

pub returns-clause-writes : goal.returns-clause-writes
returns-clause-writes g c = λ first begun.
    end_written c.args.up.now.inst first _ c.args.progress.now c.put_part-2.new.progress begun c.requires.few c.requires.one_way
    c.in_ok-write_line.ensures.writes c.put_part.new.progress c.in_ok-put_part.ensures.writes
    (rw c.requires.turned at c.in_ok-put_part-2.ensures.writes) c.put_end.result c.put_end.ensures

pub put_part-requires-2-clause-count : goal.put_part-requires-2-clause-count
put_part-requires-2-clause-count g c =
    let up = c.args.up.now.inst in
    c.in_ok-put_part.ensures.writes.comes.along.count c.requires.count
    ∙ sym (ap (λ (inst : InstanceView). length inst.tasks) c.requires.turned ∙ length-map up.tasks (mirror_task up))
