use Rattle.std.proofs.Common.{length, ap, sym, subst, ◌∙◌}
use Rattle.std.specs.List.{refill}
use Rattle.qc_io.specs.Writes.{Writes}
use Rattle.qc_tree.specs.declared.line.Line.{Line}
use Rattle.qc_tree.specs.Lines.{IsLine}
use Rattle.qc_tree.specs.Trees.{in_file, whole_line}
use Rattle.qc_search.proofs.LineLemmas.{leaf_written, written_in}
use Rattle.qc_search.proofs.lines.put_leaf.Goals as goal

pub write_line-requires : goal.write_line-requires
write_line-requires g c =
    let is = c.number_from_one.ensures ∙ ap in_file c.as_mut_slice.ensures.value in
    record {
      in_range = subst (λ (l : Line). IsLine l (refill (length c.args.path.now.items) c.args.path.now.items c.number_from_one.new.tasks)) (sym c.leaf_line.ensures)
          (written_in c.args.leaf c.args.path.now.items c.number_from_one.new.tasks is c.requires);
    }

pub returns-clause-writes : goal.returns-clause-writes
returns-clause-writes g c =
    let tasks = c.args.path.now.items in
    let news = c.number_from_one.new.tasks in
    subst (λ text. Writes (g.K.Sink.view c.args.sink.now) (g.K.Sink.view c.write_line.new.sink) text c.write_line.result)
    (ap (λ (l : Line). whole_line l (refill (length tasks) tasks news)) c.leaf_line.ensures
    ∙ leaf_written c.args.leaf tasks news (c.number_from_one.ensures ∙ ap in_file c.as_mut_slice.ensures.value))
    c.write_line.ensures.writes
