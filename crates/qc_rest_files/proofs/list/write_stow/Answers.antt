use Rattle.std.proofs.Common.{subst, ◌++◌, List, ℕ}
use Rattle.std.specs.List.{flat_map}
use Rattle.qc_io.proofs.WritesLemmas.{writes_cut, writes_then}
use Rattle.qc_io.specs.Writes.{Writes}
use Rattle.qc_changes.specs.ListText.{header, row_line}
use Rattle.qc_rest_files.specs.LeftLines.{left_line}
use Rattle.qc_rest_files.specs.LeftRows.{left_rows}
use Rattle.qc_rest_files.proofs.LeftLemmas.{left_reads, lines_left, on_ok}
use Rattle.qc_rest_files.proofs.list.write_stow.Goals as goal

pub returns-in_err-put_header-clause-writes : goal.returns-in_err-put_header-clause-writes
returns-in_err-put_header-clause-writes g c =
    writes_cut (g.K.Sink.view c.args.sink.now) (g.K.Sink.view c.put_header.new.sink) header (flat_map row_line (left_rows c.args.rest.now.tasks c.args.moves.now))
    _ c.from_residual.result c.from_residual.ensures.0 c.in_err-put_header.ensures

pub returns-clause-writes : goal.returns-clause-writes
returns-clause-writes g c =
    let tasks = c.args.rest.now.tasks in
    let rows = c.args.moves.now in
    let written = rw (c.tasks.ensures.tasks, c.rows.ensures.rows) at c.put_left.ensures.writes in
    let all = writes_then (g.K.Sink.view c.args.sink.now) (g.K.Sink.view c.put_header.new.sink) (g.K.Sink.view c.put_left.new.sink) header (flat_map (left_line tasks) rows)
    c.put_left.result c.in_ok-put_header.ensures written in
    subst (λ (t : List ℕ). Writes (g.K.Sink.view c.args.sink.now) (g.K.Sink.view c.put_left.new.sink) (header ++ t) c.put_left.result) (lines_left tasks rows) all

pub returns-clause-reads : goal.returns-clause-reads
returns-clause-reads g c =
    on_ok c.put_left.result _ _ (λ plain ship over. left_reads c.args.rest.now.tasks c.args.moves.now c.rows.ensures.moves plain ship over)
    (rw (c.tasks.ensures.tasks, c.rows.ensures.rows) at c.put_left.ensures.plain)
