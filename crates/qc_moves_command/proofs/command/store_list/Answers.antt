use Rattle.std.proofs.Common.{◌≡◌, ◌∙◌, List, subst}
use Rattle.std.specs.Io.KnownBytes.{append_known}
use Rattle.qc_stow.specs.declared.row.Row.{Row}
use Rattle.qc_changes.specs.ListText.{list_text}
use Rattle.qc_io.proofs.Pieces.{on_err}
use Rattle.qc_io.proofs.MadeLemmas.{left_file, made_file, not_through}
use Rattle.qc_moves_command.proofs.command.store_list.Goals as goal

pub returns-in_err-finish-clause-ok : goal.returns-in_err-finish-clause-ok
returns-in_err-finish-clause-ok g c = not_through _ _ c.from_residual-in_err-finish.result c.from_residual-in_err-finish.ensures.1

pub returns-in_err-finish-clause-err : goal.returns-in_err-finish-clause-err
returns-in_err-finish-clause-err g c =
    let view = g.S.Sink.view in
    on_err c.from_residual-in_err-finish.result
    (left_file (view c.args.shelf.now) (view c.create.new.self) (view c.write_list.new.sink) (view c.finish.new.self)
    c.args.name.now (list_text c.args.changes.now.rows) c.create.ensures.files_stay c.in_ok-create.ensures.ok_made
    c.in_ok-create.ensures.ok_begun (subst (λ (rs : List Row). (view c.write_list.new.sink).written ≡ append_known (view c.create.new.self).written (list_text rs)) c.rows.ensures c.in_ok-write_list.ensures.whole) c.in_ok-write_list.ensures.beside_stays c.in_err-finish.ensures.err_files)

pub returns-clause-ok : goal.returns-clause-ok
returns-clause-ok g c =
    let view = g.S.Sink.view in
    c.in_ok-finish.ensures.ok_files ∙ made_file (view c.args.shelf.now) (view c.create.new.self) (view c.write_list.new.sink)
    c.args.name.now (list_text c.args.changes.now.rows) c.create.ensures.files_stay c.in_ok-create.ensures.ok_made
    c.in_ok-create.ensures.ok_begun (subst (λ (rs : List Row). (view c.write_list.new.sink).written ≡ append_known (view c.create.new.self).written (list_text rs)) c.rows.ensures c.in_ok-write_list.ensures.whole) c.in_ok-write_list.ensures.beside_stays
