use Rattle.std.proofs.Common.{◌∙◌, ap, length, List, map}
use Rattle.std.specs.List.{range_with_len}
use Rattle.qc_lines.specs.Lines.{lines_of}
use Rattle.qc_model.specs.declared.crane.Crane.{Crane}
use Rattle.qc_watch.specs.Log.{told_of}
use Rattle.qc_watch.proofs.LogFacts.{count_lists, entries_keep, length-lists_of, reports_keep}
use Rattle.qc_watch.proofs.reader.read_reports.Goals as goal

pub of_lists-requires-clause-reports : goal.of_lists-requires-clause-reports
of_lists-requires-clause-reports c =
    let ship = c.args.ship.now in
    let log = c.in_ok-log.log in
    let made = c.in_ok-lists.ensures ∙ ap (λ (cs : List Crane). map (told_of log) (range_with_len 0 (length cs))) c.cranes.ensures.cranes in
    rw made (reports_keep ship log c.cranes.ensures.ship (entries_keep ship (lines_of c.args.text.now) log c.in_ok-log.ensures))

pub of_lists-requires-clause-count : goal.of_lists-requires-clause-count
of_lists-requires-clause-count c =
    let ship = c.args.ship.now in
    let log = c.in_ok-log.log in
    let made = c.in_ok-lists.ensures ∙ ap (λ (cs : List Crane). map (told_of log) (range_with_len 0 (length cs))) c.cranes.ensures.cranes in
    rw made (c.count.ensures ∙ count_lists ship log (entries_keep ship (lines_of c.args.text.now) log c.in_ok-log.ensures))

pub returns-clause-cranes : goal.returns-clause-cranes
returns-clause-cranes c =
    let ship = c.args.ship.now in
    let log = c.in_ok-log.log in
    let made = c.in_ok-lists.ensures ∙ ap (λ (cs : List Crane). map (told_of log) (range_with_len 0 (length cs))) c.cranes.ensures.cranes in
    ap length (c.of_lists.ensures ∙ made) ∙ length-lists_of ship log
