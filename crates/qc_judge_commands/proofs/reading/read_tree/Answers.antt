use Rattle.std.proofs.Common.{Err, ap, sym}
use Rattle.qc_run.specs.Inputs.{names_of}
use Rattle.qc_judge_commands.proofs.TreeFileLemmas.{no_tree, not_starved, not_unread, tree_fault}
use Rattle.qc_judge_commands.proofs.reading.read_tree.Goals as goal

pub returns-in-Err-Tree-clause-step : goal.returns-in-Err-Tree-clause-step
returns-in-Err-Tree-clause-step g c =
    let fault = c.in-Err-Tree.fault in
    let files = (g.S.Sink.view c.args.shelf.now).files in
    record {
      ok = tt;
      err = (
        c.in-Err-Tree.ensures.file.reads.unfailed (not_unread (ap Err c.in-Err-Tree.field-0-is)),
        tree_fault c.args.inst.now (names_of c.args.inputs.now) c.in-Some.name.now (sym c.in-Some.ensures) files fault
            (λ missing. not_unread (ap Err c.in-Err-Tree.field-0-is) (c.in-Err-Tree.ensures.file.missing missing (not_starved (ap Err c.in-Err-Tree.field-0-is))))
            (c.in-Err-Tree.ensures.fault fault (ap Err c.in-Err-Tree.field-0-is)),
      );
      may = c.requires;
      files = c.replay.ensures.file.reads.files;
      made = c.replay.ensures.file.reads.made;
      faults = c.replay.ensures.file.reads.faults;
      read_faults = c.replay.ensures.file.reads.never_falls;
    }

pub returns-in-Err-Tree-clause-none : goal.returns-in-Err-Tree-clause-none
returns-in-Err-Tree-clause-none g c = λ fault is.
    let files = (g.S.Sink.view c.args.shelf.now).files in
    no_tree c.args.inst.now (names_of c.args.inputs.now) c.in-Some.name.now (sym c.in-Some.ensures) files
    (λ missing. not_unread (ap Err c.in-Err-Tree.field-0-is) (c.in-Err-Tree.ensures.file.missing missing (not_starved (ap Err c.in-Err-Tree.field-0-is))))
    (λ tree is_tree same. c.in-Err-Tree.ensures.every_tree tree c.in-Err-Tree.fault is_tree same (ap Err c.in-Err-Tree.field-0-is))
