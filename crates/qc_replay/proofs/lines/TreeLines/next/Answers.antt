use Rattle.std.proofs.Common.{Err, ap}
use Rattle.std.specs.Io.KnownBytes.{prepend_known}
use Rattle.qc_tree.proofs.LineInLemmas.{line_read}
use Rattle.qc_replay.proofs.FileFacts.{cut_faulty, long_faulty, misspelt_faulty, refused}
use Rattle.qc_replay.proofs.lines.TreeLines.next.Goals as goal

pub returns-in-Err-clause-fault : goal.returns-in-Err-clause-fault
returns-in-Err-clause-fault g c =
    let before = prepend_known c.args.self.now.reader (g.S.Sink.view c.args.shelf.now).rest in
    let takes = rw (c.in-Ok-Some.is, c.in-Ok-Some.field-0-is) at c.next.follows.holds-at-none in
    let unread = rw c.in-Err.is at (line_read c.in-Ok-Some.text.now c.read_line.new.path.items c.read_line.result c.read_line.ensures.reads) in
    refused before c.args.self.now.number _ c.fault.result c.fault.ensures
    (misspelt_faulty before c.in-Ok-Some.text.now _ takes unread)

pub returns-in-Err-TooLong-clause-fault : goal.returns-in-Err-TooLong-clause-fault
returns-in-Err-TooLong-clause-fault g c =
    let before = prepend_known c.args.self.now.reader (g.S.Sink.view c.args.shelf.now).rest in
    refused before c.args.self.now.number _ c.fault-in-Err-TooLong.result c.fault-in-Err-TooLong.ensures
    (long_faulty before (c.in-Err-TooLong.ensures.too_long (ap Err c.in-Err-TooLong.field-0-is)))

pub returns-in-Err-Cut-clause-fault : goal.returns-in-Err-Cut-clause-fault
returns-in-Err-Cut-clause-fault g c =
    let before = prepend_known c.args.self.now.reader (g.S.Sink.view c.args.shelf.now).rest in
    refused before c.args.self.now.number _ c.fault-in-Err-Cut.result c.fault-in-Err-Cut.ensures
    (cut_faulty before (c.in-Err-Cut.ensures.cut (ap Err c.in-Err-Cut.field-0-is)))
