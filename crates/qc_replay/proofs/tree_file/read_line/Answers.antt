use Rattle.std.proofs.Common.{◌≡◌, ◌+◌, ◌∙◌, ap, Err, subst, sym}
use Rattle.std.specs.Io.KnownBytes.{prepend_known}
use Rattle.qc_tree.specs.declared.fault.TreeFault.{TreeFault}
use Rattle.qc_replay.specs.File.{Leads}
use Rattle.qc_replay.specs.Read.{with_line}
use Rattle.qc_replay.specs.Stages.{leading}
use Rattle.qc_replay.proofs.FileFacts.{fault_told}
use Rattle.qc_replay.proofs.StepFacts.{faulty_here, led_here, refused_here}
use Rattle.qc_replay.proofs.tree_file.read_line.Goals as goal

pub returns-in_err-line-clause-fault : goal.returns-in_err-line-clause-fault
returns-in_err-line-clause-fault g c = λ fault is.
    let e = rw is at c.from_residual.ensures.1 in
    let here = c.in_err-line.ensures.fault fault (ap Err (sym e)) in (
      here.0,
      faulty_here c.args.walk.now.inst c.args.lines.now.number c.args.walk.now.reading
          (prepend_known c.args.lines.now.reader (g.S.Sink.view c.args.shelf.now).rest) c.requires.due fault here,
    )

pub returns-in-Ok-clause-read : goal.returns-in-Ok-clause-read
returns-in-Ok-clause-read g c =
    let inst = c.args.walk.now.inst in
    let r = c.args.walk.now.reading in
    let taken = subst (λ list. with_line inst r (record { line = c.in_ok-line.line; list = list }) ≡ leading (λ _. c.take.new.self.reading) c.take.result)
    c.as_slice.ensures c.take.ensures.taken in
    let before = prepend_known c.args.lines.now.reader (g.S.Sink.view c.args.shelf.now).rest in
    let after = prepend_known c.next.new.self.reader (g.S.Sink.view c.next.new.shelf).rest in
    subst (λ k. Leads inst c.args.lines.now.number r before k c.take.new.self.reading after)
    (sym (ap (λ n. n + 1) c.in_ok-line.ensures.number))
    (led_here inst c.args.lines.now.number r before c.in_ok-line.line c.next.new.self.path.items after
    c.in_ok-line.ensures.next c.take.new.self.reading (taken ∙ ap (leading (λ _. c.take.new.self.reading)) c.in-Ok.is))

pub returns-in-Ok-clause-one : goal.returns-in-Ok-clause-one
returns-in-Ok-clause-one g c = (_, c.take.ensures.taken ∙ ap (leading (λ _. c.take.new.self.reading)) c.in-Ok.is)

pub returns-in-Err-clause-fault : goal.returns-in-Err-clause-fault
returns-in-Err-clause-fault g c = λ fault is.
    let inst = c.args.walk.now.inst in
    let r = c.args.walk.now.reading in
    let taken = subst (λ list. with_line inst r (record { line = c.in_ok-line.line; list = list }) ≡ leading (λ _. c.take.new.self.reading) c.take.result)
    c.as_slice.ensures c.take.ensures.taken in
    let before = prepend_known c.args.lines.now.reader (g.S.Sink.view c.args.shelf.now).rest in
    let after = prepend_known c.next.new.self.reader (g.S.Sink.view c.next.new.shelf).rest in
    let one = fault_told c.fault.result fault c.next.new.self.number c.in-Err.kind c.fault.ensures is in
    let number = sym (ap (λ (f : TreeFault). f.line) one) ∙ c.in_ok-line.ensures.number in (
      number,
      refused_here inst c.args.lines.now.number r before c.in_ok-line.line c.next.new.self.path.items after
          c.in_ok-line.ensures.next fault number
          (taken ∙ ap (leading (λ _. c.take.new.self.reading)) c.in-Err.is ∙ ap (λ (f : TreeFault). Err f.kind) one),
    )
