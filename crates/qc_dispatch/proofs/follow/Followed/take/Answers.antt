use Rattle.std.proofs.Common.{refl, sym, arith}
use Rattle.qc_dispatch.specs.Following.{journal_of}
use Rattle.qc_dispatch.proofs.LogLemmas.{line_fault, told_idle}
use Rattle.qc_dispatch.proofs.follow.Followed.take.Goals as goal

pub returns-in-Err-NotRunning-clause-taken : goal.returns-in-Err-NotRunning-clause-taken
returns-in-Err-NotRunning-clause-taken c =
    let taken = rw c.in-Err-NotRunning.field-0-is at c.in-Err-NotRunning.ensures.taken in
    let read = rw c.instance.ensures at c.in-Ok.ensures.report in
    rw c.fault-in-Err-NotRunning.ensures
    (told_idle (journal_of c.args.self.now) c.args.before c.args.line.now c.in-Ok.report (omega (arith, c.requires.few, c.if-before-eq-MOST_LINES.false)) (sym read) taken, refl)

pub returns-in-Err-clause-taken : goal.returns-in-Err-clause-taken
returns-in-Err-clause-taken c =
    let read = rw c.instance.ensures at c.in-Err.ensures.report in
    rw c.fault-in-Err.ensures
    (line_fault (journal_of c.args.self.now) c.args.before c.args.line.now c.in-Err.kind (omega (arith, c.requires.few, c.if-before-eq-MOST_LINES.false)) (sym read), refl)
