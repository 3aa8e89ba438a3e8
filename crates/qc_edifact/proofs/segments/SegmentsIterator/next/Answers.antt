use Rattle.std.proofs.Common.{arith}
use Rattle.qc_edifact.proofs.SegmentLemmas.{segment-comes}
use Rattle.qc_edifact.proofs.segments.SegmentsIterator.next.Goals as goal

pub returns-clause-steps : goal.returns-clause-steps
returns-clause-steps c =
    rw c.of.ensures
    (segment-comes c.self.inside.signs c.self.inside.text.now c.in-Some.piece.now c.in-Some.rest.now c.skip_blanks-bytes.result.now c.args.self.now
    c.self.view_is c.in-Some.ensures c.skip_blanks-bytes.ensures.skipped c.if-bytes-gt-MOST_BYTES.false)

pub returns-clause-goes : goal.returns-clause-goes
returns-clause-goes c = rw (returns-clause-steps c) (record { on = λ _. (tt, tt, omega arith); keeps = tt; rests = λ _. tt })
