use Rattle.std.proofs.Common.{[], arith}
use Rattle.qc_tree.proofs.OneSpelling.{field_is, work_only}
use Rattle.qc_tree.proofs.reading.read_work.Goals as goal

pub returns-then-value-eq0 : goal.returns-then-value-eq0
returns-then-value-eq0 c = λ line list h.
    let only = work_only c.args.rest.now list line h in
    let one = field_is c.args.rest.now 15 c.in-Some.value only.0 [] [] (omega arith) c.in-Some.ensures only.4.small tt only.4.same in
    omega (arith, one.0, only.3, c.if-value-eq0.true)
