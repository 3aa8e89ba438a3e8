use Rattle.std.proofs.Common.{arith}
use Rattle.qc_past.proofs.StartLemmas.{some_start, starts_rise}
use Rattle.qc_past.proofs.past.Past.call_count.Goals as goal

pub overflow_cast-result : goal.overflow_cast-result
overflow_cast-result c =
    let few = (starts_rise c.self.inside.tasks.items).few in
    let starts = rw (← c.self.invariant.starts_are) at few in
    omega (arith, starts, c.self.invariant.past.count)

pub returns-clause-some : goal.returns-clause-some
returns-clause-some c =
    let some = some_start c.self.inside.tasks.items c.self.invariant.past.some in
    let starts = rw (← c.self.invariant.starts_are) at some in
    omega (arith, starts)
