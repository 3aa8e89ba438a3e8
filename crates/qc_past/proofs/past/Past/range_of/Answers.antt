use Rattle.std.proofs.Common.{arith}
use Rattle.qc_past.proofs.StartLemmas.{starts_before, starts_rise}
use Rattle.qc_past.proofs.past.Past.range_of.Goals as goal

pub overflow_add-number : goal.overflow_add-number
overflow_add-number c = omega (arith, (starts_rise c.args.self.now).few, c.tasks-tasks.ensures.past.count)

pub returns-clause-some : goal.returns-clause-some
returns-clause-some c = rw (c.start_of.ensures, c.start_of-2.ensures) (starts_before c.args.self.now c.args.number c.requires).0

pub returns-clause-inside : goal.returns-clause-inside
returns-clause-inside c = rw c.start_of-2.ensures (starts_before c.args.self.now c.args.number c.requires).1
