use Rattle.std.proofs.Common.{arith}
use Rattle.qc_rest.proofs.PassLemmas.{due_all, due_first, due_more}
use Rattle.qc_rest.proofs.pass.due.Goals as goal

pub loop-i-init : goal.loop-i-init
loop-i-init c = record {
  is = due_first c.args.inst.now c.args.slots.now c.args.ends.now c.args.first c.args.j;
  soon = λ base from ends. omega (arith, from);
}

pub loop-i-preserved : goal.loop-i-preserved
loop-i-preserved c = record {
  is = due_more c.args.inst.now c.args.slots.now c.args.ends.now c.args.first c.args.j c.loop-i.i c.loop-i.due c.let_by.result c.max-due.result
      c.let_by.ensures.moment
      (λ moment. (λ le. (omega (arith, le, c.max-due.ensures), omega (arith, le, c.max-due.ensures)), λ both. omega (arith, both.0, both.1, c.max-due.ensures)))
      c.loop-i.invariant.is;
  soon = λ base from ends. omega (arith, c.max-due.ensures, c.loop-i.invariant.soon base from ends, c.let_by.ensures.soon base ends);
}

pub returns-clause-start : goal.returns-clause-start
returns-clause-start c =
    due_all c.args.inst.now c.args.slots.now c.args.ends.now c.args.first c.args.j c.loop-i.i c.loop-i.due
    (omega (arith, c.loop-i-test.false, c.task_count-i-end.ensures.count)) c.loop-i.invariant.is
