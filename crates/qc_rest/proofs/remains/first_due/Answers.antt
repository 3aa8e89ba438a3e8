use Rattle.std.proofs.Common.{inl, inr, subst, length, ap, arith}
use Rattle.std.proofs.lemmas.Bool.{cases_eq, iff_false}
use Rattle.qc_dispatch.specs.Following.{journal_of}
use Rattle.qc_model.specs.Instance.{InstanceView}
use Rattle.qc_rest.specs.Remaining.{IsDue}
use Rattle.qc_rest.proofs.LatestLemmas.{none_due}
use Rattle.qc_rest.proofs.remains.first_due.Goals as goal

pub returns-then-is_due-clause-first : goal.returns-then-is_due-clause-first
returns-then-is_due-clause-first c = record {
  task = omega (arith, c.loop-task-test.true, c.task_count-task-end.ensures.count, ap (λ (i : InstanceView). length i.tasks) c.instance.ensures);
  due = c.is_due.ensures.0 c.if-is_due.true;
  lowest = c.loop-task.invariant;
}

pub loop-task-preserved : goal.loop-task-preserved
loop-task-preserved c = λ h low due. elim (cases_eq h c.loop-task.task) [
  | inl same ↦ iff_false c.is_due.ensures c.if-is_due.false (subst (IsDue (journal_of c.args.journal.now)) same due)
  | inr other ↦ c.loop-task.invariant h (omega arith) due
]

pub returns-clause-none : goal.returns-clause-none
returns-clause-none c = none_due (journal_of c.args.journal.now) c.requires.known (λ i low.
    c.loop-task.invariant i (omega (arith, low, c.loop-task-test.false, c.task_count-task-end.ensures.count, ap (λ (i : InstanceView). length i.tasks) c.instance.ensures)))
