use Rattle.std.proofs.Common.{◌∙◌, sym, subst, length, ap, arith}
use Rattle.qc_model.specs.Instance.{InstanceView}
use Rattle.qc_rest.proofs.MakingLemmas.{AreNumbersFor, all_numbers, no_numbers, number_begun, number_left}
use Rattle.qc_rest.proofs.instance.numbers_of.Goals as goal
use Rattle.qc_rest.proofs.instance.numbers_of.Goals.{then-is_left, else-is_left}

pub loop-j-init : goal.loop-j-init
loop-j-init c = subst (AreNumbersFor c.args.journal.now.dispatch 0 0) (sym c.new-numbers.ensures.items) (no_numbers c.args.journal.now.dispatch)

pub loop-j-preserved : goal.loop-j-preserved
loop-j-preserved c =
    let work = c.args.journal.now.dispatch in
    elim c.if-is_left.branch [
      | then-is_left w ↦
          rw w.number-is (number_left work c.loop-j.j c.loop-j.number c.loop-j.numbers.items _
          (omega (arith, c.loop-j-test.true, c.task_count-j-end.ensures.count, ap (λ (i : InstanceView). length i.tasks) c.instance.ensures, c.requires.known.keeps.stages)) c.loop-j.invariant c.in_ok-push.ensures.items
          (sym c.is_left.ensures ∙ w.if-is_left.true))
      | else-is_left w ↦
          rw w.number-is (number_begun work c.loop-j.j c.loop-j.number c.loop-j.numbers.items _
          (omega (arith, c.loop-j-test.true, c.task_count-j-end.ensures.count, ap (λ (i : InstanceView). length i.tasks) c.instance.ensures, c.requires.known.keeps.stages)) c.loop-j.invariant c.in_ok-push.ensures.items
          (sym c.is_left.ensures ∙ w.if-is_left.false))
    ]

pub returns : goal.returns
returns c =
    all_numbers c.args.journal.now.dispatch c.loop-j.j c.loop-j.number c.loop-j.numbers.items
    (omega (arith, c.loop-j-test.false, c.loop-j.auto.j-end, c.task_count-j-end.ensures.count, ap (λ (i : InstanceView). length i.tasks) c.instance.ensures)) c.loop-j.invariant
