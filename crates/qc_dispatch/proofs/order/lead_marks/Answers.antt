use Rattle.std.proofs.Common.{◌≡◌, ◌*◌, ℕ, length, subst, arith}
use Rattle.qc_dispatch.proofs.TableLemmas.{MarksBelow, marks_all, marks_more}
use Rattle.qc_dispatch.proofs.order.lead_marks.Goals as goal

pub loop-at-preserved : goal.loop-at-preserved
loop-at-preserved c =
    rw c.in_ok-push.ensures.items (marks_more c.args.inst.now c.args.slots.now c.loop-at.at c.loop-at.marks.items c.mark_at.result c.loop-at.invariant c.mark_at.ensures)

pub returns : goal.returns
returns c =
    let all : c.loop-at.at ≡ length c.args.inst.now.tasks * 240 =
    omega (arith, c.task_count-at-end.ensures.count, c.loop-at-test.false, c.loop-at.auto) in
    marks_all c.args.inst.now c.args.slots.now c.loop-at.marks.items (omega (arith, c.task_count-at-end.ensures.bound, c.task_count-at-end.ensures.count))
    (subst (λ (n : ℕ). MarksBelow c.args.inst.now c.args.slots.now n c.loop-at.marks.items) all c.loop-at.invariant)
