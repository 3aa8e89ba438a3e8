use Rattle.std.proofs.Common.{◌≡◌, ℕ, length, replicate, slice_index, ap, sym, ◌∙◌, arith}
use Rattle.std.proofs.lemmas.Grind.{get_or_default_zero}
use Rattle.qc_model.specs.Rules.{no_slot}
use Rattle.qc_model.specs.Instance.{InstanceView}
use Rattle.qc_rest.specs.Progress.{number_of}
use Rattle.qc_rest.proofs.FollowLemmas.{left_here, more_order, no_order, number_low, order_is, same_order, slot_is}
use Rattle.qc_rest.proofs.order.order_of.Goals as goal
use Rattle.qc_rest.proofs.order.order_of.Goals.{then-is_left, else-is_left}

pub loop-task-init : goal.loop-task-init
loop-task-init c =
    no_order c.args.journal.now.dispatch c.args.rest.now c.in_ok-starts.starts.items c.requires.known.keeps _
    (c.in_ok-order.ensures ∙ ap (λ (n : ℕ). replicate n no_slot) (c.task_count.ensures.count ∙ c.requires.tasks))

pub set-requires : goal.set-requires
set-requires c =
    let is = left_here c.args.journal.now.dispatch c.loop-task.task (omega (arith, c.loop-task-test.true, c.task_count-task-end.ensures.count, ap (λ (i : InstanceView). length i.tasks) c.instance.ensures))
    (sym c.is_left.ensures ∙ c.if-is_left.true) in
    let low = number_low c.args.journal.now.dispatch c.args.rest.now c.in_ok-starts.starts.items c.requires.known.keeps c.loop-task.task is in
    omega (arith, low, c.loop-task.invariant.count, c.requires.numbers.each_one c.loop-task.task is.task)

pub loop-task-preserved : goal.loop-task-preserved
loop-task-preserved c =
    let work = c.args.journal.now.dispatch in
    let starts = c.in_ok-starts.starts.items in
    let task = c.loop-task.task in
    elim c.if-is_left.branch [
      | then-is_left w ↦
          let is = left_here work task (omega (arith, c.loop-task-test.true, c.task_count-task-end.ensures.count, ap (λ (i : InstanceView). length i.tasks) c.instance.ensures)) (sym c.is_left.ensures ∙ w.if-is_left.true) in
          let at : slice_index c.args.numbers.now task ≡ number_of work task = c.requires.numbers.each_one task is.task in
          rw (w.order-is, w.set.ensures, at) (more_order work c.args.rest.now starts c.requires.known.keeps task c.loop-task.order _ is
          (slot_is work c.args.slots.now starts task w.index.result.now c.requires.plan
          (w.index.ensures ∙ get_or_default_zero starts task w.index.result.now (omega (arith, is.task, c.in_ok-starts.ensures.count)))) (omega (arith, c.in_ok-starts.ensures.soon task)) c.loop-task.invariant)
      | else-is_left w ↦
          rw w.order-is (same_order work c.args.rest.now starts c.requires.known.keeps task c.loop-task.order (sym c.is_left.ensures ∙ w.if-is_left.false) c.loop-task.invariant)
    ]

pub returns-clause-order : goal.returns-clause-order
returns-clause-order c =
    order_is c.args.journal.now.dispatch c.args.rest.now c.in_ok-starts.starts.items c.requires.known.keeps c.loop-task.task c.loop-task.order
    (omega (arith, c.loop-task-test.false, c.task_count-task-end.ensures.count, ap (λ (i : InstanceView). length i.tasks) c.instance.ensures)) c.loop-task.invariant c.in_ok-starts.ensures.followed

pub returns-clause-soon : goal.returns-clause-soon
returns-clause-soon c = record { each_one = c.loop-task.invariant.early }
