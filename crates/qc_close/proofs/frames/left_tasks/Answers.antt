use Rattle.std.proofs.Common.{◌≡◌, ℕ, ◌-◌, ◌<◌, Bool, true, false, not, Option, None, Some, ap, is_none, is_some, length, sym, ◌∙◌, arith}
use Rattle.qc_close.specs.Model.{crane_in, task}
use Rattle.qc_close.proofs.OwnLemmas.{own_next, own_skip}
use Rattle.qc_close.proofs.frames.left_tasks.Goals as goal
use Rattle.qc_close.proofs.frames.left_tasks.Goals.{then-is_none, else-is_none}

none_of : (o : Option ℕ) (b : Bool) → is_some o ≡ b → is_none o ≡ not b
none_of None b e = ap not e
none_of (Some k) b e = ap not e

pub loop-done-preserved : goal.loop-done-preserved
loop-done-preserved c =
    let inst = c.args.inst.now in
    let p = λ (j : ℕ). is_none (crane_in c.args.cranes.now j) in
    let low : c.loop-done.done < length inst.tasks = omega (arith, c.loop-done-test.true, c.task_count-count.ensures.count) in
    let at = ap (λ n. task inst (n - 1 - c.loop-done.done)) c.task_count-count.ensures.count in
    let test = ap (λ n. p (n - 1 - c.loop-done.done)) (sym c.task_count-count.ensures.count) in
    elim c.if-is_none.branch [
      | then-is_none w ↦
          own_next inst p (length inst.tasks) c.loop-done.done low c.loop-done.left c.if-is_none.left w.task.result c.loop-done.invariant
          (test ∙ none_of (crane_in c.args.cranes.now (c.task_count-count.result - 1 - c.loop-done.done)) false w.if-is_none.ensures) (w.task.ensures.task ∙ at) w.task.ensures.bound w.task.ensures.on_rail
          (w.left-is ∙ ap Some w.with_task.ensures)
      | else-is_none w ↦
          own_skip inst p (length inst.tasks) c.loop-done.done low c.loop-done.left c.if-is_none.left c.loop-done.invariant
          (test ∙ none_of (crane_in c.args.cranes.now (c.task_count-count.result - 1 - c.loop-done.done)) true w.if-is_none.ensures) w.left-is
    ]
