use Rattle.std.proofs.Common.{◌≡◌, ◌∙◌, ap, sym, to_z, of_z, w32, arith}
use Rattle.std.proofs.lemmas.Int.{ints}
use Rattle.qc_dispatch.specs.Course.{is_waiting, stage_of}
use Rattle.qc_dispatch.specs.Following.{journal_of}
use Rattle.qc_model.specs.Instance.{InstanceView, task}
use Rattle.qc_rest.specs.Remaining.{over_at}
use Rattle.qc_rest.specs.RestOf.{task_in}
use Rattle.qc_rest.proofs.KeptLemmas.{kept_same, kept_step}
use Rattle.qc_rest.proofs.MakingLemmas.{task_is}
use Rattle.qc_rest.proofs.instance.tasks_in.Goals as goal
use Rattle.qc_rest.proofs.instance.tasks_in.Goals.{then-is_left+in_ok-push, else-is_left}

pub loop-j-preserved : goal.loop-j-preserved
loop-j-preserved c =
    let work = c.args.journal.now.dispatch in
    let over = over_at (journal_of c.args.journal.now) in
    elim c.if-is_left.branch [
      | then-is_left+in_ok-push w ↦
          let at : to_z w32 (of_z w32 w.task.result.bay) ≡ w.task.result.bay = omega (arith, ints, w.task.ensures.on_rail.0, w.task.ensures.on_rail.1) in
          rw w.tasks-is (kept_step (λ i. is_waiting (stage_of work i)) (task_in work over) c.loop-j.j _ _ _ (sym c.is_left.ensures ∙ w.if-is_left.true)
          (task_is work over c.loop-j.j w.release_in.result (to_z w32 (of_z w32 w.task.result.bay)) w.task.result at w.release_in.ensures
          (w.task.ensures.task ∙ ap (λ (i : InstanceView). task i c.loop-j.j) w.instance-then-is_left.ensures))
          c.loop-j.invariant w.in_ok-push.ensures.items)
      | else-is_left w ↦
          rw w.tasks-is (kept_same (λ i. is_waiting (stage_of work i)) (task_in work over) c.loop-j.j _ (sym c.is_left.ensures ∙ w.if-is_left.false) c.loop-j.invariant)
    ]
