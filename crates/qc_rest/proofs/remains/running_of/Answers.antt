use Rattle.std.proofs.Common.{◌∙◌, ap, sym}
use Rattle.qc_dispatch.specs.Course.{is_running, stage_of}
use Rattle.qc_dispatch.specs.Following.{journal_of}
use Rattle.qc_model.specs.declared.schedule.Slot.{Slot}
use Rattle.qc_model.specs.Rules.{crane_of}
use Rattle.std.proofs.Common.{List}
use Rattle.qc_rest.specs.Remaining.{still_runs}
use Rattle.qc_rest.proofs.KeptLemmas.{kept_same, kept_step}
use Rattle.qc_rest.proofs.LatestLemmas.{told_is}
use Rattle.qc_rest.proofs.remains.running_of.Goals as goal
use Rattle.qc_rest.proofs.remains.running_of.Goals.{then-runs+in_ok-push, else-runs}

pub loop-task-preserved : goal.loop-task-preserved
loop-task-preserved c = elim c.if-runs.branch [
  | then-runs+in_ok-push w ↦
      rw w.running-is (kept_step (λ i. is_running (stage_of c.args.journal.now.dispatch i)) (still_runs (journal_of c.args.journal.now)) c.loop-task.task
      _ _ _ (sym c.runs.ensures ∙ w.if-runs.true)
      (told_is (journal_of c.args.journal.now) c.loop-task.task _ _ (ap (λ (xs : List Slot). crane_of xs c.loop-task.task) c.requires.plan) w.remaining.ensures.ticks)
      c.loop-task.invariant w.in_ok-push.ensures.items)
  | else-runs w ↦
      rw w.running-is (kept_same (λ i. is_running (stage_of c.args.journal.now.dispatch i)) (still_runs (journal_of c.args.journal.now)) c.loop-task.task
      _ (sym c.runs.ensures ∙ w.if-runs.false) c.loop-task.invariant)
]
