use Rattle.std.proofs.lemmas.Bool.{iff_false}
use Rattle.qc_dispatch.specs.Following.{journal_of}
use Rattle.qc_rest.specs.Remaining.{over_at}
use Rattle.qc_rest.proofs.LatestLemmas.{latest_found, latest_stays}
use Rattle.qc_rest.proofs.stands.last_of.Goals as goal
use Rattle.qc_rest.proofs.stands.last_of.Goals.{then-is_latest, else-is_latest}

pub loop-task-preserved : goal.loop-task-preserved
loop-task-preserved c = elim c.if-is_latest.branch [
  | then-is_latest w ↦
      let is = c.is_latest.ensures.0 w.if-is_latest.true in
      rw w.last-is (latest_found c.args.journal.now.dispatch (over_at (journal_of c.args.journal.now)) c.args.crane c.loop-task.task c.loop-task.last
      c.loop-task.invariant is.0 is.1)
  | else-is_latest w ↦
      rw w.last-is (latest_stays c.args.journal.now.dispatch (over_at (journal_of c.args.journal.now)) c.args.crane c.loop-task.task c.loop-task.last
      c.loop-task.invariant (iff_false c.is_latest.ensures w.if-is_latest.false))
]
