use Rattle.qc_dispatch.specs.Following.{journal_of}
use Rattle.qc_rest.specs.Known.{IsLatest}
use Rattle.qc_rest.specs.Remaining.{over_at}
use Rattle.qc_rest.proofs.stands.last_of.Given as goal

abbrev pub invariant-loop-task : goal.invariant-loop-task
invariant-loop-task l = IsLatest l.journal.dispatch (over_at (journal_of l.journal)) l.crane l.task l.last
