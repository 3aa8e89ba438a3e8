use Rattle.qc_dispatch.specs.Following.{journal_of}
use Rattle.qc_rest.specs.Remaining.{over_at}
use Rattle.std.proofs.Common.{rules}
use Rattle.qc_rest.proofs.LatestLemmas.{stands_at}
use Rattle.qc_rest.proofs.stands.stand_of.Goals as goal

pub returns-in-Some : goal.returns-in-Some
returns-in-Some c =
    stands_at c.args.journal.now.dispatch (over_at (journal_of c.args.journal.now)) c.args.crane c.in-Some.task c.in-Some.ensures _ (search rules)
