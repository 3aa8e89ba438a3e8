use Rattle.std.proofs.Common.{arith}
use Rattle.qc_dist.proofs.Ranges.{greatest_more}
use Rattle.qc_dispatch.specs.Following.{journal_of}
use Rattle.qc_rest.specs.Remaining.{over_at}
use Rattle.qc_rest.specs.RestOf.{held_by}
use Rattle.qc_rest.proofs.instance.release_in.Goals as goal

pub loop-i-preserved : goal.loop-i-preserved
loop-i-preserved c =
    omega (
      arith,
      greatest_more (held_by c.args.journal.now.dispatch (over_at (journal_of c.args.journal.now)) c.args.j) c.loop-i.i,
      c.loop-i.invariant,
      c.held_by.ensures,
      c.max-held.ensures,
    )
