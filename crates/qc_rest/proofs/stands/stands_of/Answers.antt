use Rattle.std.proofs.Common.{arith}
use Rattle.qc_dispatch.specs.Following.{journal_of}
use Rattle.qc_rest.specs.Remaining.{over_at}
use Rattle.qc_rest.proofs.LatestLemmas.{more_stands}
use Rattle.qc_rest.proofs.stands.stands_of.Goals as goal

pub loop-crane-preserved : goal.loop-crane-preserved
loop-crane-preserved c = record {
  count = omega (arith, c.in_ok-push.ensures.len, c.loop-crane.invariant.count);
  each_one = more_stands c.args.journal.now.dispatch (over_at (journal_of c.args.journal.now)) c.loop-crane.crane c.loop-crane.stands.items _ c.stand_of.result
      c.loop-crane.invariant.count c.loop-crane.invariant.each_one c.stand_of.ensures c.in_ok-push.ensures.items;
}
