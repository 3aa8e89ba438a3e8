use Rattle.std.proofs.Common.{◌∙◌, None, length-set, sym, arith}
use Rattle.qc_watch.specs.Cursors.{IsPlaceAt}
use Rattle.qc_watch.specs.Reports.{reports_of}
use Rattle.qc_watch.proofs.Arrays.{set_more, set_rest}
use Rattle.qc_watch.proofs.Soonest.{one_list}
use Rattle.qc_watch.proofs.cursors.Cursors.places.Goals as goal

pub place_at-requires-clause-list : goal.place_at-requires-clause-list
place_at-requires-clause-list c =
    rw c.of.ensures.list (one_list c.args.reports.now c.of.ensures.reports c.loop-crane.crane (omega (arith, c.loop-crane-test.true, c.cranes-crane-end.ensures.cranes)))

pub loop-crane-preserved : goal.loop-crane-preserved
loop-crane-preserved c = record {
  size = length-set c.loop-crane.places c.loop-crane.crane c.place_at.result ∙ c.loop-crane.invariant.size;
  stand =
      set_more c.loop-crane.places c.loop-crane.crane c.place_at.result None (omega (arith, c.loop-crane.invariant.size, c.loop-crane-test.true, c.cranes-crane-end.ensures.cranes, c.cranes-crane-end.ensures.reports.cranes))
      (λ k o. IsPlaceAt (reports_of c.args.reports.now k) c.args.tick o) c.loop-crane.invariant.stand (rw (← c.of.ensures.list) c.place_at.ensures);
  rest = λ k h.
      sym (set_rest c.loop-crane.places c.loop-crane.crane c.place_at.result None (omega (arith, c.loop-crane.invariant.size, c.loop-crane-test.true, c.cranes-crane-end.ensures.cranes, c.cranes-crane-end.ensures.reports.cranes)) k h) ∙ c.loop-crane.invariant.rest k (omega arith);
}
