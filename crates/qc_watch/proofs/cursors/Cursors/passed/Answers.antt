use Rattle.std.proofs.Common.{◌∙◌, ◌+◌, length-set, arith}
use Rattle.qc_watch.specs.Cursors.{IsCut}
use Rattle.qc_watch.specs.Reports.{reports_of}
use Rattle.qc_watch.proofs.Arrays.{set_more}
use Rattle.qc_watch.proofs.Soonest.{one_list}
use Rattle.qc_watch.proofs.cursors.Cursors.passed.Goals as goal

pub passed-requires-clause-list : goal.passed-requires-clause-list
passed-requires-clause-list c =
    rw c.of.ensures.list (one_list c.args.reports.now c.of.ensures.reports c.loop-crane.crane (omega (arith, c.loop-crane-test.true, c.cranes-crane-end.ensures.cranes)))

pub loop-crane-preserved : goal.loop-crane-preserved
loop-crane-preserved c = record {
  size = length-set c.loop-crane.next c.loop-crane.crane c.passed.result ∙ c.loop-crane.invariant.size;
  passed =
      set_more c.loop-crane.next c.loop-crane.crane c.passed.result 0 (omega (arith, c.loop-crane.invariant.size, c.loop-crane-test.true, c.cranes-crane-end.ensures.cranes, c.cranes-crane-end.ensures.reports.cranes))
      (λ k n. IsCut (reports_of c.args.reports.now k) n (c.args.tick + 1)) c.loop-crane.invariant.passed (rw (← c.of.ensures.list) c.passed.ensures);
}
