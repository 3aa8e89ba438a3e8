use Rattle.std.proofs.Common.{Ok, ap, length, ◌∙◌, refl, rules, arith}
use Rattle.qc_motion.proofs.LineLemmas.{all_written, crane_cut, crane_next, none_written}
use Rattle.qc_freemove.proofs.lines.write_free_tracks.Goals as goal

pub loop-number-init : goal.loop-number-init
loop-number-init g c = record { lines = none_written (search rules); room = refl }

pub loop-number-preserved : goal.loop-number-preserved
loop-number-preserved g c = record {
  lines = crane_next c.loop-number.invariant.lines c.cranes-crane-items.ensures.cranes c.loop-number-test.true
      c.crane-item.is c.points.ensures c.free_waypoints.ensures.points
      (Ok tt) c.in_ok-put_crane.ensures;
  room = c.free_waypoints.ensures.room ∙ c.loop-number.invariant.room;
}

pub returns-in_err-put_crane-clause-writes : goal.returns-in_err-put_crane-clause-writes
returns-in_err-put_crane-clause-writes g c =
    crane_cut c.loop-number.invariant.lines c.cranes-crane-items.ensures.cranes c.loop-number-test.true
    c.crane-item.is c.points.ensures c.free_waypoints.ensures.points
    c.from_residual.result c.from_residual.ensures.0 c.in_err-put_crane.ensures

pub returns-clause-writes : goal.returns-clause-writes
returns-clause-writes g c =
    all_written c.loop-number.invariant.lines
    (omega (arith, c.loop-number-test.false, ap length c.cranes-crane-items.ensures.cranes))
