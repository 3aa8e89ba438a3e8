use Rattle.std.proofs.Common.{◌≡◌, ◌+◌, ◌-◌, ℕ, length, sum_by, ap, ◌∙◌, arith}
use Rattle.std.specs.List.{range_with_len}
use Rattle.qc_motion.specs.Waypoints.{waypoint}
use Rattle.qc_figures.specs.Figures.{leg}
use Rattle.qc_figures.proofs.TallyLemmas.{sum_next}
use Rattle.qc_figures.proofs.WayLemmas.{leg_within, rises}
use Rattle.qc_figures.proofs.figured.moving.Goals as goal

pub loop-number-preserved : goal.loop-number-preserved
loop-number-preserved c =
    let points = c.args.points.now in
    let n = c.loop-number.number - 1 in
    let f = λ (i : ℕ). leg c.args.from c.args.till (waypoint points i) (waypoint points (i + 1)) in
    let at : c.loop-number.number ≡ n + 1 = omega (arith, c.loop-number.auto.number) in
    let next : c.loop-number.number + 1 - 1 ≡ n + 1 = omega (arith, c.loop-number.auto.number) in
    let here = c.leg-time.ensures ∙ ap (λ (i : ℕ). leg c.args.from c.args.till (waypoint points n) (waypoint points i)) at in
    let r = rises points c.requires.rising n (omega (arith, at, c.loop-number-test.true)) in
    let w = leg_within c.args.from c.args.till (waypoint points n) (waypoint points (n + 1)) (omega (arith, r)) in
    record {
      legs = omega (arith, c.loop-number.invariant.legs, here, sum_next f n, ap (λ (i : ℕ). sum_by f (range_with_len 0 i)) next);
      within = omega (arith, c.loop-number.invariant.within, here, w, ap (λ (i : ℕ). (waypoint points i).at) next);
      passed = omega (arith, c.loop-number-test.true, at);
    }

pub returns : goal.returns
returns c =
    let points = c.args.points.now in
    let f = λ (i : ℕ). leg c.args.from c.args.till (waypoint points i) (waypoint points (i + 1)) in
    let end : c.loop-number.number - 1 ≡ length points - 1 = omega (arith, c.loop-number-test.false, c.loop-number.auto.number, c.loop-number.invariant.passed) in
    c.loop-number.invariant.legs ∙ ap (λ (i : ℕ). sum_by f (range_with_len 0 i)) end
