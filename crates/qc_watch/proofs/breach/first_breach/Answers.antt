use Rattle.std.proofs.Common.{arith, refl}
use Rattle.qc_watch.proofs.Judged.{breach_of, clear_till, not_safe, safe_over}
use Rattle.qc_watch.proofs.breach.first_breach.Goals as goal

pub loop-at-init : goal.loop-at-init
loop-at-init c = record {
  cut = c.start-cursors.ensures.cut;
  clear = λ t time before. absurd (omega (arith, c.start-cursors.ensures.tick, before));
}

pub loop-at-preserved : goal.loop-at-preserved
loop-at-preserved c = record {
  cut = c.passed-cursors.ensures.cut;
  clear = λ t time before.
      clear_till c.args.ship.now c.args.reports.now c.in-Some.at c.places-places.result c.requires c.places-places.ensures.places
      c.loop-at.cursors.tick c.in-Some.ensures.time c.loop-at.invariant.clear c.in_default-near_pair.ensures
      t time (omega (arith, c.passed-cursors.ensures.tick, before));
}

pub returns-in-Some-near_pair-clause-first : goal.returns-in-Some-near_pair-clause-first
returns-in-Some-near_pair-clause-first c =
    breach_of c.args.ship.now c.args.reports.now c.in-Some.at c.places-places.result c.requires c.places-places.ensures.places
    c.in-Some.ensures.reports c.loop-at.cursors.tick c.in-Some-near_pair.first c.in-Some-near_pair.second c.in-Some.ensures.time c.loop-at.invariant.clear c.in-Some-near_pair.ensures

pub returns-in-Some-near_pair-clause-safe : goal.returns-in-Some-near_pair-clause-safe
unfolding returns-in-Some-near_pair-clause-first
returns-in-Some-near_pair-clause-safe c = (
  λ e. absurd (cc e),
  λ safe. absurd (not_safe c.args.ship.now c.args.reports.now c.in-Some.ensures.reports c.requires _ (returns-in-Some-near_pair-clause-first c) safe),
)

pub returns-clause-safe : goal.returns-clause-safe
returns-clause-safe c = (
  λ _. safe_over c.args.ship.now c.args.reports.now c.in_default.ensures.reports c.requires c.loop-at.cursors.tick c.in_default.ensures.time c.loop-at.invariant.clear,
  λ _. refl,
)
