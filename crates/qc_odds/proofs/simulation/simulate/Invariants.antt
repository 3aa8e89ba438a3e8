use Rattle.std.proofs.Common.{◌≡◌}
use Rattle.qc_odds.specs.Simulated.{IsSimulated}
use Rattle.qc_odds.proofs.simulation.simulate.Given as goal

abbrev pub invariant-loop-before : goal.invariant-loop-before
invariant-loop-before g l = record {
  runs_are : IsSimulated l.past l.inst l.plan l.seed l.before l.runs l.simulation;
  view_stays : g.S.Sink.view l.shelf ≡ g.S.Sink.view l.fn.shelf;
}
