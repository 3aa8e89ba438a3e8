use Rattle.qc_odds.proofs.SumLemmas.{runs_told, sums_small}
use Rattle.qc_odds.proofs.simulation.Simulation.close.Goals as goal

pub returns : goal.returns
returns c = λ past inst plan seed count room few is. (
  runs_told past inst plan seed room count c.args.self.odds c.close.new.self is.runs few c.close.ensures.sorted c.close.ensures.same c.close.ensures.cranes
      c.close.ensures.tasks c.close.ensures.worst,
  sums_small past inst plan seed room count c.args.self.odds c.close.new.self is.runs few c.close.ensures.sorted c.close.ensures.same c.close.ensures.cranes
      c.close.ensures.tasks c.close.ensures.worst,
)
