use Rattle.std.proofs.Common.{arith}
use Rattle.qc_dist.proofs.Ranges.{greatest_more}
use Rattle.qc_odds.specs.Runs.{crane_end, end_on}
use Rattle.qc_odds.proofs.run.Run.crane_end.Goals as goal

pub loop-j-preserved : goal.loop-j-preserved
loop-j-preserved c = record {
  so_far = omega (arith, greatest_more (end_on c.args.self.now.plan c.args.self.now.lengths c.args.self.now.starts c.args.crane) c.loop-j.j);
  bound = omega arith;
}

pub returns-clause-ticks : goal.returns-clause-ticks
unfolding crane_end
returns-clause-ticks c = grind (arith)
