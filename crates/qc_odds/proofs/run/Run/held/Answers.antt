use Rattle.std.proofs.Common.{arith}
use Rattle.qc_dist.proofs.Ranges.{sum_more}
use Rattle.qc_odds.specs.Runs.{held, held_at}
use Rattle.qc_odds.proofs.run.Run.held.Goals as goal

pub loop-j-preserved : goal.loop-j-preserved
loop-j-preserved c = record {
  so_far = omega (arith, sum_more (held_at c.args.self.now.inst c.args.self.now.plan c.args.self.now.lengths c.args.self.now.starts c.args.crane) c.loop-j.j);
  bound = omega arith;
}

pub returns-clause-ticks : goal.returns-clause-ticks
unfolding held
returns-clause-ticks c = grind (arith)
