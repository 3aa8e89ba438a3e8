use Rattle.std.proofs.Common.{arith}
use Rattle.qc_dist.proofs.Ranges.{greatest_more}
use Rattle.qc_odds.specs.Runs.{there, there_from}
use Rattle.qc_odds.proofs.run.Run.there.Goals as goal

pub loop-i-preserved : goal.loop-i-preserved
loop-i-preserved c =
    let run = c.args.self.now in
    omega (arith, greatest_more (there_from run.inst run.plan run.lengths run.starts c.args.j) c.loop-i.i)

pub returns : goal.returns
unfolding there
returns c = grind (arith)
