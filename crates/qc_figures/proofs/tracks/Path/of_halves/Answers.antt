use Rattle.std.proofs.Common.{arith}
use Rattle.std.proofs.lemmas.Grind.{common_steps}
use Rattle.qc_figures.proofs.tracks.Path.of_halves.Goals as goal

pub loop-half-preserved : goal.loop-half-preserved
loop-half-preserved c = grind (arith, common_steps)

pub returns : goal.returns
returns c = grind (arith, common_steps)
