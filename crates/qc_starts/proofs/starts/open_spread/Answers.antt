use Rattle.std.proofs.Common.{arith}
use Rattle.std.proofs.lemmas.Grind.{common_steps}
use Rattle.qc_starts.proofs.starts.open_spread.Goals as goal

pub place_all-requires-clause-placed : goal.place_all-requires-clause-placed
place_all-requires-clause-placed c = grind (arith, common_steps)

pub returns-clause-sized : goal.returns-clause-sized
returns-clause-sized c = grind (arith, common_steps)
