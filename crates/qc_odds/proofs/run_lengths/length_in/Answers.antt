use Rattle.qc_odds.proofs.PoolLemmas.{picked_past}
use Rattle.qc_odds.proofs.run_lengths.length_in.Goals as goal

pub as_long_as-requires-clause-past : goal.as_long_as-requires-clause-past
as_long_as-requires-clause-past c = rw c.pick.ensures (picked_past c.args.task.now c.args.call.now c.draw-number.result c.requires.some c.requires.past)
