use Rattle.std.proofs.Common.{arith}
use Rattle.std.proofs.lemmas.Int.{ints}
use Rattle.qc_freemove.proofs.change.gain.Goals as goal

pub returns-clause-gain : goal.returns-clause-gain
returns-clause-gain c = omega (arith, ints, c.requires.near, c.requires.other_near)

pub returns-clause-small : goal.returns-clause-small
returns-clause-small c = (
  omega (arith, ints, c.requires.near, c.requires.other_near),
  omega (arith, ints, c.requires.near, c.requires.other_near),
)
