use Rattle.std.proofs.Common.{◌≡◌, ◌*◌, rules}
use Rattle.std.specs.Int.{div_ceil}
use Rattle.qc_odds.proofs.LengthLemmas.{stretched_few}
use Rattle.qc_odds.proofs.run_lengths.stretched.Goals as goal

pub returns-clause-few : goal.returns-clause-few
returns-clause-few c =
    let is : c.div_ceil.result ≡ div_ceil (c.args.ticks * c.args.real) c.args.planned = search rules in
    rw is (stretched_few c.args.ticks c.args.planned c.args.real c.requires.some c.requires.ticks c.requires.planned c.requires.real c.requires.unit)
