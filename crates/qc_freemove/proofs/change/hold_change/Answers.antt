use Rattle.std.proofs.Common.{◌+◌, arith}
use Rattle.std.proofs.lemmas.Int.{ints}
use Rattle.qc_freemove.specs.FreeSweep.{held}
use Rattle.qc_freemove.proofs.SteadyLemmas.{outside_sooner, unpassed_read}
use Rattle.qc_freemove.proofs.change.hold_change.Goals as goal

pub returns-clause-steady : goal.returns-clause-steady
returns-clause-steady c =
    let hold = c.args.hold in
    let m = c.args.at in
    let within = c.passing.ensures.within in
    let first = c.event-first.ensures in
    record {
      from = outside_sooner m _ _ hold.from (omega (arith, within, first.within)) c.event.ensures.outside;
      until = outside_sooner m _ _ hold.until within first.outside;
      below = unpassed_read m _ _ _ _ _ (held hold m) (held hold (m + 1))
          (omega (arith, ints, c.at.ensures.place, c.at.ensures.near))
          (omega (arith, ints, c.at-2.ensures.place, c.at-2.ensures.near)) c.passing.ensures.below;
    }
