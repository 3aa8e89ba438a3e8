use Rattle.std.proofs.Common.{◌+◌, arith}
use Rattle.qc_freemove.specs.FreeSweep.{floor_place, hold_count, hold_of}
use Rattle.qc_freemove.proofs.SteadyLemmas.{below_read, even_of, hold_below, read, steady_next, steady_read}
use Rattle.qc_freemove.proofs.Tops.{highest_first, highest_most}
use Rattle.qc_freemove.proofs.sweep.Sweep.next_change.Goals as goal

pub passing-next-requires-clause-below : goal.passing-next-requires-clause-below
passing-next-requires-clause-below c =
    let it = c.args.self.now in
    let m = c.args.at in
    let floor = c.floor_place-floor.ensures in (
      below_read _ _ _ _ floor.place c.place.ensures.place floor.near c.place.ensures.near
          (highest_first (hold_of it) (floor_place it) m (hold_count it)),
      below_read _ _ _ _ floor.place c.place-2.ensures.place floor.near c.place-2.ensures.near
          (highest_first (hold_of it) (floor_place it) (m + 1) (hold_count it)),
    )

pub hold_change-next-requires-clause-below : goal.hold_change-next-requires-clause-below
hold_change-next-requires-clause-below c =
    let it = c.args.self.now in
    let m = c.args.at in
    let n = c.loop-number.number in
    let is = c.hold.ensures.is in (
      hold_below _ _ m _ _ is c.place.ensures.place c.place.ensures.near
          (highest_most (hold_of it) (floor_place it) m (hold_count it) n (omega arith)),
      hold_below _ _ (m + 1) _ _ is c.place-2.ensures.place c.place-2.ensures.near
          (highest_most (hold_of it) (floor_place it) (m + 1) (hold_count it) n (omega arith)),
    )

pub loop-number-preserved : goal.loop-number-preserved
loop-number-preserved c =
    let it = c.args.self.now in
    let m = c.args.at in
    let e = c.hold_change-next.ensures in
    steady_next it m c.loop-number.number c.args.end _ _ c.loop-number.invariant e.onward e.within
    (steady_read _ _ m _ _ _ _ _ c.hold.ensures.is (read _ _ c.place.ensures.place c.place.ensures.near)
    (read _ _ c.place-2.ensures.place c.place-2.ensures.near) e.steady)

pub returns : goal.returns
returns c =
    even_of c.args.self.now c.args.at c.loop-number.number c.args.end _ c.floor_place-floor.ensures.sound (omega arith)
    c.loop-number.invariant
