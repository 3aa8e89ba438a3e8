use Rattle.std.proofs.Common.{ap, arith, pos, ◌+◌, ◌*◌, ◌∙◌}
use Rattle.std.proofs.lemmas.Int.{ints}
use Rattle.std.proofs.lemmas.List.{get_or_read}
use Rattle.qc_close.specs.Bars.{past_bars}
use Rattle.qc_close.specs.declared.bars.Bars.{Bars}
use Rattle.qc_close.proofs.StretchLemmas.{above_low, above_soon, below_low, done_inside, done_outside, lower_low, small_between, upper_low}
use Rattle.qc_close.proofs.barred.done_in.Goals as goal

pub returns-then-not-lie_in : goal.returns-then-not-lie_in
returns-then-not-lie_in c = λ cranes k own.
    let s = c.args.spots.now in
    let within = c.requires.high in
    let one = get_or_read s.bays.items c.args.low c.index.result.now (omega (arith, c.requires.low, within)) c.index.ensures (pos 0) in
    let two = get_or_read s.bays.items c.args.high c.index-2.result.now within c.index-2.ensures (pos 0) in
    let near = k.spots.bays.along.on_ship c.args.low (omega (arith, c.requires.low, within)) in
    let far = k.spots.bays.along.on_ship c.args.high within in
    done_outside c.args.inst.now cranes s c.args.table.now c.args.place k c.args.low c.args.high c.requires.low within c.args.turn
    _ _ (omega (arith, ints, one, near.0, near.1)) (omega (arith, ints, two, far.0, far.1)) c.lie_in.result c.lie_in.ensures c.if-not-lie_in.true

pub index-above-requires : goal.index-above-requires
index-above-requires c =
    let k = c.requires.known.1 in
    let within = c.requires.high in
    let at = get_or_read c.args.spots.now.near_to.items c.args.low c.index-3.result.now
    (omega (arith, c.requires.low, within, k.spots.near_to.many)) c.index-3.ensures 0 in
    let low = upper_low c.args.inst.now c.requires.known.0 c.args.spots.now c.args.table.now c.args.place k c.args.low c.args.high
    c.requires.low within c.index-3.result.now at in
    omega (arith, low, c.args.table.now.before.ok.0)

pub index-below-requires : goal.index-below-requires
index-below-requires c =
    let k = c.requires.known.1 in
    let within = c.requires.high in
    let at = get_or_read c.args.spots.now.near_from.items c.args.high c.index-4.result.now
    (omega (arith, within, k.spots.near_from.many)) c.index-4.ensures 0 in
    let low = lower_low c.args.inst.now c.requires.known.0 c.args.spots.now c.args.table.now c.args.place k c.args.low c.args.high
    c.requires.low within c.index-4.result.now at in
    omega (arith, low, c.args.table.now.from.ok.0)

pub joined-requires-clause-one : goal.joined-requires-clause-one
joined-requires-clause-one c =
    let s = c.args.spots.now in
    let t = c.args.table.now in
    let p = c.args.place in
    let k = c.requires.known.1 in
    let within = c.requires.high in
    let n = c.index-3.result.now in
    let at = get_or_read s.near_to.items c.args.low n (omega (arith, c.requires.low, within, k.spots.near_to.many)) c.index-3.ensures 0 in
    let low = upper_low c.args.inst.now c.requires.known.0 s t p k c.args.low c.args.high c.requires.low within n at in
    let read = get_or_read t.before.items (241 * (p.crane + 2) + n) c.index-above.result.now low c.index-above.ensures past_bars in
    omega (arith, ap (λ (b : Bars). b.ticks) read, above_low c.args.inst.now c.requires.known.0 s t p k c.args.low c.args.high c.requires.low within n at)

pub joined-requires-clause-other : goal.joined-requires-clause-other
joined-requires-clause-other c =
    let s = c.args.spots.now in
    let t = c.args.table.now in
    let p = c.args.place in
    let k = c.requires.known.1 in
    let within = c.requires.high in
    let n = c.index-4.result.now in
    let at = get_or_read s.near_from.items c.args.high n (omega (arith, within, k.spots.near_from.many)) c.index-4.ensures 0 in
    let low = lower_low c.args.inst.now c.requires.known.0 s t p k c.args.low c.args.high c.requires.low within n at in
    let read = get_or_read t.from.items (241 * p.crane + n) c.index-below.result.now low c.index-below.ensures past_bars in
    omega (arith, ap (λ (b : Bars). b.ticks) read, below_low c.args.inst.now c.requires.known.0 s t p k c.args.low c.args.high c.requires.low within n at)

pub both_done-requires-clause-own : goal.both_done-requires-clause-own
both_done-requires-clause-own c =
    small_between c.args.inst.now c.requires.known.0 c.args.spots.now c.args.table.now c.args.place c.requires.known.1 c.args.low
    c.args.high c.requires.low c.requires.high c.args.own c.requires.known.2

pub both_done-requires-clause-ticks : goal.both_done-requires-clause-ticks
both_done-requires-clause-ticks c =
    let s = c.args.spots.now in
    let t = c.args.table.now in
    let p = c.args.place in
    let k = c.requires.known.1 in
    let within = c.requires.high in
    let n = c.index-3.result.now in
    let m = c.index-4.result.now in
    let up = get_or_read s.near_to.items c.args.low n (omega (arith, c.requires.low, within, k.spots.near_to.many)) c.index-3.ensures 0 in
    let down = get_or_read s.near_from.items c.args.high m (omega (arith, within, k.spots.near_from.many)) c.index-4.ensures 0 in
    let one = get_or_read t.before.items (241 * (p.crane + 2) + n) c.index-above.result.now
    (upper_low c.args.inst.now c.requires.known.0 s t p k c.args.low c.args.high c.requires.low within n up) c.index-above.ensures past_bars in
    let two = get_or_read t.from.items (241 * p.crane + m) c.index-below.result.now
    (lower_low c.args.inst.now c.requires.known.0 s t p k c.args.low c.args.high c.requires.low within m down) c.index-below.ensures past_bars in
    omega (
      arith,
      ap (λ (b : Bars). b.ticks) c.joined.ensures,
      ap (λ (b : Bars). b.ticks) one,
      ap (λ (b : Bars). b.ticks) two,
      above_low c.args.inst.now c.requires.known.0 s t p k c.args.low c.args.high c.requires.low within n up,
      below_low c.args.inst.now c.requires.known.0 s t p k c.args.low c.args.high c.requires.low within m down,
    )

pub both_done-requires-clause-soonest : goal.both_done-requires-clause-soonest
both_done-requires-clause-soonest c =
    let s = c.args.spots.now in
    let t = c.args.table.now in
    let p = c.args.place in
    let k = c.requires.known.1 in
    let within = c.requires.high in
    let n = c.index-3.result.now in
    let up = get_or_read s.near_to.items c.args.low n (omega (arith, c.requires.low, within, k.spots.near_to.many)) c.index-3.ensures 0 in
    let one = get_or_read t.before.items (241 * (p.crane + 2) + n) c.index-above.result.now
    (upper_low c.args.inst.now c.requires.known.0 s t p k c.args.low c.args.high c.requires.low within n up) c.index-above.ensures past_bars in
    omega (
      arith,
      ap (λ (b : Bars). b.soonest) c.joined.ensures,
      ap (λ (b : Bars). b.soonest) one,
      above_soon c.args.inst.now c.requires.known.0 s t p k c.args.low c.args.high c.requires.low within n up,
    )

pub returns : goal.returns
returns c = λ cranes k own.
    let s = c.args.spots.now in
    let t = c.args.table.now in
    let p = c.args.place in
    let within = c.requires.high in
    let n = c.index-3.result.now in
    let m = c.index-4.result.now in
    let one = get_or_read s.bays.items c.args.low c.index.result.now (omega (arith, c.requires.low, within)) c.index.ensures (pos 0) in
    let two = get_or_read s.bays.items c.args.high c.index-2.result.now within c.index-2.ensures (pos 0) in
    let up = get_or_read s.near_to.items c.args.low n (omega (arith, c.requires.low, within, k.spots.near_to.many)) c.index-3.ensures 0 in
    let down = get_or_read s.near_from.items c.args.high m (omega (arith, within, k.spots.near_from.many)) c.index-4.ensures 0 in
    let above = get_or_read t.before.items (241 * (p.crane + 2) + n) c.index-above.result.now
    (upper_low c.args.inst.now cranes s t p k c.args.low c.args.high c.requires.low within n up) c.index-above.ensures past_bars in
    let below = get_or_read t.from.items (241 * p.crane + m) c.index-below.result.now
    (lower_low c.args.inst.now cranes s t p k c.args.low c.args.high c.requires.low within m down) c.index-below.ensures past_bars in
    let near = k.spots.bays.along.on_ship c.args.low (omega (arith, c.requires.low, within)) in
    let far = k.spots.bays.along.on_ship c.args.high within in
    c.both_done.ensures
    ∙ done_inside c.args.inst.now cranes s t p k c.args.low c.args.high c.requires.low within c.args.turn
    _ _ (omega (arith, ints, one, near.0, near.1)) (omega (arith, ints, two, far.0, far.1)) c.lie_in.result c.lie_in.ensures
    c.if-not-lie_in.false n m up down c.args.own own c.index-above.result.now c.index-below.result.now above below c.joined.result c.joined.ensures
