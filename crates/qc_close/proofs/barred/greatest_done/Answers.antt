use Rattle.std.proofs.Common.{Option, IfSome, false, eqb, is_none, sym, subst, arith}
use Rattle.std.specs.Option.{option_map_or}
use Rattle.qc_close.specs.Model.{MOST_TASKS, crane_in}
use Rattle.qc_close.specs.Bars.{stretch}
use Rattle.qc_close.specs.Owns.{IsSmall}
use Rattle.qc_close.specs.declared.frames.Own.{Own}
use Rattle.qc_close.proofs.PlaceLemmas.{next_greatest, own_along, swept_nothing}
use Rattle.qc_close.proofs.StretchLemmas.{high_in, own_low, spots_order, swept_all}
use Rattle.qc_close.proofs.barred.greatest_done.Goals as goal

pub skipped-step-requires-clause-rising : goal.skipped-step-requires-clause-rising
skipped-step-requires-clause-rising c = c.requires.known.1.spots.bays.along.rising

pub skipped-step-requires-clause-before : goal.skipped-step-requires-clause-before
skipped-step-requires-clause-before c = c.requires.known.1.spots.before

pub skipped-step-requires-clause-order : goal.skipped-step-requires-clause-order
skipped-step-requires-clause-order c = c.requires.known.1.order

pub skipped-step-requires-clause-within : goal.skipped-step-requires-clause-within
skipped-step-requires-clause-within c = c.requires.known.1.within

pub skipped-step-requires-clause-left : goal.skipped-step-requires-clause-left
skipped-step-requires-clause-left c =
    let cranes = c.requires.known.0 in
    let k = c.requires.known.1 in
    subst (λ (l : Option Own). IfSome l (IsSmall MOST_TASKS)) (sym k.left)
    (own_low c.args.inst.now k.valid cranes c.args.spots.now k.spots (λ j. is_none (crane_in cranes j)))

pub skipped-step-requires-clause-own : goal.skipped-step-requires-clause-own
skipped-step-requires-clause-own c =
    let cranes = c.requires.known.0 in
    let k = c.requires.known.1 in
    subst (λ (l : Option Own). IfSome l (IsSmall MOST_TASKS)) (sym k.own_is)
    (own_low c.args.inst.now k.valid cranes c.args.spots.now k.spots (λ j. option_map_or (λ w. eqb w c.args.place.crane) (crane_in cranes j) false))

pub loop-step-init : goal.loop-step-init
loop-step-init c = λ cranes k.
    swept_nothing c.args.inst.now cranes c.args.spots.now c.args.table.now c.args.place k c.args.turn c.skipped-step.result
    c.skipped-step.ensures.few c.args.way c.args.gone c.skipped-step.ensures.none

pub sum_along-requires-clause-before : goal.sum_along-requires-clause-before
sum_along-requires-clause-before c = c.requires.known.1.table.befores.many

pub sum_along-requires-clause-from : goal.sum_along-requires-clause-from
sum_along-requires-clause-from c = c.requires.known.1.table.froms.many

pub sum_along-requires-clause-crane : goal.sum_along-requires-clause-crane
sum_along-requires-clause-crane c =
    let k = c.requires.known.1 in
    omega (arith, k.crane, k.valid.cranes.count.1)

pub sum_along-requires-clause-low : goal.sum_along-requires-clause-low
sum_along-requires-clause-low c =
    let k = c.requires.known.1 in
    let p = c.args.place in
    let order = spots_order p c.loop-step.step c.loop-step-test.true k.order c.args.way in
    let inside = high_in p c.loop-step.step c.loop-step-test.true k.order c.args.way in
    omega (arith, c.low_spot-low.ensures, order, inside, k.within, k.spots.bays.along.few)

pub sum_along-requires-clause-high : goal.sum_along-requires-clause-high
sum_along-requires-clause-high c =
    let k = c.requires.known.1 in
    let inside = high_in c.args.place c.loop-step.step c.loop-step-test.true k.order c.args.way in
    omega (arith, c.high_spot-high.ensures, inside, k.within, k.spots.bays.along.few)

pub done_in-requires-clause-known : goal.done_in-requires-clause-known
done_in-requires-clause-known c =
    let cranes = c.requires.known.0 in
    let k = c.requires.known.1 in (
      cranes,
      k,
      own_along c.args.inst.now cranes c.args.spots.now c.args.table.now c.args.place k c.loop-step.step c.loop-step-test.true c.args.way
          c.low_spot-low.result c.high_spot-high.result c.low_spot-low.ensures c.high_spot-high.ensures c.sum_along.result
          c.sum_along.ensures c.own_in-own.result c.own_in-own.ensures,
    )

pub loop-step-preserved : goal.loop-step-preserved
loop-step-preserved c = λ cranes k.
    let own = own_along c.args.inst.now cranes c.args.spots.now c.args.table.now c.args.place k c.loop-step.step c.loop-step-test.true c.args.way
    c.low_spot-low.result c.high_spot-high.result c.low_spot-low.ensures c.high_spot-high.ensures c.sum_along.result
    c.sum_along.ensures c.own_in-own.result c.own_in-own.ensures in
    next_greatest c.args.inst.now cranes c.args.spots.now c.args.table.now c.args.place k c.args.way c.loop-step.step
    c.loop-step-test.true c.args.turn c.args.gone c.loop-step.greatest c.done_in.result c.max-greatest.result c.low_spot-low.result
    c.high_spot-high.result c.low_spot-low.ensures c.high_spot-high.ensures (c.done_in.ensures cranes k own)
    c.max-greatest.ensures (c.loop-step.invariant cranes k)

pub returns : goal.returns
returns c = λ cranes k.
    swept_all c.args.way c.args.place k.order (stretch c.args.inst.now c.args.turn cranes c.args.spots.now c.args.place c.args.way)
    c.args.gone c.loop-step.greatest c.loop-step.step
    (omega (arith, c.loop-step-test.false, c.loop-step.auto.step-end, c.skipped-step.ensures.few)) (c.loop-step.invariant cranes k)
