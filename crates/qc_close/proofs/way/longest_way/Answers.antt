use Rattle.std.proofs.Common.{◌<◌, ◌+◌, ◌*◌, ap, arith, length, subst, sym}
use Rattle.std.proofs.lemmas.List.{get_or_read}
use Rattle.qc_close.specs.Model.{Trip, Way}
use Rattle.qc_close.specs.Trips.{at_spot, no_trip}
use Rattle.qc_close.proofs.LongestLemmas.{IsFollowed, follow_all, follow_none, follow_with}
use Rattle.qc_close.proofs.TripLemmas.{trip_wide}
use Rattle.qc_close.proofs.way.longest_way.Goals as goal

pub loop-spot-init : goal.loop-spot-init
loop-spot-init c = λ turn cranes m low high own.
    subst (λ (u : Way). IsFollowed c.args.inst.now turn cranes c.args.crane c.args.spots.now.bays.items u 0) (sym own)
    (follow_none c.args.inst.now turn cranes c.args.crane c.args.spots.now.bays.items)

pub longer_with-way-requires : goal.longer_with-way-requires
longer_with-way-requires c =
    let cranes = c.requires.known.0 in
    let m = c.requires.known.1 in
    let inst = c.args.inst.now in
    let k = c.loop-spot.spot in
    let w = c.args.crane in
    let few = m.spots.bays.along.few in
    let cell = m.kept.each w k c.requires.crane (omega (arith, c.loop-spot-test.true, c.len-spot-end.ensures, few)) in
    let read = get_or_read c.args.trips.now.cells.items (240 * w + k) c.index-trip.result.now
    (omega (arith, m.kept.many, c.requires.crane, m.valid.cranes.count.1, c.loop-spot-test.true, c.len-spot-end.ensures, few)) c.index-trip.ensures no_trip in
    let wide = trip_wide inst m.valid w c.requires.crane cranes m.range (at_spot c.args.spots.now.of_task.items k) in
    omega (arith, wide.bays, ap (λ (t : Trip). t.bays) cell, ap (λ (t : Trip). t.bays) read)

pub loop-spot-preserved : goal.loop-spot-preserved
loop-spot-preserved c = λ turn cranes m low high own.
    let inst = c.args.inst.now in
    let spots = c.args.spots.now in
    let k = c.loop-spot.spot in
    let w = c.args.crane in
    let in_k : c.loop-spot.spot < length c.args.spots.now.bays.items = omega (arith, c.loop-spot-test.true, c.len-spot-end.ensures) in
    let few = m.spots.bays.along.few in
    let read = get_or_read c.args.trips.now.cells.items (240 * w + k) c.index-trip.result.now
    (omega (arith, m.kept.many, c.requires.crane, m.valid.cranes.count.1, in_k, few)) c.index-trip.ensures no_trip in
    follow_with inst m.valid spots m.spots cranes turn w c.requires.crane c.args.trips.now m.kept c.loop-spot.way k in_k
    (c.loop-spot.invariant turn cranes m low high own) c.args.usual.low c.args.usual.high low high c.index-trip.result.now read
    c.longer_with-way.result c.longer_with-way.ensures.idle c.longer_with-way.ensures.goes

pub returns : goal.returns
returns c = λ turn cranes m low high own.
    follow_all c.args.inst.now m.valid c.args.spots.now m.spots cranes turn c.args.crane c.requires.crane c.args.trips.now m.kept
    c.loop-spot.way c.loop-spot.spot (omega (arith, c.loop-spot-test.false, c.loop-spot.auto.spot-end, c.len-spot-end.ensures))
    (c.loop-spot.invariant turn cranes m low high own)
