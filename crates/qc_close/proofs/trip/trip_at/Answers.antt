use Rattle.std.proofs.lemmas.Grind.{common_steps}
use Rattle.std.proofs.Common.{◌<◌, ◌+◌, ◌∙◌, ap, arith, eqb, filter, get_or, length, nat_lt, refl, sym, subst}
use Rattle.std.proofs.lemmas.Bool.{and_parts, ltb-true, ne_eqb}
use Rattle.qc_close.specs.Model.{Task, Trip, crane_in, bay_of, crane, trip_along, trip_for, trip_from, task_numbers}
use Rattle.qc_close.specs.Trips.{IsWideTrip, at_spot}
use Rattle.qc_close.proofs.TripLemmas.{berth_wide, from_task, more_wide, none_behind, rail_same, task_rail, task_wide, trip_begins, trip_ends, trip_goes}
use Rattle.qc_close.proofs.trip.trip_at.Goals as goal

pub going-init : goal.going-init
going-init c =
    let inst = c.args.inst.now in
    let cranes = c.args.cranes.now in
    let spots = c.args.spots.now in
    let w = c.args.crane in
    let first = c.args.first in
    let spot = get_or spots first 0 in
    let bay = rail_same c.post.result.bay (crane inst w).bay c.post.ensures.on_rail c.post.ensures.bay in
    let is = c.trip_from-trip.ensures ∙ ap trip_from bay in
    record {
      behind = omega arith;
      within = omega (arith, c.requires.within);
      wide = more_wide inst c.post.ensures.valid w c.requires.crane 0 first c.trip_from-trip.result (omega arith)
          (subst (IsWideTrip 0) (sym is) (berth_wide inst c.post.ensures.valid w c.requires.crane));
      spot = refl;
      goes = trip_begins inst cranes w (at_spot spots spot) c.trip_from-trip.result first (omega (arith, c.requires.within))
          (λ j low. ne_eqb (get_or spots j 0) spot (c.requires.first j low))
          ∙ ap (λ (t : Trip). trip_along inst cranes w t (filter (at_spot spots spot) (task_numbers inst))) is;
    }

pub trip_for-trip-requires-clause-other : goal.trip_for-trip-requires-clause-other
trip_for-trip-requires-clause-other c = c.requires.range c.going.task

pub going-preserved : goal.going-preserved
going-preserved c =
    let inst = c.args.inst.now in
    let cranes = c.args.cranes.now in
    let spots = c.args.spots.now in
    let w = c.args.crane in
    let i = c.going.task in
    let spot = get_or spots c.args.first 0 in
    let k = c.going.invariant in
    let both = and_parts (nat_lt i (length spots)) (eqb (get_or spots i 0) spot) (sym c.lies_at.ensures ∙ c.going-test.true) in
    let low : i < length inst.tasks = omega (arith, ltb-true i (length spots) both.0, c.requires.spots) in
    let bay = rail_same c.task-bay.result.bay (bay_of inst i) c.task-bay.ensures.on_rail (ap (λ (t : Task). t.bay) c.task-bay.ensures.task) in
    let is = c.trip_for-trip.ensures ∙ ap (λ y. trip_for inst w y (crane_in cranes i) c.going.trip) bay in
    record {
      behind = omega (arith, k.behind);
      within = omega (arith, low);
      wide = subst (IsWideTrip (i + 1)) (sym is)
          (task_wide inst c.post.ensures.valid w c.requires.crane i (bay_of inst i) (crane_in cranes i) c.going.trip
          (task_rail inst c.post.ensures.valid w c.requires.crane i low) (c.requires.range i) k.wide);
      spot = k.spot;
      goes = ap (λ (t : Trip). from_task inst cranes w (at_spot spots spot) t (i + 1)) is
          ∙ trip_goes inst cranes w (at_spot spots spot) c.going.trip i low both.1 ∙ k.goes;
    }

pub returns : goal.returns
returns c =
    let inst = c.args.inst.now in
    let spots = c.args.spots.now in
    let spot = get_or spots c.args.first 0 in
    let k = c.going.invariant in
    sym (trip_ends inst c.args.cranes.now c.args.crane (at_spot spots spot) c.going.trip c.going.task (λ j behind low.
    none_behind spots c.requires.together c.args.first c.going.task spot k.behind k.spot
    (sym c.lies_at.ensures ∙ c.going-test.false) j behind (omega (arith, low, c.requires.spots))))
    ∙ k.goes

pub going-smaller : goal.going-smaller
going-smaller c = grind (arith, common_steps)

pub bounds-cranes-task : goal.bounds-cranes-task
bounds-cranes-task c = grind (arith, common_steps)
