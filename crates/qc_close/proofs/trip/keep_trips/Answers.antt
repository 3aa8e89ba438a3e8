use Rattle.std.proofs.Common.{List, ℕ, ◌≡◌, ◌∙◌, ap, arith, get_or, length, sym, subst}
use Rattle.qc_close.specs.Trips.{AreTogether, trip_of}
use Rattle.qc_close.proofs.TripLemmas.{AreKept, all_kept, few_spots, one_kept, together}
use Rattle.qc_close.proofs.trip.keep_trips.Goals as goal

pub first_at-first-requires-clause-together : goal.first_at-first-requires-clause-together
first_at-first-requires-clause-together c =
    let s = c.requires.spots in
    subst (λ (xs : List ℕ). AreTogether xs) (sym c.as_slice-of_task.ensures.value)
    (together c.args.inst.now c.crane_count-count.ensures.valid c.args.spots.now.bays.items s.bays c.args.spots.now.of_task.items s.of_task)

pub trip_at-requires-clause-together : goal.trip_at-requires-clause-together
trip_at-requires-clause-together c =
    let s = c.requires.spots in
    subst (λ (xs : List ℕ). AreTogether xs) (sym c.as_slice-of_task.ensures.value)
    (together c.args.inst.now c.crane_count-count.ensures.valid c.args.spots.now.bays.items s.bays c.args.spots.now.of_task.items s.of_task)

pub index_mut-requires : goal.index_mut-requires
index_mut-requires c =
    let s = c.requires.spots in
    let few = few_spots c.args.inst.now c.crane_count-count.ensures.valid c.args.spots.now.bays.items s.bays c.args.spots.now.of_task.items s.of_task
    c.args.task c.requires.task in
    let read = ap (λ (xs : List ℕ). get_or xs c.args.task 0) c.as_slice-of_task.ensures.value in
    omega (
      arith,
      few,
      read,
      c.loop-crane.invariant.many,
      c.loop-crane-test.true,
      c.crane_count-count.ensures.bound,
    )

pub loop-crane-preserved : goal.loop-crane-preserved
loop-crane-preserved c =
    let inst = c.args.inst.now in
    let s = c.requires.spots in
    let few = few_spots inst c.crane_count-count.ensures.valid c.args.spots.now.bays.items s.bays c.args.spots.now.of_task.items s.of_task
    c.args.task c.requires.task in
    let read = ap (λ (xs : List ℕ). get_or xs c.args.task 0) c.as_slice-of_task.ensures.value in
    let of_task = c.as_slice-of_task.result.now in
    one_kept (λ w. trip_of inst c.args.cranes.now of_task w (get_or of_task c.args.task 0)) _ c.loop-crane.trips.cells.items
    (get_or of_task c.args.task 0) c.loop-crane.crane c.trip_at.result c.loop-crane.invariant (omega (arith, few, read))
    (omega (arith, c.loop-crane-test.true, c.crane_count-count.ensures.bound))
    (c.trip_at.ensures ∙ ap (λ k. trip_of inst c.args.cranes.now of_task c.loop-crane.crane k) c.first_at-first.ensures.same)

pub returns : goal.returns
returns c = λ olds crane was changes.
    let inst = c.args.inst.now in
    let s = c.requires.spots in
    let spots = c.args.spots.now.of_task.items in
    let few = few_spots inst c.crane_count-count.ensures.valid c.args.spots.now.bays.items s.bays spots s.of_task
    c.args.task c.requires.task in
    let end : c.loop-crane.crane ≡ length inst.cranes = omega (arith, c.loop-crane-test.false, c.loop-crane.auto.crane-end, c.crane_count-count.ensures.count) in
    all_kept inst olds c.args.cranes.now spots c.args.trips.now c.loop-crane.trips c.args.task crane few was changes
    (subst (λ (xs : List ℕ). AreKept (λ w. trip_of inst c.args.cranes.now xs w (get_or xs c.args.task 0)) c.args.trips.now.cells.items c.loop-crane.trips.cells.items (get_or xs c.args.task 0) (length inst.cranes)) c.as_slice-of_task.ensures.value
    (subst (AreKept _ c.args.trips.now.cells.items c.loop-crane.trips.cells.items _) end c.loop-crane.invariant))
