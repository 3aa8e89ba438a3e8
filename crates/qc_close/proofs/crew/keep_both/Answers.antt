use Rattle.std.proofs.Common.{List, Option, ℕ, length, subst, sym, ap, ◌∙◌}
use Rattle.qc_model.specs.Assignments.{AreInRange}
use Rattle.qc_close.specs.Bars.{Changes, IsTable}
use Rattle.qc_close.specs.Spots.{AreSoonest}
use Rattle.qc_close.specs.Trips.{AreTrips}
use Rattle.qc_close.proofs.crew.keep_both.Goals as goal

pub keep_table-requires-clause-count : goal.keep_table-requires-clause-count
keep_table-requires-clause-count c = ap length c.as_slice-list.ensures.value ∙ c.requires.count

pub keep_table-requires-clause-spots : goal.keep_table-requires-clause-spots
keep_table-requires-clause-spots c = c.requires.spots

pub keep_table-requires-clause-soonest : goal.keep_table-requires-clause-soonest
keep_table-requires-clause-soonest c =
    subst (AreSoonest c.args.inst.now c.as_slice-list.result.now) (sym c.as_slice.ensures.value)
    (subst (λ (cs : List (Option ℕ)). AreSoonest c.args.inst.now cs c.args.soonest.now.items) (sym c.as_slice-list.ensures.value) c.requires.soonest)

pub keep_table-requires-clause-task : goal.keep_table-requires-clause-task
keep_table-requires-clause-task c = c.requires.task

pub keep_table-requires-clause-crane : goal.keep_table-requires-clause-crane
keep_table-requires-clause-crane c = c.requires.crane

pub keep_table-requires-clause-was : goal.keep_table-requires-clause-was
keep_table-requires-clause-was c =
    let was = c.requires.was in (
      was.0,
      was.1,
      subst (λ (cs : List (Option ℕ)). Changes was.0 cs c.args.task c.args.crane) (sym c.as_slice-list.ensures.value) was.3,
    )

pub keep_trips-requires-clause-count : goal.keep_trips-requires-clause-count
keep_trips-requires-clause-count c = ap length c.as_slice-list.ensures.value ∙ c.requires.count

pub keep_trips-requires-clause-range : goal.keep_trips-requires-clause-range
keep_trips-requires-clause-range c = subst (AreInRange c.args.inst.now) (sym c.as_slice-list.ensures.value) c.requires.range

pub keep_trips-requires-clause-spots : goal.keep_trips-requires-clause-spots
keep_trips-requires-clause-spots c = c.requires.spots

pub keep_trips-requires-clause-task : goal.keep_trips-requires-clause-task
keep_trips-requires-clause-task c = c.requires.task

pub keep_trips-requires-clause-many : goal.keep_trips-requires-clause-many
keep_trips-requires-clause-many c = c.requires.was.2.many

pub returns : goal.returns
returns c = λ olds table trips changes.
    let same = c.as_slice-list.ensures.value in
    let inst = c.args.inst.now in
    let moved = subst (λ (cs : List (Option ℕ)). Changes olds cs c.args.task c.args.crane) (sym same) changes in (
      subst (λ (cs : List (Option ℕ)). IsTable inst cs c.args.spots.now c.keep_table.new.table) same (c.keep_table.ensures olds table moved),
      subst (λ (cs : List (Option ℕ)). AreTrips inst cs c.args.spots.now.of_task.items c.keep_trips.new.trips) same
          (c.keep_trips.ensures olds c.args.crane trips moved),
    )
