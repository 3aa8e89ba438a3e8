use Rattle.std.proofs.Common.{◌≡◌, ◌∙◌, Ok, ℕ, List, sym, ap, subst, arith, to_z, of_z, w32, pos, ◌+ℤ◌}
use Rattle.std.proofs.lemmas.Int.{ints}
use Rattle.qc_model.specs.Bays.{at_least_zero}
use Rattle.qc_model.specs.declared.pair.Pair.{Pair}
use Rattle.qc_model.specs.Instance.{IsPath, Valid}
use Rattle.qc_ship.specs.Ship.{greatest_place}
use Rattle.qc_tasks.specs.InstanceOf.{apart_of, before_of, tasks_of}
use Rattle.qc_tasks.proofs.TaskFacts.{few_tasks}
use Rattle.qc_tasks.proofs.ValidInstance.{bays_high, gap_high, same_instance, valid_instance}
use Rattle.qc_tasks.proofs.instance.tasks_of.Goals as goal

pub order_of-requires-clause-tasks : goal.order_of-requires-clause-tasks
order_of-requires-clause-tasks c = c.as_slice.ensures.value ∙ c.in_ok-tasks.ensures

pub order_of-requires-clause-moves : goal.order_of-requires-clause-moves
order_of-requires-clause-moves c = rw c.rows-rows.ensures.rows c.rows-rows.ensures.moves

pub pairs_apart-requires : goal.pairs_apart-requires
pairs_apart-requires c =
    let tasks : c.in_ok-tasks.tasks.items ≡ tasks_of c.args.ship.now c.rows-rows.result.now = c.in_ok-tasks.ensures in
    rw (c.as_slice-2.ensures.value, tasks) (few_tasks c.args.ship.now c.cranes.ensures.ship c.rows-rows.result.now)

pub of-requires : goal.of-requires
of-requires c =
    let ship = c.args.ship.now in
    let rows = c.args.moves.now in
    let is = c.bays.ensures.ship in
    let bays : to_z w32 (of_z w32 c.bays.result) ≡ pos (greatest_place ship) = omega (arith, ints, c.bays.ensures.bays, bays_high ship is) in
    let gap : to_z w32 (of_z w32 (to_z w32 (of_z w32 c.margin.result) +ℤ pos 1)) ≡ pos ship.gap = omega (arith, ints, c.margin.ensures.margin, gap_high ship is, is.times.gap) in
    let tasks : c.in_ok-tasks.tasks.items ≡ tasks_of ship rows = c.in_ok-tasks.ensures ∙ ap (tasks_of ship) c.rows-rows.ensures.rows in
    let cranes : c.in_ok-cranes.cranes.items ≡ ship.cranes = c.in_ok-cranes.ensures ∙ c.cranes.ensures.cranes in
    let order = rw c.rows-rows.ensures.rows at c.in_ok-before.ensures.order in
    let ringless : (i : ℕ) (via : List ℕ) → ¬ IsPath (before_of ship.ordered ship.before rows (tasks_of ship rows)) i via i =
    λ i via path. order.ringless i via (subst (λ (ps : List Pair). IsPath ps i via i) (sym order.is) path) in
    let apart : c.in_ok-apart.apart.items ≡ apart_of ship.apart c.in_ok-tasks.tasks.items = rw (c.apart.ensures.apart, c.as_slice-2.ensures.value) at c.in_ok-apart.ensures in
    let same = same_instance ship rows _ c.travel.result _ c.in_ok-tasks.tasks.items c.in_ok-cranes.cranes.items c.in_ok-before.before.items c.in_ok-apart.apart.items (ap at_least_zero bays) c.travel.ensures.travel (ap at_least_zero gap) tasks cranes order.is apart in
    subst Valid (sym same) (valid_instance ship is rows c.rows-rows.ensures.moves.count ringless)

pub returns-clause-instance : goal.returns-clause-instance
returns-clause-instance c =
    let ship = c.args.ship.now in
    let rows = c.args.moves.now in
    let is = c.bays.ensures.ship in
    let bays : to_z w32 (of_z w32 c.bays.result) ≡ pos (greatest_place ship) = omega (arith, ints, c.bays.ensures.bays, bays_high ship is) in
    let gap : to_z w32 (of_z w32 (to_z w32 (of_z w32 c.margin.result) +ℤ pos 1)) ≡ pos ship.gap = omega (arith, ints, c.margin.ensures.margin, gap_high ship is, is.times.gap) in
    let tasks : c.in_ok-tasks.tasks.items ≡ tasks_of ship rows = c.in_ok-tasks.ensures ∙ ap (tasks_of ship) c.rows-rows.ensures.rows in
    let cranes : c.in_ok-cranes.cranes.items ≡ ship.cranes = c.in_ok-cranes.ensures ∙ c.cranes.ensures.cranes in
    let order = rw c.rows-rows.ensures.rows at c.in_ok-before.ensures.order in
    let apart : c.in_ok-apart.apart.items ≡ apart_of ship.apart c.in_ok-tasks.tasks.items = rw (c.apart.ensures.apart, c.as_slice-2.ensures.value) at c.in_ok-apart.ensures in
    c.of.ensures ∙ same_instance ship rows _ c.travel.result _ c.in_ok-tasks.tasks.items c.in_ok-cranes.cranes.items c.in_ok-before.before.items c.in_ok-apart.apart.items (ap at_least_zero bays) c.travel.ensures.travel (ap at_least_zero gap) tasks cranes order.is apart

pub returns-clause-due : goal.returns-clause-due
unfolding returns-clause-instance
returns-clause-due c =
    let order = rw c.rows-rows.ensures.rows at c.in_ok-before.ensures.order in
    order.due ∙ ap Ok (sym (returns-clause-instance c))
