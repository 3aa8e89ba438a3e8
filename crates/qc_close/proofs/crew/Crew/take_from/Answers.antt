use Rattle.std.proofs.Common.{◌<◌, None, length, is_none, ap, ◌∙◌, arith, rules}
use Rattle.std.proofs.lemmas.List.{length-set}
use Rattle.qc_model.specs.Assignments.{crane_in}
use Rattle.qc_close.specs.Crews.{CrewView}
use Rattle.qc_close.proofs.KeptLemmas.{bay_inside, no_crane_some, range_set, take_changes, take_fits, take_left, take_soonest}
use Rattle.qc_close.proofs.crew.Crew.take_from.Goals as goal

pub index_mut-requires : goal.index_mut-requires
index_mut-requires c =
    let k = c.self.invariant in
    let f = c.self.inside in
    let low : c.args.task < length f.inst.tasks = omega (arith, ap (λ (v : CrewView). length v.inst.tasks) c.self.view_is, c.requires.task) in
    omega (
      arith,
      bay_inside f.inst k.valid f.cranes.items f.left.items k.left c.args.task low c.task-open.result c.task-open.ensures.task,
      f.left.ok.0,
    )

pub index-requires : goal.index-requires
index-requires c =
    let k = c.self.invariant in
    let f = c.self.inside in
    let low : c.args.task < length f.inst.tasks = omega (arith, ap (λ (v : CrewView). length v.inst.tasks) c.self.view_is, c.requires.task) in
    omega (
      arith,
      bay_inside f.inst k.valid f.cranes.items f.left.items k.left c.args.task low c.task-open.result c.task-open.ensures.task,
      f.left.ok.0,
    )

pub overflow_add-index : goal.overflow_add-index
overflow_add-index c =
    let k = c.self.invariant in
    let f = c.self.inside in
    let low : c.args.task < length f.inst.tasks = omega (arith, ap (λ (v : CrewView). length v.inst.tasks) c.self.view_is, c.requires.task) in
    omega (
      arith,
      take_fits f.inst k.valid f.cranes.items f.left.items k.left c.args.task low k.count c.task-open.result
          c.task-open.ensures.task c.index.result.now c.index.ensures,
      c.task-open.ensures.bound,
    )

pub index_mut-requires-2 : goal.index_mut-requires-2
index_mut-requires-2 c =
    omega (arith, ap (λ (v : CrewView). length v.inst.tasks) c.self.view_is, c.requires.task, c.self.invariant.count)

pub keep_both-requires-clause-count : goal.keep_both-requires-clause-count
keep_both-requires-clause-count c = length-set c.self.inside.cranes.items c.args.task None ∙ c.self.invariant.count

pub keep_both-requires-clause-range : goal.keep_both-requires-clause-range
keep_both-requires-clause-range c =
    let k = c.self.invariant in
    let f = c.self.inside in
    let low : c.args.task < length f.inst.tasks = omega (arith, ap (λ (v : CrewView). length v.inst.tasks) c.self.view_is, c.requires.task) in
    range_set f.inst f.cranes.items c.args.task None k.range (omega (arith, low, k.count)) (λ n e. absurd (no_crane_some n e))

pub keep_both-requires-clause-spots : goal.keep_both-requires-clause-spots
keep_both-requires-clause-spots c = c.self.invariant.spots

pub keep_both-requires-clause-soonest : goal.keep_both-requires-clause-soonest
keep_both-requires-clause-soonest c =
    let k = c.self.invariant in
    let f = c.self.inside in
    let low : c.args.task < length f.inst.tasks = omega (arith, ap (λ (v : CrewView). length v.inst.tasks) c.self.view_is, c.requires.task) in
    take_soonest f.inst f.cranes.items f.soonest.items k.soonest c.args.task low k.count

pub keep_both-requires-clause-task : goal.keep_both-requires-clause-task
keep_both-requires-clause-task c = omega (arith, ap (λ (v : CrewView). length v.inst.tasks) c.self.view_is, c.requires.task)

pub keep_both-requires-clause-crane : goal.keep_both-requires-clause-crane
keep_both-requires-clause-crane c =
    let some = ap (λ (v : CrewView). crane_in v.cranes c.args.task) c.self.view_is ∙ c.requires.some in
    c.self.invariant.range c.args.task c.args.crane some

pub keep_both-requires-clause-was : goal.keep_both-requires-clause-was
keep_both-requires-clause-was c =
    let k = c.self.invariant in
    let f = c.self.inside in
    let low : c.args.task < length f.inst.tasks = omega (arith, ap (λ (v : CrewView). length v.inst.tasks) c.self.view_is, c.requires.task) in
    let some = ap (λ (v : CrewView). crane_in v.cranes c.args.task) c.self.view_is ∙ c.requires.some in (
      f.cranes.items,
      k.table,
      k.trips,
      take_changes f.inst f.cranes.items f.soonest.items k.soonest c.args.task low k.count c.args.crane some,
    )

pub invariant_of-self : goal.invariant_of-self
invariant_of-self c =
    let k = c.self.invariant in
    let f = c.self.inside in
    let low : c.args.task < length f.inst.tasks = omega (arith, ap (λ (v : CrewView). length v.inst.tasks) c.self.view_is, c.requires.task) in
    let some = ap (λ (v : CrewView). crane_in v.cranes c.args.task) c.self.view_is ∙ c.requires.some in
    let kept = c.keep_both.ensures f.cranes.items k.table k.trips
    (take_changes f.inst f.cranes.items f.soonest.items k.soonest c.args.task low k.count c.args.crane some) in
    record {
      valid = k.valid;
      count = length-set f.cranes.items c.args.task None ∙ k.count;
      range = range_set f.inst f.cranes.items c.args.task None k.range (omega (arith, low, k.count))
          (λ n e. absurd (no_crane_some n e));
      left = take_left f.inst k.valid f.cranes.items f.left.items k.left c.args.task low k.count c.task-open.result
          c.task-open.ensures.task c.index.result.now c.index.ensures (ap is_none some);
      spots = k.spots;
      table = kept.0;
      trips = kept.1;
      soonest = take_soonest f.inst f.cranes.items f.soonest.items k.soonest c.args.task low k.count;
      step = k.step;
      bare = k.bare;
    }

pub overflow_cast-bay : goal.overflow_cast-bay
overflow_cast-bay c = search rules

pub returns : goal.returns
returns c = search rules
