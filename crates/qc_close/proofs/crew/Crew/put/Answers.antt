use Rattle.std.proofs.Common.{◌<◌, Some, length, ap, ◌∙◌, arith, rules}
use Rattle.std.proofs.lemmas.List.{length-set}
use Rattle.qc_model.specs.Assignments.{crane_in}
use Rattle.qc_close.specs.Crews.{CrewView}
use Rattle.qc_close.proofs.KeptLemmas.{bay_inside, put_changes, put_fits, put_left, put_soonest, range_set, same_crane}
use Rattle.qc_close.proofs.crew.Crew.put.Goals as goal

pub index_mut-requires : goal.index_mut-requires
index_mut-requires c =
    let k = c.self.invariant in
    let f = c.self.inside in
    let low : c.args.task < length f.inst.tasks = omega (arith, ap (λ (v : CrewView). length v.inst.tasks) c.self.view_is, c.requires.task) in
    omega (
      arith,
      bay_inside f.inst k.valid f.cranes.items f.left.items k.left c.args.task low c.task-done.result c.task-done.ensures.task,
      f.left.ok.0,
    )

pub index-requires : goal.index-requires
index-requires c =
    let k = c.self.invariant in
    let f = c.self.inside in
    let low : c.args.task < length f.inst.tasks = omega (arith, ap (λ (v : CrewView). length v.inst.tasks) c.self.view_is, c.requires.task) in
    omega (
      arith,
      bay_inside f.inst k.valid f.cranes.items f.left.items k.left c.args.task low c.task-done.result c.task-done.ensures.task,
      f.left.ok.0,
    )

pub overflow_sub-index : goal.overflow_sub-index
overflow_sub-index c =
    let k = c.self.invariant in
    let f = c.self.inside in
    let low : c.args.task < length f.inst.tasks = omega (arith, ap (λ (v : CrewView). length v.inst.tasks) c.self.view_is, c.requires.task) in
    let free = ap (λ (v : CrewView). crane_in v.cranes c.args.task) c.self.view_is ∙ c.requires.none in
    put_fits f.inst k.valid f.cranes.items f.left.items k.left c.args.task low k.count c.task-done.result
    c.task-done.ensures.task c.index.result.now c.index.ensures free c.args.crane

pub head-requires-clause-task : goal.head-requires-clause-task
head-requires-clause-task c = omega (arith, ap (λ (v : CrewView). length v.inst.tasks) c.self.view_is, c.requires.task)

pub head-requires-clause-crane : goal.head-requires-clause-crane
head-requires-clause-crane c = omega (arith, ap (λ (v : CrewView). length v.inst.cranes) c.self.view_is, c.requires.crane)

pub index_mut-requires-2 : goal.index_mut-requires-2
index_mut-requires-2 c =
    omega (arith, ap (λ (v : CrewView). length v.inst.tasks) c.self.view_is, c.requires.task, c.self.invariant.soonest.many)

pub index_mut-requires-3 : goal.index_mut-requires-3
index_mut-requires-3 c =
    omega (arith, ap (λ (v : CrewView). length v.inst.tasks) c.self.view_is, c.requires.task, c.self.invariant.count)

pub keep_both-requires-clause-count : goal.keep_both-requires-clause-count
keep_both-requires-clause-count c = length-set c.self.inside.cranes.items c.args.task (Some c.args.crane) ∙ c.self.invariant.count

pub keep_both-requires-clause-range : goal.keep_both-requires-clause-range
keep_both-requires-clause-range c =
    let k = c.self.invariant in
    let f = c.self.inside in
    let low : c.args.task < length f.inst.tasks = omega (arith, ap (λ (v : CrewView). length v.inst.tasks) c.self.view_is, c.requires.task) in
    let crane : c.args.crane < length f.inst.cranes = omega (arith, ap (λ (v : CrewView). length v.inst.cranes) c.self.view_is, c.requires.crane) in
    range_set f.inst f.cranes.items c.args.task (Some c.args.crane) k.range (omega (arith, low, k.count))
    (λ n e. same_crane c.args.crane n (length f.inst.cranes) e crane)

pub keep_both-requires-clause-spots : goal.keep_both-requires-clause-spots
keep_both-requires-clause-spots c = c.self.invariant.spots

pub keep_both-requires-clause-soonest : goal.keep_both-requires-clause-soonest
keep_both-requires-clause-soonest c =
    let k = c.self.invariant in
    let f = c.self.inside in
    let low : c.args.task < length f.inst.tasks = omega (arith, ap (λ (v : CrewView). length v.inst.tasks) c.self.view_is, c.requires.task) in
    put_soonest f.inst f.cranes.items f.soonest.items k.soonest c.args.task low k.count c.args.crane c.head.result
    c.head.ensures.ticks c.head.ensures.bound

pub keep_both-requires-clause-task : goal.keep_both-requires-clause-task
keep_both-requires-clause-task c = omega (arith, ap (λ (v : CrewView). length v.inst.tasks) c.self.view_is, c.requires.task)

pub keep_both-requires-clause-crane : goal.keep_both-requires-clause-crane
keep_both-requires-clause-crane c = omega (arith, ap (λ (v : CrewView). length v.inst.cranes) c.self.view_is, c.requires.crane)

pub keep_both-requires-clause-was : goal.keep_both-requires-clause-was
keep_both-requires-clause-was c =
    let k = c.self.invariant in
    let f = c.self.inside in
    let low : c.args.task < length f.inst.tasks = omega (arith, ap (λ (v : CrewView). length v.inst.tasks) c.self.view_is, c.requires.task) in
    let free = ap (λ (v : CrewView). crane_in v.cranes c.args.task) c.self.view_is ∙ c.requires.none in (
      f.cranes.items,
      k.table,
      k.trips,
      put_changes f.inst f.cranes.items f.soonest.items k.soonest c.args.task low k.count c.args.crane free,
    )

pub invariant_of-self : goal.invariant_of-self
invariant_of-self c =
    let k = c.self.invariant in
    let f = c.self.inside in
    let low : c.args.task < length f.inst.tasks = omega (arith, ap (λ (v : CrewView). length v.inst.tasks) c.self.view_is, c.requires.task) in
    let crane : c.args.crane < length f.inst.cranes = omega (arith, ap (λ (v : CrewView). length v.inst.cranes) c.self.view_is, c.requires.crane) in
    let free = ap (λ (v : CrewView). crane_in v.cranes c.args.task) c.self.view_is ∙ c.requires.none in
    let kept = c.keep_both.ensures f.cranes.items k.table k.trips
    (put_changes f.inst f.cranes.items f.soonest.items k.soonest c.args.task low k.count c.args.crane free) in
    record {
      valid = k.valid;
      count = length-set f.cranes.items c.args.task (Some c.args.crane) ∙ k.count;
      range = range_set f.inst f.cranes.items c.args.task (Some c.args.crane) k.range (omega (arith, low, k.count))
          (λ n e. same_crane c.args.crane n (length f.inst.cranes) e crane);
      left = put_left f.inst k.valid f.cranes.items f.left.items k.left c.args.task low k.count c.task-done.result
          c.task-done.ensures.task c.index.result.now c.index.ensures free c.args.crane;
      spots = k.spots;
      table = kept.0;
      trips = kept.1;
      soonest = put_soonest f.inst f.cranes.items f.soonest.items k.soonest c.args.task low k.count c.args.crane c.head.result
          c.head.ensures.ticks c.head.ensures.bound;
      step = k.step;
      bare = k.bare;
    }

pub overflow_cast-bay : goal.overflow_cast-bay
overflow_cast-bay c = search rules

pub returns : goal.returns
returns c = search rules
