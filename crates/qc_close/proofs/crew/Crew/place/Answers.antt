use Rattle.std.proofs.Common.{length, ap, arith, ◌∙◌}
use Rattle.std.proofs.lemmas.Int.{ints}
use Rattle.qc_close.specs.Model.{Task, InstanceView, bay_of}
use Rattle.qc_close.proofs.LoopLemmas.{near_of, on_ship}
use Rattle.qc_close.proofs.crew.Crew.place.Goals as goal

pub returns-clause-near : goal.returns-clause-near
returns-clause-near c =
    let same = ap (λ (i : InstanceView). length i.tasks) c.instance.ensures.same in
    let here =
    on_ship c.instance.result.now c.task-bay.ensures.valid c.args.task (omega (arith, same, c.requires.task)) c.task-bay.result
    c.task-bay.ensures.task in
    near_of c.task-bay.result.bay c.gaps.result here.0 here.1 c.gaps.ensures.bound

pub returns-clause-place : goal.returns-clause-place
returns-clause-place c =
    let same = ap (λ (i : InstanceView). length i.tasks) c.instance.ensures.same in
    let here =
    on_ship c.instance.result.now c.task-bay.ensures.valid c.args.task (omega (arith, same, c.requires.task)) c.task-bay.result
    c.task-bay.ensures.task in
    let bay = ap (λ (t : Task). t.bay) c.task-bay.ensures.task ∙ ap (λ (i : InstanceView). bay_of i c.args.task) c.instance.ensures.same in
    omega (arith, ints, bay, here.0, here.1, c.gaps.ensures.bays, c.gaps.ensures.bound)
