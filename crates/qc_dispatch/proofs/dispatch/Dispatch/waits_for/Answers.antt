use Rattle.std.proofs.Common.{◌<◌, length, sym, subst}
use Rattle.qc_dispatch.specs.Course.{Course}
use Rattle.qc_dispatch.specs.Fields.{course_of}
use Rattle.qc_dispatch.proofs.LeaderLemmas.{awaits, awaits_none}
use Rattle.qc_dispatch.proofs.dispatch.Dispatch.waits_for.Goals as goal

pub returns-in-Some : goal.returns-in-Some
returns-in-Some c =
    let f = c.self.inside in
    let j = c.args.task in
    let inside : j < length f.inst.tasks = subst (λ (x : Course). j < length x.inst.tasks) (sym c.self.view_is) c.requires in
    rw (← c.self.view_is)
    (awaits (course_of f) f.marks.items f.waits.items.items c.self.invariant j inside (length f.stages.items) c.self.invariant.course.stages
    c.in-Some.next (rw (c.as_slice.ensures.value, c.as_slice-2.ensures.value, c.as_slice-3.ensures.value) at c.in-Some.ensures))

pub returns-in-None : goal.returns-in-None
returns-in-None c =
    let f = c.self.inside in
    let j = c.args.task in
    let inside : j < length f.inst.tasks = subst (λ (x : Course). j < length x.inst.tasks) (sym c.self.view_is) c.requires in
    rw (← c.self.view_is)
    (awaits_none (course_of f) f.marks.items f.waits.items.items c.self.invariant j inside (length f.stages.items) c.self.invariant.course.stages
    (rw (c.as_slice.ensures.value, c.as_slice-2.ensures.value, c.as_slice-3.ensures.value) at c.in-None.ensures))
