use Rattle.std.proofs.Common.{sym, subst, arith}
use Rattle.qc_dispatch.specs.Course.{Course}
use Rattle.qc_dispatch.specs.Fields.{course_of}
use Rattle.qc_dispatch.specs.Kept.{ComesBy, IsSoonest}
use Rattle.qc_dispatch.proofs.CourseLemmas.{goes_later, goes_started}
use Rattle.qc_dispatch.proofs.KeptLemmas.{crane_read, goes_on_later, kept_later, kept_started}
use Rattle.std.proofs.Common.{None}
use Rattle.qc_dispatch.proofs.dispatch.Dispatch.advance.Goals as goal

pub invariant_of-self : goal.invariant_of-self
invariant_of-self c =
    let f = c.self.inside in
    let soonest = subst (λ (x : Course). IsSoonest x c.args.to c.in-Some.next) (sym c.self.view_is) c.in-Some.ensures in
    kept_started (course_of f) f.marks.items f.waits.items.items c.self.invariant c.in-Some.next.task c.in-Some.next.moment soonest.from soonest.may
    (omega (arith, soonest.by, c.requires.by))

pub invariant_of-self-in-None : goal.invariant_of-self-in-None
invariant_of-self-in-None c =
    let f = c.self.inside in
    kept_later (course_of f) f.marks.items f.waits.items.items c.self.invariant c.args.to (rw (← c.self.view_is) at c.requires.from) c.requires.by

pub returns-in-Some-clause-keeps : goal.returns-in-Some-clause-keeps
returns-in-Some-clause-keeps c =
    let f = c.self.inside in
    let soonest = subst (λ (x : Course). IsSoonest x c.args.to c.in-Some.next) (sym c.self.view_is) c.in-Some.ensures in
    (goes_started (course_of f) c.self.invariant.course c.in-Some.next.task c.in-Some.next.moment soonest.from soonest.may).keeps

pub returns-in-None-clause-keeps : goal.returns-in-None-clause-keeps
returns-in-None-clause-keeps c =
    let from = rw (← c.self.view_is) at c.requires.from in
    (goes_later (course_of c.self.inside) c.self.invariant.course c.args.to from).keeps

pub returns-in-None-clause-goes_on : goal.returns-in-None-clause-goes_on
returns-in-None-clause-goes_on c =
    let f = c.self.inside in
    let none = subst (λ (x : Course). ComesBy x c.args.to None) (sym c.self.view_is) c.in-None.ensures in
    let from = rw (← c.self.view_is) at c.requires.from in
    goes_on_later (course_of f) f.marks.items f.waits.items.items c.self.invariant c.args.to from none

pub returns-in-Some-clause-inside : goal.returns-in-Some-clause-inside
returns-in-Some-clause-inside c =
    let f = c.self.inside in
    let soonest = subst (λ (x : Course). IsSoonest x c.args.to c.in-Some.next) (sym c.self.view_is) c.in-Some.ensures in
    let feasible = c.self.invariant.course.feasible in (
      soonest.may.task,
      crane_read f.slots.items c.in-Some.next.task _ c.index.result.now (omega (arith, soonest.may.task, feasible.all_tasks)) c.index.ensures
          (feasible.crane_range c.in-Some.next.task soonest.may.task),
    )
