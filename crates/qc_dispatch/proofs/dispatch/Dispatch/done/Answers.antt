use Rattle.std.proofs.Common.{Bool, List, sym, subst, ap, ◌∙◌}
use Rattle.qc_dispatch.specs.Course.{end_at, end_in}
use Rattle.qc_dispatch.specs.Fields.{course_of}
use Rattle.qc_dispatch.specs.Promises.{Keeps}
use Rattle.qc_dispatch.specs.Marks.{mark}
use Rattle.qc_dispatch.proofs.CourseLemmas.{goes_ended}
use Rattle.qc_dispatch.proofs.KeptLemmas.{ended_seen, idle_read, kept_ended, runs_read}
use Rattle.qc_dispatch.proofs.WaitLemmas.{some_open}
use Rattle.qc_dispatch.proofs.dispatch.Dispatch.done.Goals as goal

pub let_go-requires-clause-some : goal.let_go-requires-clause-some
let_go-requires-clause-some c = λ j low marked.
    let f = c.self.inside in
    let runs = runs_read (course_of f) _ c.args.task c.in-Running.start _ c.self.invariant.course c.self.view_is c.requires.inside c.index.ensures c.in-Running.is in
    some_open f.inst f.slots.items f.marks.items (end_at (course_of f)) f.waits.items.items c.self.invariant.waits_are c.args.task j runs.inside low (ap end_in runs.ran)
    (ap (λ (ms : List Bool). mark ms c.args.task j) (sym c.as_slice-2.ensures.value) ∙ marked)

pub returns-clause-keeps : goal.returns-clause-keeps
returns-clause-keeps c =
    let f = c.self.inside in
    let runs = runs_read (course_of f) _ c.args.task c.in-Running.start _ c.self.invariant.course c.self.view_is c.requires.inside c.index.ensures c.in-Running.is in
    (goes_ended (course_of f) c.self.invariant.course c.args.task c.in-Running.start runs.inside runs.ran).keeps

pub invariant_of-self : goal.invariant_of-self
invariant_of-self c =
    let f = c.self.inside in
    let runs = runs_read (course_of f) _ c.args.task c.in-Running.start _ c.self.invariant.course c.self.view_is c.requires.inside c.index.ensures c.in-Running.is in
    kept_ended (course_of f) f.marks.items f.waits.items.items c.self.invariant c.args.task c.in-Running.start runs.inside runs.ran c.let_go.new.self.items.items
    (rw (c.as_slice.ensures.value, c.as_slice-2.ensures.value) at c.let_go.ensures)

pub let_go-requires-clause-plan : goal.let_go-requires-clause-plan
let_go-requires-clause-plan c = rw c.as_slice.ensures.value c.self.invariant.course.feasible

pub returns-clause-reported : goal.returns-clause-reported
returns-clause-reported c =
    let f = c.self.inside in
    let runs = runs_read (course_of f) _ c.args.task c.in-Running.start _ c.self.invariant.course c.self.view_is c.requires.inside c.index.ensures c.in-Running.is in
    ended_seen (course_of f) c.args.self.now c.args.task c.in-Running.start c.self.view_is runs.ran

pub returns-in_default : goal.returns-in_default
returns-in_default c = record {
  reported = idle_read (course_of c.self.inside) c.args.self.now c.args.task _ c.self.invariant.course c.self.view_is c.requires.inside
      c.index.ensures c.in_default.not-Running;
  keeps = subst Keeps c.self.view_is c.self.invariant.course.keeps;
}
