use Rattle.std.proofs.Common.{◌<◌, length, sym, subst, ap, ◌∙◌, arith}
use Rattle.std.proofs.lemmas.List.{get_or_default}
use Rattle.qc_dispatch.specs.declared.stage.Stage.{Stage}
use Rattle.qc_dispatch.specs.declared.stage.Stage.TheVariants.{Waiting}
use Rattle.qc_dispatch.specs.declared.waits.Wait.{Wait}
use Rattle.qc_dispatch.specs.Course.{Course}
use Rattle.qc_dispatch.specs.Fields.{course_of}
use Rattle.qc_dispatch.specs.Waits.{moment_of, no_wait, wait_of}
use Rattle.qc_dispatch.proofs.NextLemmas.{may_start}
use Rattle.qc_dispatch.proofs.dispatch.Dispatch.may_start.Goals as goal

pub returns : goal.returns
returns c =
    let f = c.self.inside in
    let j = c.args.task in
    let inside : j < length f.inst.tasks = subst (λ (x : Course). j < length x.inst.tasks) (sym c.self.view_is) c.requires in
    let stage = get_or_default f.stages.items j Waiting c.index.result.now (omega (arith, inside, c.self.invariant.course.stages)) ∙ sym c.index.ensures in
    let wait = get_or_default f.waits.items.items j no_wait c.index-wait.result.now (omega (arith, inside, c.self.invariant.waits_are.count))
    ∙ sym c.index-wait.ensures in
    let at = ap (λ (s : Stage). moment_of f.clock s (wait_of f.waits.items.items j)) stage
    ∙ ap (λ (w : Wait). moment_of f.clock c.index.result.now w) wait ∙ sym c.moment_of.ensures in
    rw (← c.self.view_is) (may_start (course_of f) f.marks.items f.waits.items.items c.self.invariant j inside c.moment_of.result at)
