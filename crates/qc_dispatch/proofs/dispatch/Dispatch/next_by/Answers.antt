use Rattle.qc_dispatch.specs.Fields.{course_of}
use Rattle.qc_dispatch.proofs.NextLemmas.{comes_by}
use Rattle.qc_dispatch.proofs.dispatch.Dispatch.next_by.Goals as goal

pub returns : goal.returns
returns c =
    let f = c.self.inside in
    rw (← c.self.view_is, c.within.ensures)
    (comes_by (course_of f) f.marks.items f.waits.items.items c.self.invariant c.as_slice.result.now c.as_slice.ensures.value
    c.as_slice-2.result.now c.as_slice-2.ensures.value c.args.to c.next_start.result c.next_start.ensures)
