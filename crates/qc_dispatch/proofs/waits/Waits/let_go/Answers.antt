use Rattle.std.proofs.Common.{◌≡◌, ◌<◌, ℕ, length, true, false, slice_index_or, sym, ap, ◌∙◌, arith}
use Rattle.qc_dispatch.specs.Marks.{mark}
use Rattle.qc_dispatch.proofs.TableLemmas.{go_more, go_over, gone_is}
use Rattle.qc_dispatch.proofs.waits.Waits.let_go.Goals as goal
use Rattle.qc_dispatch.proofs.waits.Waits.let_go.Goals.{then-marks-cell, else-marks-cell}

pub loop-j-preserved : goal.loop-j-preserved
loop-j-preserved c =
    let inst = c.args.inst.now in
    let plan = c.args.slots.now in
    let marks = c.args.marks.now in
    let at = ap (λ (k : ℕ). slice_index_or marks k false) c.cell.ensures in
    elim c.if-marks-cell.branch [
      | then-marks-cell w ↦
          let inside : c.loop-j.j < length c.args.self.now.items.items = omega (arith, c.loop-j-test.true, c.task_count-j-end.ensures.count, c.requires.count) in
          let marked : mark marks c.args.task c.loop-j.j ≡ true = sym at ∙ w.if-marks-cell.true in
          rw w.self-is (go_more inst plan marks c.args.task c.args.moment c.loop-j.j c.args.self.now.items.items c.loop-j.self.items.items _
          inside c.loop-j.invariant marked (gone_is inst plan c.args.task c.args.moment c.loop-j.j c.loop-j.self.items.items w.index-wait.result.now w.gap.result w.max.result
          (omega (arith, inside, c.loop-j.invariant.count)) w.index-wait.ensures w.gap.ensures.ticks w.max.ensures))
      | else-marks-cell w ↦
          let unmarked : mark marks c.args.task c.loop-j.j ≡ false = sym at ∙ w.if-marks-cell.false in
          rw w.self-is (go_over inst plan marks c.args.task c.args.moment c.loop-j.j c.args.self.now.items.items c.loop-j.self.items.items c.loop-j.invariant unmarked)
    ]
