use Rattle.std.proofs.Common.{◌≡◌, ℕ, true, false, slice_index_or, sym, ap, ◌∙◌, arith}
use Rattle.qc_dispatch.specs.Marks.{mark}
use Rattle.qc_dispatch.proofs.Counts.{tally}
use Rattle.qc_dispatch.proofs.WaitLemmas.{leaders_more}
use Rattle.qc_dispatch.proofs.waits.leaders_of.Goals as goal
use Rattle.qc_dispatch.proofs.waits.leaders_of.Goals.{then-marks-cell, else-marks-cell}

pub loop-i-preserved : goal.loop-i-preserved
loop-i-preserved c =
    let marks = c.args.marks.now in
    let more = leaders_more marks c.loop-i.i c.args.j in
    let at = ap (λ (k : ℕ). slice_index_or marks k false) c.cell.ensures in
    elim c.if-marks-cell.branch [
      | then-marks-cell w ↦
          let marked : mark marks c.loop-i.i c.args.j ≡ true = sym at ∙ w.if-marks-cell.true in
          (omega (arith, more, ap tally marked, w.leaders-is, c.loop-i.invariant.0), omega (arith, w.leaders-is, c.loop-i.invariant.1))
      | else-marks-cell w ↦
          let unmarked : mark marks c.loop-i.i c.args.j ≡ false = sym at ∙ w.if-marks-cell.false in
          (omega (arith, more, ap tally unmarked, w.leaders-is, c.loop-i.invariant.0), omega (arith, w.leaders-is, c.loop-i.invariant.1))
    ]
